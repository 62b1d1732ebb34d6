use mathlib.Core.Path.{refl, sym, ap, ◌∙◌}
use mathlib.Core.List.{List, ◌++◌}
use Prim.Native.Nat.{ℕ}
use native.Mathlib.Omega.{arith}
use lib.ListN.{drop, set}
use lib.IntN.{ℤ}
use lib.Seq.{length-take-le}
use mir.Syntax.{w64}
use mir.Val.{SFits}
use mir.Facts.{to_z-of_z}
use borrow.Author.Rules.{rules}
use Rattle.refusals.specs.declared.Refusal.TheVariants.{InputIllFormed}
use Rattle.txset.specs.Sets.{put_at}
use Rattle.cluster_reader.proofs.Reading.{none_taken, stop, turn, tail, done, member_lines, member_malformed, refused_left, cluster_left}
use Rattle.cluster_reader.proofs.read_members.Goals as goal

pub loop-i-init : goal.loop-i-init
loop-i-init c = none_taken c.args.n c.args.text.now c.args.from _ _ _ c.requires.from_in_bounds refl refl refl

pub returns-in_default : goal.returns-in_default
returns-in_default c =
    let e = sym c.read_member.ensures ∙ c.in_default.is in
    let l = refused_left InputIllFormed {fs = c.args.fees.now} {ss = c.args.sizes.now} {ps = c.args.parents.now} (stop c.loop-i.invariant c.loop-i-test.true (member_malformed c.args.text.now c.loop-i.at e)) in
    record { result_value = l.0; fees_after = l.1.0; sizes_after = l.1.1.0; parents_after = l.1.1.1 }

pub read_member-requires : goal.read_member-requires
read_member-requires c = c.loop-i.invariant.within

pub loop-i-preserved : goal.loop-i-preserved
unfolding put_at
loop-i-preserved c =
    let e = sym c.read_member.ensures ∙ c.in-Some.is in
    let h : SFits w64 c.in-Some.m.fee = search rules in
    turn c.loop-i.invariant c.loop-i-test.true c.requires.n_le_positions c.in-Some.m
    (member_lines c.args.text.now c.loop-i.at c.in-Some.m e)
    (c.put.ensures.fees_after ∙ ap (set c.loop-i.new_fees c.loop-i.i) (to_z-of_z h))
    c.put.ensures.sizes_after
    c.put-in-loop-i.ensures

pub returns-then-at-text : goal.returns-then-at-text
returns-then-at-text c =
    let l = refused_left InputIllFormed {fs = c.args.fees.now} {ss = c.args.sizes.now} {ps = c.args.parents.now} (tail c.loop-i.invariant c.loop-i-test.false (omega (arith, c.loop-i.invariant.within))) in
    record { result_value = l.0; fees_after = l.1.0; sizes_after = l.1.1.0; parents_after = l.1.1.1 }

pub returns : goal.returns
returns c =
    let l =
    cluster_left c.args.fees.now c.args.sizes.now c.args.parents.now c.args.n
    (done c.loop-i.invariant c.loop-i-test.false (omega (arith, c.if-at-text.false)))
    (length-take-le c.args.n c.loop-i.new_fees (omega (arith, c.requires.n_le_positions, c.loop-i.invariant.fees)))
    (ap (λ (l : List ℤ). l ++ drop c.args.n c.args.fees.now) c.copy_from_slice.ensures.after)
    (ap (λ (l : List ℕ). l ++ drop c.args.n c.args.sizes.now) c.copy_from_slice-2.ensures.after)
    (ap (λ (l : List ℕ). l ++ drop c.args.n c.args.parents.now) c.copy_from_slice-3.ensures.after) in
    record { result_value = l.0; fees_after = l.1.0; sizes_after = l.1.1.0; parents_after = l.1.1.1 }
