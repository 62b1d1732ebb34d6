use Prim.Native.Nat.{◌+◌, ◌-◌, ◌≤◌, ◌<◌}
use mathlib.Core.Path.{◌≡◌, refl, sym, ap, ◌∙◌}
use native.Mathlib.Omega.{arith}
use lib.ListN.{length, set}
use borrow.Author.Rules.{rules}
use Rattle.passes.proofs.Groups.{nth, stored, single_stands}
use Rattle.passes.proofs.Scan.{outer_start, outer_next, outer_again, outer_done}
use Rattle.passes.proofs.Scan.{inner_start, inner_len, inner_merge, inner_step, inner_placed, inner_lies, inner_same}
use Rattle.passes.proofs.Scan.{Stopped, at_bottom, at_top, stopped_at}
use Rattle.passes.proofs.pass.settle_all.Given.{Over}
use Rattle.passes.proofs.pass.settle_all.Goals as goal
use Rattle.passes.proofs.pass.settle_all.Goals.{At-loop-count, Joined-below-eq0, then-below-eq0, else-below-eq0+then-not-higher_rate}

pub loop-k-init : goal.loop-k-init
loop-k-init g c = outer_start _ _ _ _ c.requires.1.1.0

pub rate-requires : goal.rate-requires
rate-requires g c = c.requires.1.0.may _

pub loop-count-init : goal.loop-count-init
loop-count-init g c =
    rw c.start-way.ensures
    (inner_start c.loop-k.invariant c.loop-k-test.true (single_stands c.alone-cur.ensures c.at.ensures (c.requires.1.0.each _ _ c.rate.ensures)))

-- how the scan was left
stopped : (g : Over) (c : Joined-below-eq0 g) → Stopped (nth c.loop-count.groups) c.loop-count.cur c.loop-count.way.below c.if-below-eq0.at
stopped g c =
    elim c.if-below-eq0.branch [
      | then-below-eq0 w ↦ rw w.at-is (at_bottom w.if-below-eq0.true)
      | else-below-eq0+then-not-higher_rate w ↦
          rw w.at-is (at_top _ refl (search rules) (sym w.higher_rate.ensures ∙ w.if-not-higher_rate.true))
    ]

-- the group below stands in the list before those ahead
below_len : (g : Over) (c : At-loop-count g) → 0 < c.loop-count.way.below → (nth c.loop-count.groups (c.loop-count.way.below - 1)).len ≤ c.loop-count.way.from
below_len g c some = inner_len c.loop-count.invariant (outer_next c.loop-k.invariant c.loop-k-test.true) some refl

pub merged-way-requires : goal.merged-way-requires
merged-way-requires g c =
    let some : 0 < c.loop-count.way.below = search rules in
    (some, below_len g (goal.at.merged-way-requires g c).At-loop-count some)

pub absorb_before-cur-requires : goal.absorb_before-cur-requires
absorb_before-cur-requires g c = let v = c.loop-count.invariant in
    omega (arith, below_len g (goal.at.absorb_before-cur-requires g c).At-loop-count (search rules), v.room, c.loop-count.auto.order)

pub loop-count-preserved-then-overlaps : goal.loop-count-preserved-then-overlaps
loop-count-preserved-then-overlaps g c =
    rw c.merged-way.ensures
    (inner_merge c.loop-count.invariant
    (outer_next c.loop-k.invariant c.loop-k-test.true) (search rules) refl
    c.bring.ensures
    (sym c.higher_rate.ensures ∙ c.if-not-higher_rate.false) (sym c.overlaps.ensures ∙ c.if-overlaps.true)
    c.absorb_before-cur.ensures)

pub passed-way-requires : goal.passed-way-requires
passed-way-requires g c =
    let some : 0 < c.loop-count.way.below = search rules in
    let long = below_len g (goal.at.passed-way-requires g c).At-loop-count some in
    let v = c.loop-count.invariant in record {
      below_nonzero = (some, long);
      len_bound = (omega (arith, long, v.room, c.loop-count.auto.order), omega (arith, v.room, c.loop-count.auto.order));
    }

-- the group below waits at its place
pub loop-count-preserved : goal.loop-count-preserved
loop-count-preserved g c =
    let v = c.loop-count.invariant in
    rw c.passed-way.ensures
    (inner_step v
    (outer_next c.loop-k.invariant c.loop-k-test.true) (search rules) refl
    (sym c.higher_rate.ensures ∙ c.if-not-higher_rate.false) (sym c.overlaps.ensures ∙ c.if-overlaps.false)
    (stored _ _ _ (omega (arith, c.loop-count.auto.groups, v.room, v.small))))

pub loop-k-preserved : goal.loop-k-preserved
loop-k-preserved g c =
    let end = stopped g (goal.at.loop-k-preserved g c).Joined-below-eq0 in
    let scan = c.loop-count.invariant in
    let next = outer_next c.loop-k.invariant c.loop-k-test.true in
    let at = c.if-below-eq0.at in
    let over = c.loop-count.way.over in
    let places = length c.args.groups.now in
    let fits : at + over < places = omega (arith, stopped_at end, scan.room.few, scan.small) in
    let kept = c.copy_within.ensures.by_index in
    outer_again c.loop-k.invariant c.loop-k-test.true
    (inner_placed scan next end
    (stored _ _ _ (omega (arith, c.loop-count.auto.groups, fits)))
    (λ i l. kept.1 i _ l)
    (λ i l.
    let from : places - over + (at + 1 + i - (at + 1)) ≡ places - over + i = omega arith in
    kept.0 _ _ (omega arith) (omega (arith, fits)) ∙ ap (nth (set c.loop-count.groups at c.loop-count.cur)) from))
    (c.bring-in-loop-k.ensures ∙ inner_lies scan next end)
    (ap length c.bring-in-loop-k.ensures ∙ inner_same scan next end)

pub returns : goal.returns
returns g c = outer_done c.loop-k.invariant c.loop-k-test.false
