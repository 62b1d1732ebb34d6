use mathlib.Core.Path.{◌≡◌, sym, ap, ◌∙◌, subst}
use mathlib.Core.List.{List}
use Prim.Native.Nat.{ℕ, ◌+◌, ◌-◌, ◌≤◌, ◌<◌, ◌^◌}
use native.Mathlib.Omega.{arith}
use lib.ListN.{length, take, drop}
use Rattle.std.proofs.Common.{Option}
use Rattle.texts.specs.Numerals.{number_of}
use Rattle.texts.specs.Places.{before, place_of}
use Rattle.texts.proofs.Places.{place_before, place_le}
use Rattle.cluster_reader.proofs.Named.{word_empty, word_insert, Named, nothing, start, bad_part, last, turn}
use Rattle.cluster_reader.proofs.parents_of.Goals as goal

pub returns-then-text-eq0 : goal.returns-then-text-eq0
returns-then-text-eq0 c =
    sym (nothing c.args.text.now c.empty-set.result c.if-text-eq0.true
    (word_empty c.empty-set.result (omega (arith, c.empty-set.type_inv)) c.empty-set.ensures))

pub loop-p-init : goal.loop-p-init
loop-p-init c =
    start c.args.text.now c.empty-set.result c.if-text-eq0.false
    (word_empty c.empty-set.result (omega (arith, c.empty-set.type_inv)) c.empty-set.ensures)

within : (text : List ℕ) (from end : ℕ) → end ≡ place_of 44 text from → from ≤ length text → end ≤ length text
within text from end e l = omega (arith, e, place_le 44 text from l)

-- the part was read
part : (text : List ℕ) (from end : ℕ) (r : Option ℕ) → end ≡ place_of 44 text from → r ≡ number_of (take (end - from) (drop from text))
    → number_of (before 44 (drop from text)) ≡ r
part text from end r e n =
    sym (n ∙ ap number_of (ap (λ (e : ℕ). take (e - from) (drop from text)) e ∙ place_before 44 text from))

pub returns-in_err-p : goal.returns-in_err-p
returns-in_err-p c =
    let n = part c.args.text.now c.loop-p.from c.place-end.result c.read_number.result c.place-end.ensures c.read_number.ensures in
    rw c.from_residual.ensures (sym (bad_part c.loop-p.invariant (n ∙ c.in_err-p.was)))

pub returns-then-end-text : goal.returns-then-end-text
returns-then-end-text c =
    let n = part c.args.text.now c.loop-p.from c.place-end.result c.read_number.result c.place-end.ensures c.read_number.ensures in
    let fits : c.insert-set.result.word < 2 ^ 64 = omega (arith, c.insert-set.type_inv) in
    let with = word_insert c.loop-p.set c.insert-set.result c.in_ok-p.p c.loop-p.invariant.fits fits c.insert-set.ensures in
    sym (last c.loop-p.invariant c.in_ok-p.p (n ∙ c.in_ok-p.was) c.insert-set.result fits with (sym c.place-end.ensures ∙ c.if-end-text.true))

pub loop-p-preserved : goal.loop-p-preserved
loop-p-preserved c =
    let n = part c.args.text.now c.loop-p.from c.place-end.result c.read_number.result c.place-end.ensures c.read_number.ensures in
    let fits : c.insert-set.result.word < 2 ^ 64 = omega (arith, c.insert-set.type_inv) in
    let with = word_insert c.loop-p.set c.insert-set.result c.in_ok-p.p c.loop-p.invariant.fits fits c.insert-set.ensures in
    let w = within c.args.text.now c.loop-p.from c.place-end.result c.place-end.ensures c.loop-p.invariant.within in
    subst (λ (e : ℕ). Named c.args.text.now c.insert-set.result (e + 1)) (sym c.place-end.ensures)
    (turn c.loop-p.invariant c.in_ok-p.p (n ∙ c.in_ok-p.was) c.insert-set.result fits with
    (omega (arith, c.place-end.ensures, w, c.if-end-text.false)))

pub slice_bounds-read_number-count : goal.slice_bounds-read_number-count
slice_bounds-read_number-count c = omega (arith, c.place-end.ensures)

pub slice_bounds-read_number-start : goal.slice_bounds-read_number-start
slice_bounds-read_number-start c = omega (arith, c.place-end.ensures)

pub slice_bounds-read_number-end : goal.slice_bounds-read_number-end
slice_bounds-read_number-end c =
    omega (arith, within c.args.text.now c.loop-p.from c.place-end.result c.place-end.ensures c.loop-p.invariant.within)

pub overflow_add-from : goal.overflow_add-from
overflow_add-from c =
    omega (arith, within c.args.text.now c.loop-p.from c.place-end.result c.place-end.ensures c.loop-p.invariant.within)

pub loop-p-smaller : goal.loop-p-smaller
loop-p-smaller c =
    omega (arith, within c.args.text.now c.loop-p.from c.place-end.result c.place-end.ensures c.loop-p.invariant.within, c.place-end.ensures)
