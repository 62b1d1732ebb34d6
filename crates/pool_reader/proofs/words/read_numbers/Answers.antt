use mathlib.Core.Path.{◌≡◌, sym, ap, ◌∙◌}
use mathlib.Core.List.{List}
use Prim.Native.Nat.{ℕ, ◌-◌, ◌≤◌}
use native.Mathlib.Omega.{arith}
use lib.ListN.{length, take, drop, length-replicate}
use Rattle.std.proofs.Common.{Option}
use Rattle.texts.specs.Numerals.{number_of}
use Rattle.texts.specs.Places.{before, place_of}
use Rattle.texts.proofs.Places.{place_before, place_le}
use Rattle.pool_reader.proofs.Reading.{none_counted, no_word, no_number, counted, all_counted}
use Rattle.pool_reader.proofs.words.read_numbers.Goals as goal

within : (text : List ℕ) (at end : ℕ) → at ≤ length text → end ≡ place_of 32 text at → end ≤ length text
within text at end some is = omega (arith, is, place_le 32 text at some)

-- the word was read
word : (text : List ℕ) (at end : ℕ) (r : Option ℕ) → end ≡ place_of 32 text at → r ≡ number_of (take (end - at) (drop at text))
    → number_of (before 32 (drop at text)) ≡ r
word text at end r is n = sym (n ∙ ap number_of (ap (λ (e : ℕ). take (e - at) (drop at text)) is ∙ place_before 32 text at))

pub loop-value-init : goal.loop-value-init
loop-value-init g c = none_counted _ _ _ _ c.requires (length-replicate g.row.N 0)

pub returns-then-text-at : goal.returns-then-text-at
returns-then-text-at g c = no_word c.loop-value.invariant c.loop-value-test.true c.if-text-at.true

pub returns-in_err-value : goal.returns-in_err-value
returns-in_err-value g c =
    let w = word c.args.text.now c.loop-value.at c.place-end.result c.read_number.result c.place-end.ensures c.read_number.ensures in
    rw c.from_residual.ensures (no_number c.loop-value.invariant c.loop-value-test.true c.if-text-at.false (w ∙ c.in_err-value.was))

pub loop-value-preserved : goal.loop-value-preserved
loop-value-preserved g c =
    let w = word c.args.text.now c.loop-value.at c.place-end.result c.read_number.result c.place-end.ensures c.read_number.ensures in
    rw c.place-end.ensures
    (counted c.loop-value.invariant c.loop-value-test.true c.if-text-at.false c.in_ok-value.field-0 (w ∙ c.in_ok-value.was))

pub slice_bounds-read_number-end : goal.slice_bounds-read_number-end
slice_bounds-read_number-end g c = omega (arith, within c.args.text.now c.loop-value.at c.place-end.result c.if-text-at.false c.place-end.ensures)

pub returns : goal.returns
returns g c = all_counted c.loop-value.invariant c.loop-value-test.false
