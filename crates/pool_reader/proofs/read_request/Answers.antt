use mathlib.Core.Path.{◌≡◌, sym, ap, ◌∙◌}
use mathlib.Core.List.{List}
use Prim.Native.Nat.{ℕ, ◌+◌, ◌≤◌}
use native.Mathlib.Omega.{arith}
use lib.ListN.{length, take}
use lib.Seq.{length-take-le}
use Rattle.texts.specs.Places.{place_of}
use Rattle.texts.proofs.Places.{place_le}
use Rattle.pool_reader.specs.Requests.{longest_line, request_of, by_word}
use Rattle.pool_reader.specs.Steps.{words_at, Place}
use Rattle.pool_reader.proofs.Reading.{word_is}
use Rattle.pool_reader.proofs.Asking.{too_long, by_word_lem, first_within, by_add, by_remove, by_set_cost, by_plain}
use Rattle.pool_reader.proofs.read_request.Goals as goal

-- where the first word ends
module _ (line : List ℕ) (end : ℕ) (short : length line ≤ longest_line) (is : end ≡ place_of 32 line 0) where
  within : end ≤ length line
  within = omega (arith, is, place_le 32 line 0 (omega arith))

  behind : Place line (end + 1)
  behind = first_within line short end within

  asks : request_of line ≡ by_word (take end line) (words_at line (end + 1))
  asks = by_word_lem line short ∙ ap (λ (e : ℕ). by_word (take e line) (words_at line (e + 1))) (sym is)

  whole : end ≡ length (take end line)
  whole = sym (length-take-le end line within)

pub returns-then-line-gt-LONGEST : goal.returns-then-line-gt-LONGEST
returns-then-line-gt-LONGEST c = sym (too_long c.args.line.now c.if-line-gt-LONGEST.true)

pub read_add-requires : goal.read_add-requires
read_add-requires c = behind c.args.line.now c.place-end.result c.if-line-gt-LONGEST.false c.place-end.ensures

pub read_remove-requires : goal.read_remove-requires
read_remove-requires c = behind c.args.line.now c.place-end.result c.if-line-gt-LONGEST.false c.place-end.ensures

pub read_set_cost-requires : goal.read_set_cost-requires
read_set_cost-requires c = behind c.args.line.now c.place-end.result c.if-line-gt-LONGEST.false c.place-end.ensures

pub read_plain-requires : goal.read_plain-requires
read_plain-requires c = behind c.args.line.now c.place-end.result c.if-line-gt-LONGEST.false c.place-end.ensures

pub returns-then-eq : goal.returns-then-eq
returns-then-eq c =
    let asked = asks c.args.line.now c.place-end.result c.if-line-gt-LONGEST.false c.place-end.ensures in
    c.read_add.ensures ∙ sym (asked ∙ by_add _ _ (word_is (take c.place-end.result c.args.line.now) c.as_slice.result.now _ c.eq.ensures c.as_slice.ensures ∙ c.if-eq.true))

pub returns-then-eq-2 : goal.returns-then-eq-2
returns-then-eq-2 c =
    let asked = asks c.args.line.now c.place-end.result c.if-line-gt-LONGEST.false c.place-end.ensures in
    c.read_remove.ensures _ ∙ sym (asked ∙ by_remove _ _ (word_is (take c.place-end.result c.args.line.now) c.as_slice.result.now _ c.eq.ensures c.as_slice.ensures ∙ c.if-eq.false) (word_is (take c.place-end.result c.args.line.now) c.as_slice-2.result.now _ c.eq-2.ensures c.as_slice-2.ensures ∙ c.if-eq-2.true))

pub returns-then-eq-3 : goal.returns-then-eq-3
returns-then-eq-3 c =
    let asked = asks c.args.line.now c.place-end.result c.if-line-gt-LONGEST.false c.place-end.ensures in
    c.read_set_cost.ensures _
    ∙ sym (asked ∙ by_set_cost _ _ (word_is (take c.place-end.result c.args.line.now) c.as_slice.result.now _ c.eq.ensures c.as_slice.ensures ∙ c.if-eq.false) (word_is (take c.place-end.result c.args.line.now) c.as_slice-2.result.now _ c.eq-2.ensures c.as_slice-2.ensures ∙ c.if-eq-2.false)
    (word_is (take c.place-end.result c.args.line.now) c.as_slice-3.result.now _ c.eq-3.ensures c.as_slice-3.ensures ∙ c.if-eq-3.true))

pub returns : goal.returns
returns c =
    let asked = asks c.args.line.now c.place-end.result c.if-line-gt-LONGEST.false c.place-end.ensures in
    c.read_plain.ensures _ _
    ∙ sym (asked ∙ by_plain _ _ (word_is (take c.place-end.result c.args.line.now) c.as_slice.result.now _ c.eq.ensures c.as_slice.ensures ∙ c.if-eq.false) (word_is (take c.place-end.result c.args.line.now) c.as_slice-2.result.now _ c.eq-2.ensures c.as_slice-2.ensures ∙ c.if-eq-2.false)
    (word_is (take c.place-end.result c.args.line.now) c.as_slice-3.result.now _ c.eq-3.ensures c.as_slice-3.ensures ∙ c.if-eq-3.false))

pub slice_bounds-word-end : goal.slice_bounds-word-end
slice_bounds-word-end c = whole c.args.line.now c.place-end.result c.if-line-gt-LONGEST.false c.place-end.ensures

pub overflow_add-end : goal.overflow_add-end
overflow_add-end c =
    omega (arith, within c.args.line.now c.place-end.result c.if-line-gt-LONGEST.false c.place-end.ensures, c.if-line-gt-LONGEST.false)

pub overflow_add-end-then-eq-2 : goal.overflow_add-end-then-eq-2
overflow_add-end-then-eq-2 c =
    omega (arith, within c.args.line.now c.place-end.result c.if-line-gt-LONGEST.false c.place-end.ensures, c.if-line-gt-LONGEST.false)

pub overflow_add-end-then-eq-3 : goal.overflow_add-end-then-eq-3
overflow_add-end-then-eq-3 c =
    omega (arith, within c.args.line.now c.place-end.result c.if-line-gt-LONGEST.false c.place-end.ensures, c.if-line-gt-LONGEST.false)
