use mathlib.Core.Path.{◌≡◌, refl, sym, ap, ◌∙◌}
use mathlib.Core.List.{List}
use Prim.Native.Nat.{ℕ, ◌+◌}
use native.Mathlib.Omega.{arith}
use lib.ListN.{drop}
use mir.Syntax.{w64}
use mir.Val.{SFits}
use mir.Facts.{to_z-of_z}
use borrow.Author.Rules.{rules}
use Rattle.texts.specs.Numerals.{number_of, signed_of}
use Rattle.texts.specs.Places.{behind}
use Rattle.cluster_reader.specs.declared.lines.Span.{Span}
use Rattle.cluster_reader.specs.Reading.{fee_key, size_key, parents_key}
use Rattle.std.proofs.Common.{Some}
use Rattle.cluster_reader.specs.Steps.{parents_in, field_at}
use Rattle.cluster_reader.proofs.Places.{Field, field_between, field_malformed}
use Rattle.cluster_reader.proofs.Reading.{no_fee_line, no_fee, no_size_line, no_size, no_parents_line, no_parents, member_read}
use Rattle.cluster_reader.proofs.read_member.Goals as goal

-- the three lines, one behind the other
module _ (text : List ℕ) (from : ℕ) where
  abbrev fee_line : List ℕ
  fee_line = drop from text

  abbrev size_line : List ℕ
  size_line = behind 10 fee_line

  abbrev parents_line : List ℕ
  parents_line = behind 10 size_line

  fee_field : (s : Span) → field_at fee_key text from ≡ Some s → Field fee_key fee_line text from s.start s.end
  fee_field s e = field_between fee_key text from refl s e

  -- the size's line
  module _ (s : Span) (e : field_at fee_key text from ≡ Some s) where
    size_field : (t : Span) → field_at size_key text (s.end + 1) ≡ Some t → Field size_key size_line text (s.end + 1) t.start t.end
    size_field t f = field_between size_key text (s.end + 1) (fee_field s e).next t f

    -- the parents' line
    module _ (t : Span) (f : field_at size_key text (s.end + 1) ≡ Some t) where
      parents_field : (u : Span) → field_at parents_key text (t.end + 1) ≡ Some u
          → Field parents_key parents_line text (t.end + 1) u.start u.end
      parents_field u g = field_between parents_key text (t.end + 1) (size_field t f).next u g

pub slice_bounds-read_signed-count : goal.slice_bounds-read_signed-count
slice_bounds-read_signed-count c =
    omega (arith, fee_field c.args.text.now c.args.from c.in_ok-fee_part.fee_part (sym c.field.ensures ∙ c.in_ok-fee_part.was))

pub slice_bounds-read_signed-start : goal.slice_bounds-read_signed-start
slice_bounds-read_signed-start c =
    omega (arith, fee_field c.args.text.now c.args.from c.in_ok-fee_part.fee_part (sym c.field.ensures ∙ c.in_ok-fee_part.was))

pub slice_bounds-read_signed-end : goal.slice_bounds-read_signed-end
slice_bounds-read_signed-end c =
    omega (arith, fee_field c.args.text.now c.args.from c.in_ok-fee_part.fee_part (sym c.field.ensures ∙ c.in_ok-fee_part.was))

pub overflow_add-fee_end : goal.overflow_add-fee_end
overflow_add-fee_end c =
    omega (arith, fee_field c.args.text.now c.args.from c.in_ok-fee_part.fee_part (sym c.field.ensures ∙ c.in_ok-fee_part.was))

pub returns-in_err-fee_part : goal.returns-in_err-fee_part
returns-in_err-fee_part c =
    c.from_residual.ensures ∙ sym (no_fee_line c.args.text.now c.args.from
    (field_malformed fee_key c.args.text.now c.args.from refl (sym c.field.ensures ∙ c.in_err-fee_part.was)))

pub returns-in_err-fee : goal.returns-in_err-fee
returns-in_err-fee c =
    let a = fee_field c.args.text.now c.args.from c.in_ok-fee_part.fee_part (sym c.field.ensures ∙ c.in_ok-fee_part.was) in
    let v = sym (c.read_signed.ensures ∙ ap signed_of a.value) in
    c.from_residual-in_err-fee.ensures ∙ sym (no_fee c.args.text.now c.args.from (v ∙ c.in_err-fee.was))

pub returns-in_err-size_part : goal.returns-in_err-size_part
returns-in_err-size_part c =
    let a = fee_field c.args.text.now c.args.from c.in_ok-fee_part.fee_part (sym c.field.ensures ∙ c.in_ok-fee_part.was) in
    c.from_residual-in_err-size_part.ensures ∙ sym (no_size_line c.args.text.now c.args.from
    (field_malformed size_key c.args.text.now (c.in_ok-fee_part.fee_part.end + 1) a.next (sym c.field-2.ensures ∙ c.in_err-size_part.was)))

pub slice_bounds-read_number-count : goal.slice_bounds-read_number-count
slice_bounds-read_number-count c =
    omega (arith, size_field c.args.text.now c.args.from c.in_ok-fee_part.fee_part (sym c.field.ensures ∙ c.in_ok-fee_part.was) c.in_ok-size_part.size_part (sym c.field-2.ensures ∙ c.in_ok-size_part.was))

pub slice_bounds-read_number-start : goal.slice_bounds-read_number-start
slice_bounds-read_number-start c =
    omega (arith, size_field c.args.text.now c.args.from c.in_ok-fee_part.fee_part (sym c.field.ensures ∙ c.in_ok-fee_part.was) c.in_ok-size_part.size_part (sym c.field-2.ensures ∙ c.in_ok-size_part.was))

pub slice_bounds-read_number-end : goal.slice_bounds-read_number-end
slice_bounds-read_number-end c =
    omega (arith, size_field c.args.text.now c.args.from c.in_ok-fee_part.fee_part (sym c.field.ensures ∙ c.in_ok-fee_part.was) c.in_ok-size_part.size_part (sym c.field-2.ensures ∙ c.in_ok-size_part.was))

pub overflow_add-size_end : goal.overflow_add-size_end
overflow_add-size_end c =
    omega (arith, size_field c.args.text.now c.args.from c.in_ok-fee_part.fee_part (sym c.field.ensures ∙ c.in_ok-fee_part.was) c.in_ok-size_part.size_part (sym c.field-2.ensures ∙ c.in_ok-size_part.was))

pub returns-in_err-size : goal.returns-in_err-size
returns-in_err-size c =
    let f = sym c.field.ensures ∙ c.in_ok-fee_part.was in
    let b = size_field c.args.text.now c.args.from c.in_ok-fee_part.fee_part f c.in_ok-size_part.size_part (sym c.field-2.ensures ∙ c.in_ok-size_part.was) in
    let v = sym (c.read_number.ensures ∙ ap number_of b.value) in
    c.from_residual-in_err-size.ensures ∙ sym (no_size c.args.text.now c.args.from (v ∙ c.in_err-size.was))

pub returns-in_err-parents_part : goal.returns-in_err-parents_part
returns-in_err-parents_part c =
    let f = sym c.field.ensures ∙ c.in_ok-fee_part.was in
    let b = size_field c.args.text.now c.args.from c.in_ok-fee_part.fee_part f c.in_ok-size_part.size_part (sym c.field-2.ensures ∙ c.in_ok-size_part.was) in
    c.from_residual-in_err-parents_part.ensures ∙ sym (no_parents_line c.args.text.now c.args.from
    (field_malformed parents_key c.args.text.now (c.in_ok-size_part.size_part.end + 1) b.next (sym c.field-3.ensures ∙ c.in_err-parents_part.was)))

pub slice_bounds-parents_of-count : goal.slice_bounds-parents_of-count
slice_bounds-parents_of-count c =
    let f = sym c.field.ensures ∙ c.in_ok-fee_part.was in
    let g = sym c.field-2.ensures ∙ c.in_ok-size_part.was in
    omega (arith, parents_field c.args.text.now c.args.from c.in_ok-fee_part.fee_part f c.in_ok-size_part.size_part g c.in_ok-parents_part.parents_part (sym c.field-3.ensures ∙ c.in_ok-parents_part.was))

pub slice_bounds-parents_of-start : goal.slice_bounds-parents_of-start
slice_bounds-parents_of-start c =
    let f = sym c.field.ensures ∙ c.in_ok-fee_part.was in
    let g = sym c.field-2.ensures ∙ c.in_ok-size_part.was in
    omega (arith, parents_field c.args.text.now c.args.from c.in_ok-fee_part.fee_part f c.in_ok-size_part.size_part g c.in_ok-parents_part.parents_part (sym c.field-3.ensures ∙ c.in_ok-parents_part.was))

pub slice_bounds-parents_of-end : goal.slice_bounds-parents_of-end
slice_bounds-parents_of-end c =
    let f = sym c.field.ensures ∙ c.in_ok-fee_part.was in
    let g = sym c.field-2.ensures ∙ c.in_ok-size_part.was in
    omega (arith, parents_field c.args.text.now c.args.from c.in_ok-fee_part.fee_part f c.in_ok-size_part.size_part g c.in_ok-parents_part.parents_part (sym c.field-3.ensures ∙ c.in_ok-parents_part.was))

pub returns-in_err-parents : goal.returns-in_err-parents
returns-in_err-parents c =
    let f = sym c.field.ensures ∙ c.in_ok-fee_part.was in
    let g = sym c.field-2.ensures ∙ c.in_ok-size_part.was in
    let d =
    parents_field c.args.text.now c.args.from c.in_ok-fee_part.fee_part f c.in_ok-size_part.size_part g c.in_ok-parents_part.parents_part (sym c.field-3.ensures ∙ c.in_ok-parents_part.was) in
    c.from_residual-in_err-parents.ensures ∙ sym (no_parents c.args.text.now c.args.from (sym (c.parents_of.ensures ∙ ap parents_in d.value) ∙ c.in_err-parents.was))

pub overflow_add-result : goal.overflow_add-result
overflow_add-result c =
    let f = sym c.field.ensures ∙ c.in_ok-fee_part.was in
    let g = sym c.field-2.ensures ∙ c.in_ok-size_part.was in
    omega (arith, parents_field c.args.text.now c.args.from c.in_ok-fee_part.fee_part f c.in_ok-size_part.size_part g c.in_ok-parents_part.parents_part (sym c.field-3.ensures ∙ c.in_ok-parents_part.was))

pub returns : goal.returns
returns c =
    let f = sym c.field.ensures ∙ c.in_ok-fee_part.was in
    let g = sym c.field-2.ensures ∙ c.in_ok-size_part.was in
    let a = fee_field c.args.text.now c.args.from c.in_ok-fee_part.fee_part f in
    let b = size_field c.args.text.now c.args.from c.in_ok-fee_part.fee_part f c.in_ok-size_part.size_part g in
    let d =
    parents_field c.args.text.now c.args.from c.in_ok-fee_part.fee_part f c.in_ok-size_part.size_part g c.in_ok-parents_part.parents_part (sym c.field-3.ensures ∙ c.in_ok-parents_part.was) in
    let h : SFits w64 c.in_ok-fee.fee = search rules in
    rw (to_z-of_z h)
    (sym
    (member_read c.args.text.now c.args.from c.in_ok-fee.fee c.in_ok-size.size c.in_ok-parents.parents
    a (sym (c.read_signed.ensures ∙ ap signed_of a.value) ∙ c.in_ok-fee.was)
    b (sym (c.read_number.ensures ∙ ap number_of b.value) ∙ c.in_ok-size.was)
    d (sym (c.parents_of.ensures ∙ ap parents_in d.value) ∙ c.in_ok-parents.was)))
