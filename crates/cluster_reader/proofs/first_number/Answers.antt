use mathlib.Core.Path.{◌≡◌, refl, sym, ap, ◌∙◌}
use mathlib.Core.List.{List}
use Prim.Native.Nat.{ℕ}
use native.Mathlib.Omega.{arith}
use Rattle.std.proofs.Common.{Some}
use Rattle.texts.specs.Numerals.{number_of}
use Rattle.cluster_reader.specs.declared.lines.Span.{Span}
use Rattle.cluster_reader.specs.Steps.{field_at}
use Rattle.cluster_reader.specs.Reading.{n_key}
use Rattle.cluster_reader.proofs.Places.{Field, field_between, field_malformed}
use Rattle.cluster_reader.proofs.Reading.{number_found, number_none}
use Rattle.cluster_reader.proofs.first_number.Goals as goal

the_field : (text : List ℕ) (part : Span) → field_at n_key text 0 ≡ Some part → Field n_key text text 0 part.start part.end
the_field text part e = field_between n_key text 0 refl part e

pub returns-in_err-part : goal.returns-in_err-part
returns-in_err-part c =
    rw c.from_residual.ensures (sym (number_none c.args.text.now (field_malformed n_key c.args.text.now 0 refl (sym c.field.ensures ∙ c.in_err-part.was))))

pub slice_bounds-read_number-count : goal.slice_bounds-read_number-count
slice_bounds-read_number-count c = omega (arith, the_field c.args.text.now c.in_ok-part.part (sym c.field.ensures ∙ c.in_ok-part.was))

pub slice_bounds-read_number-start : goal.slice_bounds-read_number-start
slice_bounds-read_number-start c = omega (arith, the_field c.args.text.now c.in_ok-part.part (sym c.field.ensures ∙ c.in_ok-part.was))

pub slice_bounds-read_number-end : goal.slice_bounds-read_number-end
slice_bounds-read_number-end c = omega (arith, the_field c.args.text.now c.in_ok-part.part (sym c.field.ensures ∙ c.in_ok-part.was))

pub returns : goal.returns
returns c =
    let f = the_field c.args.text.now c.in_ok-part.part (sym c.field.ensures ∙ c.in_ok-part.was) in
    c.read_number.ensures ∙ ap number_of f.value ∙ sym (number_found c.args.text.now f.field)
