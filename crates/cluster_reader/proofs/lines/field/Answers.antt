use mathlib.Core.Path.{◌≡◌, sym, ap, ◌∙◌}
use mathlib.Core.Bool.{Bool}
use mathlib.Core.List.{List}
use Prim.Native.Nat.{ℕ, ◌-◌}
use native.Mathlib.Omega.{arith}
use lib.ListN.{take, drop}
use Rattle.texts.specs.Places.{before}
use Rattle.texts.proofs.Places.{place_before}
use Rattle.cluster_reader.specs.Lines.{starts}
use Rattle.cluster_reader.proofs.Places.{Whole, starts_whole, line_ends, line_malformed, field_no_line, field_no_key, field_found}
use Rattle.cluster_reader.proofs.lines.field.Goals as goal
use Rattle.cluster_reader.proofs.lines.field.Goals.{After-starts_with}

-- what the test of the key says of the line
is_key : (key text : List ℕ) (from end : ℕ) (r : Bool) → r ≡ starts key (take (end - from) (drop from text)) → Whole text from end
    → r ≡ starts key (before 10 (drop from text))
is_key key text from end r e w = e ∙ ap (starts key) (ap (λ (e : ℕ). take (e - from) (drop from text)) w.at ∙ place_before 10 text from)

pub returns-in_err-end : goal.returns-in_err-end
returns-in_err-end c =
    c.from_residual.ensures
    ∙ sym (field_no_line c.args.key.now c.args.text.now c.args.from
    (line_malformed c.args.text.now c.args.from (sym c.line_end.ensures ∙ c.in_err-end.was)))

pub returns-then-not-starts_with : goal.returns-then-not-starts_with
returns-then-not-starts_with c =
    let w = line_ends c.args.text.now c.args.from c.in_ok-end.end (sym c.line_end.ensures ∙ c.in_ok-end.was) in
    let k = is_key c.args.key.now c.args.text.now c.args.from c.in_ok-end.end c.starts_with.result (c.starts_with.ensures.value ∙ sym (starts_whole c.args.key.now _)) w in
    sym (field_no_key c.args.key.now c.args.text.now c.args.from (sym k ∙ c.if-not-starts_with.true))

pub returns : goal.returns
returns c =
    let w = line_ends c.args.text.now c.args.from c.in_ok-end.end (sym c.line_end.ensures ∙ c.in_ok-end.was) in
    let k = is_key c.args.key.now c.args.text.now c.args.from c.in_ok-end.end c.starts_with.result (c.starts_with.ensures.value ∙ sym (starts_whole c.args.key.now _)) w in
    sym (field_found c.args.key.now c.args.text.now c.args.from w (sym k ∙ c.if-not-starts_with.false))

pub slice_bounds-starts_with-count : goal.slice_bounds-starts_with-count
slice_bounds-starts_with-count c = omega (arith, line_ends c.args.text.now c.args.from c.in_ok-end.end (sym c.line_end.ensures ∙ c.in_ok-end.was))

pub slice_bounds-starts_with-start : goal.slice_bounds-starts_with-start
slice_bounds-starts_with-start c = omega (arith, line_ends c.args.text.now c.args.from c.in_ok-end.end (sym c.line_end.ensures ∙ c.in_ok-end.was))

pub slice_bounds-starts_with-end : goal.slice_bounds-starts_with-end
slice_bounds-starts_with-end c = omega (arith, line_ends c.args.text.now c.args.from c.in_ok-end.end (sym c.line_end.ensures ∙ c.in_ok-end.was))
