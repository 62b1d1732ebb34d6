-- `checked`: the table's and the deltas' own answer, and the call's two tests in their places. Assumes nothing.
use mathlib.Core.Path.{sym, ◌∙◌}
use native.Mathlib.Omega.{arith}
use Rattle.refusals.specs.Refusals.{answer_from}
use Rattle.template_rules.specs.Filling.{settings}
use Rattle.template.proofs.Answers.{gives_1_too, gives_11, answer_rest, early, those_first, those_behind, own_count}
use Rattle.template.proofs.checked.Goals as goal

-- the answer that the table and the deltas got is the call's
pub returns-then-goes_first : goal.returns-then-goes_first
returns-then-goes_first c =
    let q = those_first (answer_from c.args.made) (sym c.goes_first.ensures ∙ c.if-goes_first.true) in
    record { told = λ ds terms e. early _ (settings ds _ terms) _ e q.0 q.1; kept = own_count c.args.made }

pub returns-then-marks-slots-clause-told : goal.returns-then-marks-slots-clause-told
returns-then-marks-slots-clause-told c ds terms e =
    let q = those_behind (answer_from c.args.made) (sym c.goes_first.ensures ∙ c.if-goes_first.false) in
    sym (gives_1_too _ (settings ds _ terms) _ e q.0 q.1 (λ z. c.if-marks-slots.true (z ∙ sym c.slots.ensures))).answer

pub returns-then-room-count_entries-clause-told : goal.returns-then-room-count_entries-clause-told
returns-then-room-count_entries-clause-told c ds terms e =
    let q = those_behind (answer_from c.args.made) (sym c.goes_first.ensures ∙ c.if-goes_first.false) in
    sym (gives_11 _ (settings ds _ terms) _ e q.0 q.1 (c.if-marks-slots.false ∙ c.slots.ensures)
    (omega (arith, c.if-room-count_entries.true, c.count_entries.ensures))).answer

pub returns : goal.returns
returns c =
    let q = those_behind (answer_from c.args.made) (sym c.goes_first.ensures ∙ c.if-goes_first.false) in
    record {
      told = λ ds terms e.
          answer_rest _ (settings ds _ terms) _ e q.0 q.1 (c.if-marks-slots.false ∙ c.slots.ensures)
          (omega (arith, c.if-room-count_entries.false, c.count_entries.ensures));
      kept = own_count c.args.made;
    }
