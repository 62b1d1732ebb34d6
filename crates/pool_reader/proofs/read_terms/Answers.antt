use mathlib.Core.Path.{sym}
use Rattle.pool_reader.proofs.Reading.{only_none, only_some}
use Rattle.pool_reader.proofs.Asking.{no_terms, is_terms}
use Rattle.pool_reader.proofs.read_terms.Goals as goal

pub returns-in_err-budget : goal.returns-in_err-budget
returns-in_err-budget c = λ x ps. rw c.from_residual.ensures (sym (no_terms _ (only_none _ _ c.in_err-budget.ensures)))

pub returns : goal.returns
returns c =
    let read = only_some _ _ c.in_ok-budget.ensures in
    λ x ps. sym (is_terms _ c.in_ok-budget.field-0 read.1 read.0)
