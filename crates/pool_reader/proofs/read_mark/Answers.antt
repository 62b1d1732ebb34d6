use mathlib.Core.Path.{sym}
use Rattle.pool_reader.proofs.Reading.{only_none, only_some}
use Rattle.pool_reader.proofs.Asking.{no_mark, is_mark}
use Rattle.pool_reader.proofs.read_mark.Goals as goal

pub returns-in_err-slot : goal.returns-in_err-slot
returns-in_err-slot c = λ x ps. rw c.from_residual.ensures (sym (no_mark _ (only_none _ _ c.in_err-slot.ensures)))

pub returns : goal.returns
returns c =
    let read = only_some _ _ c.in_ok-slot.ensures in
    λ x ps. sym (is_mark _ c.in_ok-slot.field-0 read.1 read.0)
