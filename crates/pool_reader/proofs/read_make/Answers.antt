use mathlib.Core.Path.{sym}
use Rattle.pool_reader.proofs.Reading.{only_none, only_some}
use Rattle.pool_reader.proofs.Asking.{no_make, is_make}
use Rattle.pool_reader.proofs.read_make.Goals as goal

pub returns-in_err-slots : goal.returns-in_err-slots
returns-in_err-slots c = λ x ps. rw c.from_residual.ensures (sym (no_make _ (only_none _ _ c.in_err-slots.ensures)))

pub returns : goal.returns
returns c =
    let read = only_some _ _ c.in_ok-slots.ensures in
    λ x ps. sym (is_make _ c.in_ok-slots.field-0 read.1 read.0)
