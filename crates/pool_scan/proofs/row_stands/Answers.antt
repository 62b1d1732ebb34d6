use mathlib.Core.Path.{sym, ap, ◌∙◌}
use Rattle.pool_table.specs.Ranges.{entry_in_range}
use Rattle.pool_scan.proofs.Scan.{taken, untaken}
use Rattle.pool_scan.proofs.row_stands.Goals as goal

pub returns-then-is_occupied : goal.returns-then-is_occupied
returns-then-is_occupied c = c.in_range.ensures ∙ ap entry_in_range c.at.ensures
    ∙ taken _ _ (sym c.is_occupied.ensures ∙ c.if-is_occupied.true)

pub returns : goal.returns
returns c = c.is_zeroed.ensures ∙ untaken _ _ (sym c.is_occupied.ensures ∙ c.if-is_occupied.false)
