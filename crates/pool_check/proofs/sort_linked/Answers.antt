-- `sort_linked`: the parts one after the other. Assumes nothing.
use mathlib.Core.Path.{sym, ap, ◌∙◌}
use Rattle.std.specs.Prelude.{is_some}
use Rattle.pool_table.specs.Ranges.{limits_in_range}
use Rattle.pool_check.proofs.Parts.{no_limits, no_rows, no_txids, no_links, all_linked}
use Rattle.pool_check.proofs.sort_linked.Goals as goal

pub returns-then-not-in_range-clause-stands_value : goal.returns-then-not-in_range-clause-stands_value
returns-then-not-in_range-clause-stands_value c =
    no_limits _ _ (ap limits_in_range (sym c.of.ensures) ∙ sym c.in_range.ensures ∙ c.if-not-in_range.true)

pub returns-then-not-rows_stand-clause-stands_value : goal.returns-then-not-rows_stand-clause-stands_value
returns-then-not-rows_stand-clause-stands_value c = no_rows _ _ (sym c.rows_stand.ensures ∙ c.if-not-rows_stand.true)

pub returns-in_err-n-clause-stands_value : goal.returns-in_err-n-clause-stands_value
returns-in_err-n-clause-stands_value c =
    ap is_some c.from_residual.ensures ∙ no_txids _ _ (sym c.sort_slots.ensures.stands_value ∙ ap is_some c.in_err-n.was)

pub returns-then-not-links_stand-clause-stands_value : goal.returns-then-not-links_stand-clause-stands_value
returns-then-not-links_stand-clause-stands_value c = no_links _ _ (sym c.links_stand.ensures ∙ c.if-not-links_stand.true)

pub returns-clause-stands_value : goal.returns-clause-stands_value
returns-clause-stands_value c =
    all_linked _ _
    (ap limits_in_range (sym c.of.ensures)
    ∙ sym c.in_range.ensures
    ∙ c.if-not-in_range.false)
    (sym c.rows_stand.ensures ∙ c.if-not-rows_stand.false)
    (sym c.sort_slots.ensures.stands_value ∙ ap is_some c.in_ok-n.was)
    (sym c.links_stand.ensures ∙ c.if-not-links_stand.false)
