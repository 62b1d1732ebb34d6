use mathlib.Core.Path.{refl, sym, ap, ◌∙◌}
use mathlib.Core.Bool.{not}
use Rattle.refusals.proofs.Lines.{none_past, past, stop, all_past, refuses, succeeds}
use Rattle.pool_rules.specs.Calls.{totals_reply}
use Rattle.pool_calls.proofs.totals.Goals as goal

pub returns-then-not-is_well_formed : goal.returns-then-not-is_well_formed
unfolding totals_reply
returns-then-not-is_well_formed c =
    refuses _ _ (stop (none_past refl) (ap not (sym c.is_well_formed.ensures ∙ c.if-not-is_well_formed.true))) refl

pub returns : goal.returns
unfolding totals_reply
returns c =
    succeeds _ _
    (all_past (past (none_past refl) (ap not (sym c.is_well_formed.ensures ∙ c.if-not-is_well_formed.false))) refl)
    (rw (c.count_entries.ensures, c.total.ensures))
