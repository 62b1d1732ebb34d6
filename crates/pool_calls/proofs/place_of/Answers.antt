use mathlib.Core.Path.{◌≡◌, refl, sym, ap, ◌∙◌}
use mathlib.Core.Bool.{true, not}
use Rattle.refusals.proofs.Lines.{none_past, past, stop, all_past, refuses, succeeds}
use Rattle.pool_table.specs.Words.{pool_of}
use Rattle.pool_table.specs.WellFormed.{well_formed}
use Rattle.pool_rules.specs.Calls.{placed, named_refusals, named_reply}
use Rattle.pool_rules.specs.Module8.{is_in, slot_of}
use Rattle.pool_rules.proofs.Finds.{is_at, is_nowhere}
use Rattle.pool_calls.proofs.place_of.Goals as goal

pub returns-then-not-is_well_formed : goal.returns-then-not-is_well_formed
unfolding named_reply named_refusals
returns-then-not-is_well_formed c =
    refuses _ _ (stop (none_past refl) (ap not (sym c.is_well_formed.ensures ∙ c.if-not-is_well_formed.true))) refl

pub returns-in_default : goal.returns-in_default
unfolding named_reply named_refusals
returns-in_default c = let formed : well_formed c.args.table.now ≡ true = sym c.is_well_formed.ensures ∙ c.if-not-is_well_formed.false in
    let absent = is_nowhere _ _ c.in_default.ensures in
    refuses _ _ (stop (past (none_past refl) (ap not formed)) (ap not (sym (ap (is_in (pool_of c.args.table.now)) c.from.ensures) ∙ absent))) refl

pub returns : goal.returns
unfolding named_reply named_refusals
returns c = let formed : well_formed c.args.table.now ≡ true = sym c.is_well_formed.ensures ∙ c.if-not-is_well_formed.false in
    let p = pool_of c.args.table.now in
    let at = is_at _ _ _ c.in-Some.ensures in
    succeeds _ _ (all_past (past (past (none_past refl) (ap not formed)) (ap not (sym (ap (is_in p) c.from.ensures) ∙ at.0))) refl)
    (ap placed (sym at.1 ∙ ap (slot_of p) c.from.ensures))
