use mathlib.Core.Path.{sym, ap, ◌∙◌}
use Rattle.txids.proofs.Theorems.{equals_same}
use Rattle.pool_rules.specs.Calls.{placed_of}
use Rattle.pool_rules.proofs.Finds.{is_at, is_nowhere}
use Rattle.pool_rules.proofs.Listed.{own_nowhere, absent_nowhere, entered_none, entered_at}
use Rattle.pool_rules.proofs.enter.Goals as goal

pub returns-then-eq : goal.returns-then-eq
returns-then-eq c =
    entered_none _ _ _ _ c.requires (λ j. (c.type_inv.set j).fits)
    (own_nowhere _ _ _ (sym (c.eq.ensures ∙ equals_same c.args.txid c.args.own) ∙ c.if-eq.true))

pub returns-in_default : goal.returns-in_default
returns-in_default c =
    entered_none _ _ _ _ c.requires (λ j. (c.type_inv.set j).fits)
    (absent_nowhere _ _ _ (is_nowhere _ _ (sym (ap placed_of c.in_default.is) ∙ c.find.ensures)))

pub returns : goal.returns
returns c =
    entered_at _ _ _ _ (sym (c.eq.ensures ∙ equals_same c.args.txid c.args.own) ∙ c.if-eq.false)
    (is_at _ _ _ (sym (ap placed_of c.in-Some.is) ∙ c.find.ensures))
    _ _ c.requires (λ j. (c.type_inv.set j).fits) (c.insert.ensures.set_len_unchanged, c.insert.ensures.by_index)
