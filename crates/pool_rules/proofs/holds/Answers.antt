use mathlib.Core.Path.{sym, ap, ◌∙◌}
use Rattle.txids.specs.declared.Txid.{Txid}
use Rattle.txids.specs.Txids.{same_txid}
use Rattle.txids.proofs.Theorems.{equals_same}
use Rattle.pool_rules.proofs.Finds.{holds_taken, holds_free}
use Rattle.pool_rules.proofs.holds.Goals as goal

pub returns-then-is_occupied : goal.returns-then-is_occupied
returns-then-is_occupied c =
    c.eq.ensures ∙ equals_same c.txid.result c.args.txid ∙ ap (λ (x : Txid). same_txid x c.args.txid) c.txid.ensures
    ∙ holds_taken _ _ _ (sym c.is_occupied.ensures ∙ c.if-is_occupied.true)

pub returns : goal.returns
returns c = holds_free _ _ _ (sym c.is_occupied.ensures ∙ c.if-is_occupied.false)
