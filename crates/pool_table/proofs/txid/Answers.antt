use mathlib.Core.Path.{ap, sym}
use mathlib.Core.List.{List}
use Prim.Native.Nat.{ℕ}
use lib.ListN.{get_or}
use Rattle.txids.specs.declared.Txid.{Txid}
use Rattle.pool_table.specs.Pool.{Slot}
use Rattle.pool_table.specs.Words.{slot_words, entry_words}
use Rattle.pool_table.proofs.Rows.{slot_past}
use Rattle.pool_table.proofs.txid.Goals as goal

pub returns-in_default : goal.returns-in_default
returns-in_default c = ap (λ (x : Slot). x.entry.txid) (sym (slot_past _ _ c.in_default.ensures))

pub returns : goal.returns
unfolding slot_words entry_words
returns c =
    ap {B = Txid} (λ (ws : List ℕ). record { w0 = get_or ws 0 0; w1 = get_or ws 1 0; w2 = get_or ws 2 0; w3 = get_or ws 3 0 }) c.in-Some.ensures.words
