use mathlib.Core.Path.{ap, sym}
use mathlib.Core.List.{List}
use Prim.Native.Nat.{ℕ}
use lib.ListN.{get_or}
use Rattle.weights.specs.declared.RawWeight.{RawWeight}
use Rattle.pool_table.specs.Pool.{Slot}
use Rattle.pool_table.specs.Words.{slot_words, entry_words}
use Rattle.pool_table.proofs.Rows.{slot_past}
use Rattle.pool_table.proofs.weight.Goals as goal

pub returns-in_default : goal.returns-in_default
returns-in_default c = ap (λ (x : Slot). x.entry.weight) (sym (slot_past _ _ c.in_default.ensures))

pub returns : goal.returns
unfolding slot_words entry_words
returns c = ap {B = RawWeight} (λ (ws : List ℕ). record { 0 = get_or ws 5 0 }) c.in-Some.ensures.words
