-- A pool with one thing changed, and what it is for a table to be changed so. Assumes nothing.
use Rattle.std.specs.Prelude.{ℕ, zero, suc, ◌≡◌, true, false, List, [], ◌∷◌, length, set}
use Rattle.slotsets.specs.SlotSets.{plus, minus}
use Rattle.pool_table.specs.declared.Limits.{Limits}
use Rattle.pool_table.specs.declared.Entry.{Entry}
use Rattle.pool_table.specs.declared.Side.{Side}
use Rattle.pool_table.specs.declared.Side.TheVariants.{Parents, Children}
use Rattle.pool_table.specs.Pool.{Slot, Pool, free, slot_at}
use Rattle.pool_table.specs.Words.{is_legal, pool_of}

-- one slot changed; past the last slot, nothing
unfoldable pub changed : ℕ → (Slot → Slot) → Pool → Pool
changed s f p = record { limits = p.limits; total = p.total; slots = set p.slots s (f (slot_at p s)) }

-- the entry's numbers put anew, the links as they are
abbrev pub with_entry : Entry → Slot → Slot
with_entry e x = record { entry = e; parents = x.parents; children = x.children }

-- both sets of links put anew, the rest as it is
abbrev pub with_links : List ℕ → List ℕ → Slot → Slot
with_links ps cs x = record { entry = x.entry; parents = ps; children = cs }

-- the sigop cost put anew
abbrev pub with_cost : ℕ → Entry → Entry
with_cost c e = record { txid = e.txid; fee = e.fee; weight = e.weight; cost = c }

-- one link more on a side
abbrev pub with_link : Side → ℕ → Slot → Slot
with_link Parents b x = record { entry = x.entry; parents = plus x.parents b; children = x.children }
with_link Children b x = record { entry = x.entry; parents = x.parents; children = plus x.children b }

-- no link to b any more
abbrev pub unlinked : ℕ → Slot → Slot
unlinked b x = record { entry = x.entry; parents = minus x.parents b; children = minus x.children b }

abbrev pub with_total : ℕ → Pool → Pool
with_total n p = record { limits = p.limits; total = n; slots = p.slots }

-- "Making a pool empties a lent table .. and stores both limits and the bytes per sigop": every slot is free
unfoldable pub free_slots : ℕ → List Slot
free_slots zero = []
free_slots (suc k) = free ∷ free_slots k

unfoldable pub made : Limits → ℕ → Pool
made l n = record { limits = l; total = 0; slots = free_slots n }

-- a table of a legal length comes to mean what f makes of the pool that it meant; every other table stays as it is. One table has both
-- properties: `becomes_one` of proofs/Theorems.antt
pub record Becomes (f : Pool → Pool) (old new : List ℕ) : Type 0 where
  pub long : length new ≡ length old
  pub means : is_legal (length old) ≡ true → pool_of new ≡ f (pool_of old)
  pub stays : is_legal (length old) ≡ false → new ≡ old
