-- Document 01, module 8: what a pool is. "Making a pool empties a lent table of 1 to 1,024 slots (txid, fee, raw weight, sigop cost, links)
-- and stores both limits and the bytes per sigop". Every rule of the pool is written over this record; specs/Words.antt alone knows the words
-- of the table. Assumes nothing.
use Rattle.std.specs.Prelude.{ℕ, Bool, not, List, eqb, length, get_or}
use Rattle.lists.specs.Below.{count_from}
use Rattle.txids.specs.declared.Txid.{Txid}
use Rattle.slotsets.specs.SlotSets.{none}
use Rattle.pool_table.specs.declared.Limits.{Limits}
use Rattle.pool_table.specs.declared.Entry.{Entry}

-- what a slot holds: an entry's numbers, and its links as sets of slots
pub record Slot : Type 0 where
  pub entry : Entry
  pub parents : List ℕ
  pub children : List ℕ

pub record Pool : Type 0 where
  pub limits : Limits
  pub total : ℕ
  pub slots : List Slot

-- a free slot, with nothing in it
abbrev pub no_txid : Txid
no_txid = record { w0 = 0; w1 = 0; w2 = 0; w3 = 0 }

abbrev pub no_entry : Entry
no_entry = record { txid = no_txid; fee = 0; weight = record { 0 = 0 }; cost = 0 }

abbrev pub free : Slot
free = record { entry = no_entry; parents = none; children = none }

-- how many slots there are, and what slot s holds; past the last there is nothing
abbrev pub slot_count : Pool → ℕ
slot_count p = length p.slots

unfoldable pub slot_at : Pool → ℕ → Slot
slot_at p s = get_or p.slots s free

-- "Raw weight 1 to 4,000,000": so a slot is occupied exactly where its weight is not 0
unfoldable pub is_occupied : Slot → Bool
is_occupied x = not (eqb x.entry.weight.0 0)

abbrev pub occupied : Pool → ℕ → Bool
occupied p s = is_occupied (slot_at p s)

abbrev pub weight_at : Pool → ℕ → ℕ
weight_at p s = (slot_at p s).entry.weight.0

-- how many entries the pool has
unfoldable pub entries : Pool → ℕ
entries p = count_from (occupied p) (slot_count p) 0
