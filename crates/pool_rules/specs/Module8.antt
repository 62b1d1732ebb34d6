-- Document 01, module 8 (Pool), sentence by sentence over the record `Pool`: what each call finds, and the pool that it leaves.
-- Assumes nothing.
use Rattle.std.specs.Prelude.{ℕ, suc, ◌+◌, ◌-◌, ◌*◌, Bool, cond, not, ◌&&◌, List, [], ◌∷◌, eqb}
use Rattle.lists.specs.Below.{any_from, first_from}
use Rattle.txids.specs.declared.Txid.{Txid}
use Rattle.txids.specs.Txids.{same_txid, txid_at, listed_count}
use Rattle.weights.specs.Weights.{virtual_size}
use Rattle.slotsets.specs.SlotSets.{none, set_of}
use Rattle.pool_table.specs.declared.Entry.{Entry}
use Rattle.pool_table.specs.declared.Side.TheVariants.{Children}
use Rattle.pool_table.specs.Pool.{Slot, Pool, free, slot_at, slot_count, occupied, weight_at}
use Rattle.pool_table.specs.Changes.{with_entry, with_links, with_cost, with_link, unlinked, made}
use Rattle.pool_table.specs.Links.{in_clusters, count_of, weight_of}

-- ---- where things stand

-- slot s holds the entry with this txid
unfoldable pub holds : Pool → Txid → ℕ → Bool
holds p t s = occupied p s && same_txid (slot_at p s).entry.txid t

-- the txid is in the pool, and its slot: where it is in none, the number of slots
unfoldable pub is_in : Pool → Txid → Bool
is_in p t = any_from (holds p t) (slot_count p) 0

unfoldable pub slot_of : Pool → Txid → ℕ
slot_of p t = first_from (holds p t) (slot_count p) 0

-- "Adding takes the lowest free slot; a freed slot is free."
unfoldable pub is_full : Pool → Bool
is_full p = not (any_from (λ s. not (occupied p s)) (slot_count p) 0)

unfoldable pub lowest_free : Pool → ℕ
lowest_free p = first_from (λ s. not (occupied p s)) (slot_count p) 0

-- ---- what a list of txids names

-- slot s is where a listed txid stands. "A listed parent not in the pool, the own txid, or a repeat is ignored." The own txid is named
-- because the sentence names it: where it stands in the pool, 6 goes before
unfoldable pub is_place_of : Pool → Txid → Txid → ℕ → Bool
is_place_of p own t s = not (same_txid t own) && (is_in p t && eqb (slot_of p t) s)

-- "Every other listed parent is linked": slot s is the place of one of them. A repeat names the same place again
unfoldable pub is_listed : Pool → Txid → List ℕ → ℕ → Bool
is_listed p own listed s = any_from (λ j. is_place_of p own (txid_at listed (32 * j)) s) (listed_count listed) 0

-- of a set of slots, "parents' clusters together, plus one"
unfoldable pub count_with : Pool → (ℕ → Bool) → ℕ
count_with p f = suc (count_of p (in_clusters p f))

-- "their raw weight plus the new one, as virtual size": rounded up once, on the sum
unfoldable pub size_with : Pool → (ℕ → Bool) → ℕ → ℕ
size_with p f weight = virtual_size (weight_of p (in_clusters p f) + weight)

-- ---- the pools that calls leave

-- a pool with each slot made anew from its number and what it held
unfoldable pub each_from : (ℕ → Slot → Slot) → ℕ → List Slot → List Slot
each_from f s [] = []
each_from f s (x ∷ xs) = f s x ∷ each_from f (suc s) xs

unfoldable pub with_slots : Pool → ℕ → (ℕ → Slot → Slot) → Pool
with_slots p total f = record { limits = p.limits; total = total; slots = each_from f 0 p.slots }

-- "Every other listed parent is linked, both ways": the newcomer names its parents, and each of these names it as a child
unfoldable pub added : Pool → Entry → List ℕ → Pool
added p e listed =
    with_slots p (p.total + e.weight.0)
    (λ s x.
    cond (eqb s (lowest_free p))
    (with_links (set_of (is_listed p e.txid listed)) none (with_entry e free))
    (cond (is_listed p e.txid listed s) (with_link Children (lowest_free p) x) x))

-- "a link stands until one of its ends is removed": the slot is free again, and no other slot names it
unfoldable pub removed : Pool → ℕ → Pool
removed p r =
    with_slots p (p.total - weight_at p r)
    (λ s x. cond (eqb s r) free (unlinked r x))

-- "An entry keeps what its add gave it, save a cost set later."
unfoldable pub cost_set : Pool → ℕ → ℕ → Pool
cost_set p r c =
    with_slots p p.total
    (λ s x. cond (eqb s r) (with_entry (with_cost c x.entry) x) x)

-- clearing empties, and keeps "both limits and the bytes per sigop, kept until it is made anew"
unfoldable pub cleared : Pool → Pool
cleared p = made p.limits (slot_count p)
