-- Document 01, refusal 12: "the table breaks demand 3's structure, a range (slots and limits too), distinct txids, the stored total as the
-- sum of weights, or zeroed free slots". A table is well-formed where each of the parts below holds. Assumes nothing.
use Rattle.std.specs.Prelude.{ℕ, Bool, true, not, ◌&&◌, ◌||◌, List, eqb, leb, length}
use Rattle.lists.specs.Below.{all_from}
use Rattle.lists.specs.Lists.{all_of}
use Rattle.txset.specs.Sets.{has_in}
use Rattle.txids.specs.Txids.{same_txid}
use Rattle.weights.specs.Weights.{virtual_size}
use Rattle.ways.specs.Ways.{is_cyclic}
use Rattle.slotsets.specs.SlotSets.{capacity}
use Rattle.pool_table.specs.Pool.{Pool, slot_at, slot_count, occupied}
use Rattle.pool_table.specs.Words.{is_legal, slot_words, pool_of}
use Rattle.pool_table.specs.Ranges.{limits_in_range, entry_in_range}
use Rattle.pool_table.specs.Links.{is_parent, is_child, in_cluster, count_of, weight_of}

-- ---- "a range"

-- every number of an occupied slot is in its range
unfoldable pub numbers_in_range : Pool → Bool
numbers_in_range p = all_from (λ s. not (occupied p s) || entry_in_range (slot_at p s).entry) (slot_count p) 0

-- ---- "distinct txids"

-- two occupied slots with one txid
unfoldable pub is_twin : Pool → ℕ → ℕ → Bool
is_twin p a b = (occupied p a && occupied p b) && same_txid (slot_at p a).entry.txid (slot_at p b).entry.txid

-- no two occupied slots have one txid
unfoldable pub txids_distinct : Pool → Bool
txids_distinct p = all_from (λ a. all_from (λ b. eqb a b || not (is_twin p a b)) (slot_count p) 0) (slot_count p) 0

-- ---- "the stored total as the sum of weights"

unfoldable pub total_is_sum : Pool → Bool
total_is_sum p = eqb p.total (weight_of p (λ s. true))

-- ---- "zeroed free slots"

-- each word of a slot that is not occupied is 0
unfoldable pub free_zeroed : Pool → Bool
free_zeroed p = all_from (λ s. occupied p s || all_of (eqb 0) (slot_words (slot_at p s))) (slot_count p) 0

-- ---- "demand 3's structure"

-- whom slot a names as a parent is an occupied slot of the pool that names it as a child, and whom it names as a child one that names it
-- as a parent
unfoldable pub is_answered : Pool → ℕ → ℕ → Bool
is_answered p a b =
    (not (has_in (slot_at p a).parents b) || (occupied p b && is_child p b a)) && (not (has_in (slot_at p a).children b) || (occupied p b && is_parent p b a))

-- "parents and children name each other". A set can name 1,024 slots, also where the pool has fewer
unfoldable pub links_mutual : Pool → Bool
links_mutual p = all_from (λ a. all_from (λ b. is_answered p a b) capacity 0) (slot_count p) 0

-- "no parent chain closes on itself"
unfoldable pub acyclic : Pool → Bool
acyclic p = not (is_cyclic (is_parent p) (slot_count p))

-- the count of a set of slots, and the virtual size of their raw weights together, pass neither limit
unfoldable pub is_within : Pool → (ℕ → Bool) → Bool
is_within p f = leb (count_of p f) p.limits.count && leb (virtual_size (weight_of p f)) p.limits.size

-- "no cluster passes the pool's count or size limit"
unfoldable pub clusters_within : Pool → Bool
clusters_within p = all_from (λ s. not (occupied p s) || is_within p (in_cluster p s)) (slot_count p) 0

-- ---- all parts

-- what a table of a legal length has to mean
unfoldable pub sound : Pool → Bool
sound p =
    limits_in_range p.limits
    && (numbers_in_range p && (txids_distinct p && (total_is_sum p && (free_zeroed p && (links_mutual p && (acyclic p && clusters_within p))))))

-- "slots" of a range too: a legal length, and a sound pool
unfoldable pub well_formed : List ℕ → Bool
well_formed t = is_legal (length t) && sound (pool_of t)
