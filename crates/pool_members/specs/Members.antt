-- Document 01, module 8: "A cluster's positions are its members by txid." The clusters of a pool in that form, which modules 4 to 7 take.
-- Assumes nothing.
use Rattle.std.specs.Prelude.{ℕ, ◌&&◌, List, map, eqb, ltb, length, get_or}
use Rattle.lists.specs.Lists.{only}
use Rattle.txset.specs.Sets.{positions}
use Rattle.slotsets.specs.SlotSets.{word_of}
use Rattle.pool_table.specs.Pool.{Pool}
use Rattle.pool_table.specs.Links.{is_parent, in_cluster}
use Rattle.pool_order.specs.Order.{slots_by_txid}

-- "A cluster's positions are its members by txid": the member at position i is the i-th of these slots
unfoldable pub members_of : Pool → ℕ → List ℕ
members_of p s = only (in_cluster p s) (slots_by_txid p)

-- the parents of a member of the cluster `ms`, as a set of positions
unfoldable pub parents_of : Pool → List ℕ → ℕ → ℕ
parents_of p ms s = word_of (λ j. ltb j (length ms) && is_parent p s (get_or ms j 0)) positions 0

-- the slot with the least txid of the cluster of s
unfoldable pub lead_of : Pool → ℕ → ℕ
lead_of p s = get_or (members_of p s) 0 s

-- the clusters of a pool, each once, by their least txids
unfoldable pub clusters : Pool → List (List ℕ)
clusters p = map (members_of p) (only (λ s. eqb s (lead_of p s)) (slots_by_txid p))
