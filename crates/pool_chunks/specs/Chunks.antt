-- Document 01, "How a template is filled": the chunks of a pool's clusters, and the one order in which they are tried.
-- `ds` has a delta for each slot. Assumes nothing.
use Rattle.std.specs.Prelude.{ℕ, suc, Bool, cond, List, [], ◌∷◌, ◌++◌, map, get_or, ℤ, pos, ◌+ℤ◌}
use Rattle.sorting.specs.Sorting.{sorted_by}
use Rattle.feefrac.specs.declared.FeeFrac.{FeeFrac}
use Rattle.std.specs.declared.cmp.Ordering.{Ordering}
use Rattle.std.specs.declared.cmp.Ordering.TheVariants.{Less, Equal, Greater}
use Rattle.feefrac.specs.Rate.{size_order, then_by, is_greater}
use Rattle.feeset.specs.Total.{total}
use Rattle.chunking.specs.Orders.{chunks_of}
use Rattle.linearize.specs.Linearize.{linear_order}
use Rattle.chunk_tests.specs.Tests.{pays_order}
use Rattle.txids.specs.declared.Txid.{Txid}
use Rattle.txids.specs.Txids.{before}
use Rattle.weights.specs.Weights.{adjusted}
use Rattle.pool_table.specs.Pool.{Pool, slot_at}
use Rattle.pool_order.specs.Order.{txid_of}
use Rattle.pool_members.specs.Members.{parents_of, clusters}

-- ---- what a member counts for

-- "Each member's fee is its fee plus its delta."
unfoldable pub fee_of : Pool → List ℤ → ℕ → ℤ
fee_of p ds s = pos (slot_at p s).entry.fee +ℤ get_or ds s (pos 0)

-- "the adjusted one is the larger of raw weight and sigop cost × bytes per sigop .. It ranks"
unfoldable pub size_of : Pool → ℕ → ℕ
size_of p s = (adjusted (slot_at p s).entry.weight (slot_at p s).entry.cost p.limits.bytes_per_sigop).0

-- ---- the chunks of a cluster `ms`, whose position i is the i-th of its members by txid

abbrev pub fees_of : Pool → List ℤ → List ℕ → List ℤ
fees_of p ds ms = map (fee_of p ds) ms

abbrev pub sizes_of : Pool → List ℕ → List ℕ
sizes_of p ms = map (size_of p) ms

-- "module 6's order"
unfoldable pub order_of : Pool → List ℤ → List ℕ → List ℕ
order_of p ds ms = linear_order (fees_of p ds ms) (sizes_of p ms) (map (parents_of p ms) ms)

-- "module 4 over module 6's order": the chunks as lists of positions
unfoldable pub parts_of : Pool → List ℤ → List ℕ → List (List ℕ)
parts_of p ds ms = chunks_of (fees_of p ds ms) (sizes_of p ms) (order_of p ds ms)

-- a chunk: its members' slots in order, its feerate sum, its cluster's least txid, and which of the cluster's chunks it is
pub record PoolChunk : Type 0 where
  pub slots : List ℕ
  pub rate : FeeFrac
  pub least : Txid
  pub place : ℕ

unfoldable pub chunk_of : Pool → List ℤ → List ℕ → ℕ → List ℕ → PoolChunk
chunk_of p ds ms k is =
    record {
      slots = map (λ i. get_or ms i 0) is;
      rate = total (fees_of p ds ms) (sizes_of p ms) is;
      least = txid_of p (get_or ms 0 0);
      place = k;
    }

unfoldable pub numbered : Pool → List ℤ → List ℕ → ℕ → List (List ℕ) → List PoolChunk
numbered p ds ms k [] = []
numbered p ds ms k (is ∷ iss) = chunk_of p ds ms k is ∷ numbered p ds ms (suc k) iss

-- ---- "Chunks of all clusters"

unfoldable pub chunks_over : Pool → List ℤ → List (List ℕ) → List PoolChunk
chunks_over p ds [] = []
chunks_over p ds (ms ∷ mss) = numbered p ds ms 0 (parts_of p ds ms) ++ chunks_over p ds mss

unfoldable pub all_chunks : Pool → List ℤ → List PoolChunk
all_chunks p ds = chunks_over p ds (clusters p)

-- ---- the order in which they are tried

-- the lower txid goes first
unfoldable pub txid_order : Txid → Txid → Ordering
txid_order t u = cond (before t u) Greater (cond (before u t) Less Equal)

-- "by exact feerate, then larger fee, then the cluster with the lower least txid, then their order in the cluster"
unfoldable pub tried_first : PoolChunk → PoolChunk → Bool
tried_first c d =
    is_greater (then_by (pays_order c.rate d.rate) (then_by (txid_order c.least d.least) (size_order d.place c.place)))

unfoldable pub tried : Pool → List ℤ → List PoolChunk
tried p ds = sorted_by tried_first (all_chunks p ds)
