-- The clusters of some slots together, as they are counted and weighed against the limits. Assumes nothing.
use Rattle.std.specs.Prelude.{ℕ, min, ◌≡◌, Bool, true, false, cond, ◌&&◌, List, ltb, leb, length, Option, MatchOption}
use Rattle.txset.specs.Sets.{has_in}
use Rattle.weights.specs.Weights.{most}
use Rattle.slotsets.specs.SlotSets.{set_words}
use Rattle.pool_table.specs.Pool.{Pool, slot_count}
use Rattle.pool_table.specs.Words.{is_legal, pool_of}
use Rattle.pool_table.specs.Ranges.{limits_in_range}
use Rattle.pool_table.specs.Links.{in_cluster, in_clusters, count_of, weight_of}
use Rattle.pool_table.specs.WellFormed.{is_within}
use Rattle.pool_table.specs.declared.Limits.{Limits}
use Rattle.pool_clusters.specs.declared.Union.{Union}
use Rattle.pool_clusters.specs.declared.Found.{Found}

-- how many members a set of slots has, and the sum of their raw weights, held at 2^64 - 1
unfoldable pub union_of : Pool → (ℕ → Bool) → Union
union_of p f = record { count = count_of p f; weight = record { 0 = min (weight_of p f) most } }

abbrev pub no_union : Union
no_union = record { count = 0; weight = record { 0 = 0 } }

-- the clusters of these slots together, each member counted once. A table that is not of a legal length has none
unfoldable pub clusters_of : List ℕ → (ℕ → Bool) → Union
clusters_of t f = cond (is_legal (length t)) (union_of (pool_of t) (in_clusters (pool_of t) f)) no_union

-- the slots of a pool, as a set
pub record AllSlots (p : Pool) (all : List ℕ) : Type 0 where
  pub long : length all ≡ set_words
  pub are : (i : ℕ) → has_in all i ≡ ltb i (slot_count p)

-- what was found is a set f of slots, which has at most `limit` members
pub record AllOf (p : Pool) (f : ℕ → Bool) (limit : ℕ) (found : Found) : Type 0 where
  pub few : leb (count_of p f) limit ≡ true
  pub members : (i : ℕ) → has_in found.members i ≡ f i
  pub union : found.union ≡ union_of p f

-- what a search for a set f of slots knows that goes on while it has at most `limit` members: that there are more, and else all of them
abbrev pub Gathered : Pool → (ℕ → Bool) → ℕ → Option Found → Type 0
Gathered p f limit r = MatchOption r (leb (count_of p f) limit ≡ false) (AllOf p f limit)

-- a table has no limits to which its clusters can be held: it is not of a legal length, or they are not in their ranges
abbrev pub Unlimited : List ℕ → Type 0
Unlimited t = (is_legal (length t) && limits_in_range (pool_of t).limits) ≡ false

-- the limits to which its clusters are held
pub record Limited (t : List ℕ) (l : Limits) : Type 0 where
  pub legal : is_legal (length t) ≡ true
  pub are : l ≡ (pool_of t).limits
  pub ranged : limits_in_range (pool_of t).limits ≡ true

-- the cluster of slot a is within the limits, and these are its members
pub record ClusterWithin (p : Pool) (a : ℕ) (found : List ℕ) : Type 0 where
  pub within : is_within p (in_cluster p a) ≡ true
  pub members : (i : ℕ) → has_in found i ≡ in_cluster p a i
