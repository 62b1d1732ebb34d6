-- The links of a pool and what follows from them: chains of parents, clusters, and the weight of a set of slots. Assumes nothing.
use Rattle.std.specs.Prelude.{ℕ, zero, suc, ◌+◌, Bool, cond, not, ◌&&◌, ◌||◌, List, [], ◌++◌, eqb, ltb}
use Rattle.lists.specs.Below.{any_from, count_from}
use Rattle.lists.specs.Lists.{all_of}
use Rattle.txset.specs.Sets.{has_in}
use Rattle.ways.specs.Ways.{Way, reach}
use Rattle.pool_table.specs.declared.Side.{Side}
use Rattle.pool_table.specs.declared.Side.TheVariants.{Parents, Children}
use Rattle.pool_table.specs.Pool.{Slot, Pool, slot_at, slot_count, weight_at}

-- the set of a slot on one side
abbrev pub side_of : Side → Slot → List ℕ
side_of Parents x = x.parents
side_of Children x = x.children

-- the set of slot s on one side as words; past the last slot there are none
unfoldable pub links_at : Pool → Side → ℕ → List ℕ
links_at p side s = cond (ltb s (slot_count p)) (side_of side (slot_at p s)) []

-- some word of a slot's parents or children is not 0: it names a slot
unfoldable pub has_links : Slot → Bool
has_links x = not (all_of (eqb 0) (x.parents ++ x.children))

-- slot a names slot b as its parent, or as its child; both are slots of the pool
unfoldable pub is_parent : Pool → ℕ → ℕ → Bool
is_parent p a b = (ltb a (slot_count p) && ltb b (slot_count p)) && has_in (slot_at p a).parents b

unfoldable pub is_child : Pool → ℕ → ℕ → Bool
is_child p a b = (ltb a (slot_count p) && ltb b (slot_count p)) && has_in (slot_at p a).children b

-- a link, either direction
unfoldable pub is_linked : Pool → ℕ → ℕ → Bool
is_linked p a b = is_parent p a b || is_child p a b

-- b is in the cluster of a: it is a, or a way of links goes there. Said without a procedure
pub data Together (p : Pool) : ℕ → ℕ → Type 0 where
  itself : {a : ℕ} → Together p a a
  linked : {a b : ℕ} → Way (is_linked p) a b → Together p a b

-- the same computed: that both agree is a theorem (proofs/Theorems.antt of pool_clusters)
unfoldable pub in_cluster : Pool → ℕ → ℕ → Bool
in_cluster p a b = eqb a b || reach (is_linked p) (slot_count p) a b

-- the clusters of a set of slots together, each member once
unfoldable pub in_clusters : Pool → (ℕ → Bool) → ℕ → Bool
in_clusters p f b = any_from (λ a. f a && in_cluster p a b) (slot_count p) 0

-- how many slots a set has, and the sum of their raw weights
unfoldable pub count_of : Pool → (ℕ → Bool) → ℕ
count_of p f = count_from f (slot_count p) 0

unfoldable pub sum_from : (ℕ → ℕ) → (ℕ → Bool) → ℕ → ℕ → ℕ
sum_from w f zero i = 0
sum_from w f (suc k) i = cond (f i) (w i) 0 + sum_from w f k (suc i)

unfoldable pub weight_of : Pool → (ℕ → Bool) → ℕ
weight_of p f = sum_from (weight_at p) f (slot_count p) 0
