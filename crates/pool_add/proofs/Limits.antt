-- The limits that `add` tests in a well-formed pool: its weights are small, so that no sum of them passes a word, and what the search for
-- the parents' clusters counts and weighs is what document 01 asks for. Assumes nothing.
use mathlib.Core.Path.{◌≡◌, refl, sym, ap, ap₂, ◌∙◌}
use mathlib.Core.Bool.{Bool, true, false, cond, ◌&&◌}
use mathlib.Core.List.{List}
use Prim.Native.Nat.{ℕ, zero, suc, ◌+◌, ◌*◌, ◌≤◌, ◌<◌}
use native.Mathlib.Omega.{arith}
use lib.Dec.{leb, ltb}
use borrow.Author.Tests.{eqb-true, leb-true, lt-ltb, le-ltb}
use Rattle.lists.proofs.Below.{all_at, any_ext}
use Rattle.lists.proofs.Bools.{and_right}
use Rattle.txset.specs.Sets.{has_in}
use Rattle.slotsets.specs.SlotSets.{capacity, set_of}
use Rattle.slotsets.proofs.SlotSets.{set_at}
use Rattle.weights.specs.Weights.{virtual_size}
use Rattle.pool_table.specs.declared.Limits.{Limits}
use Rattle.pool_table.specs.declared.Entry.{Entry}
use Rattle.pool_table.specs.Pool.{Pool, slot_count, weight_at}
use Rattle.pool_table.specs.Words.{pool_of}
use Rattle.pool_table.specs.Ranges.{entry_in_range}
use Rattle.pool_table.specs.Links.{in_cluster, in_clusters, sum_from, weight_of}
use Rattle.pool_table.specs.WellFormed.{numbers_in_range, free_zeroed, total_is_sum, well_formed}
use Rattle.pool_table.proofs.Legal.{few_slots}
use Rattle.pool_scan.specs.Rows.{in_ranges, zeroed, row_stands}
use Rattle.pool_scan.proofs.Scan.{weight_small}
use Rattle.pool_rules.specs.Module8.{count_with, size_with}
use Rattle.pool_rules.proofs.Sound.{Sound, well_legal, well_sound}
use Rattle.pool_clusters.specs.declared.Union.{Union}
use Rattle.pool_clusters.specs.Clusters.{union_of, clusters_of}
use Rattle.pool_clusters.proofs.Sums.{sum_within}

-- ---- small sums

cond_small : (b : Bool) (n m : ℕ) → n ≤ m → cond b n 0 ≤ m
cond_small true n m l = l
cond_small false n m l = omega arith

sum_small : (w : ℕ → ℕ) (f : ℕ → Bool) (m k i : ℕ) → ((j : ℕ) → i ≤ j → j < i + k → w j ≤ m) → sum_from w f k i ≤ k * m
unfolding sum_from
sum_small w f m zero i h = omega arith
sum_small w f m (suc k) i h =
    omega (arith, cond_small (f i) (w i) m (h i (omega arith) (omega arith)), sum_small w f m k (suc i) (λ j a b. h j (omega arith) (omega arith)))

-- an entry that is in its ranges weighs at most 4,000,000
pub entry_small : (e : Entry) → entry_in_range e ≡ true → e.weight.0 ≤ 4000000
unfolding entry_in_range
entry_small e h =
    let w = e.weight.0 in
    leb-true w 4000000 (and_right (leb 1 w) (leb w 4000000) (and_right (leb e.fee 2100000000000000) (leb 1 w && leb w 4000000) h))

module _ (p : Pool) (sound : Sound p) (few : slot_count p ≤ capacity) where
  row_at : (s : ℕ) → s < slot_count p → row_stands p s ≡ true
  unfolding row_stands numbers_in_range free_zeroed
  row_at s l =
      ap₂ ◌&&◌ (all_at (in_ranges p) (slot_count p) 0 sound.numbers s (omega arith) (omega arith))
      (all_at (zeroed p) (slot_count p) 0 sound.zeroed s (omega arith) (omega arith))

  total_is : p.total ≡ weight_of p (λ s. true)
  unfolding total_is_sum
  total_is = eqb-true p.total (weight_of p (λ s. true)) sound.total

  pub total_small : p.total ≤ 4096000000
  unfolding weight_of
  total_small =
      let few' : slot_count p ≤ 1024 = few in
      omega (
        arith,
        total_is,
        sum_small (weight_at p) (λ s. true) 4000000 (slot_count p) 0 (λ j _ l. weight_small p j (row_at j (omega arith))),
      )

  -- no set of slots weighs more than all
  pub part_small : (f : ℕ → Bool) → weight_of p f ≤ 4096000000
  unfolding weight_of
  part_small f = omega (arith, total_small, total_is, sum_within (weight_at p) (λ s. true) f (slot_count p) 0 (λ j _ _ _. refl))

-- ---- the clusters of the parents

-- a set of slots and its words have the same clusters
same_clusters : (p : Pool) (g : ℕ → Bool) → slot_count p ≤ capacity → in_clusters p (has_in (set_of g)) ≡ in_clusters p g
unfolding in_clusters
same_clusters p g few = λ i b. any_ext _ _ (slot_count p) 0 (λ a _ l. ap (λ (c : Bool). c && in_cluster p a b) (set_at g a (omega arith))) i

module _ (t : List ℕ) (h : well_formed t ≡ true) (g : ℕ → Bool) (u : Union) (e : u ≡ clusters_of t (has_in (set_of g))) where
  union_is : u ≡ union_of (pool_of t) (in_clusters (pool_of t) g)
  unfolding clusters_of
  union_is = e ∙ rw (well_legal t h) (ap (union_of (pool_of t)) (same_clusters (pool_of t) g (few_slots t (well_legal t h))))

  held : u.weight.0 ≡ weight_of (pool_of t) (in_clusters (pool_of t) g)
  unfolding union_of
  held =
      let few = few_slots t (well_legal t h) in
      omega (arith, ap (λ (v : Union). v.weight.0) union_is, part_small (pool_of t) (well_sound t h) few (in_clusters (pool_of t) g))

  pub union_small : u.weight.0 ≤ 4096000000
  union_small = omega (arith, held, part_small (pool_of t) (well_sound t h) (few_slots t (well_legal t h)) (in_clusters (pool_of t) g))

  -- ---- the tests of both limits

  module _ (l : Limits) (same : l ≡ (pool_of t).limits) where
    counted : count_with (pool_of t) g ≡ suc u.count
    unfolding count_with union_of
    counted = sym (ap (λ (v : Union). suc v.count) union_is)

    pub count_over : l.count ≤ u.count → ltb (pool_of t).limits.count (count_with (pool_of t) g) ≡ true
    count_over m =
        lt-ltb (pool_of t).limits.count (count_with (pool_of t) g) (omega (arith, counted, ap (λ (l : Limits). l.count) same))

    pub count_within : u.count < l.count → ltb (pool_of t).limits.count (count_with (pool_of t) g) ≡ false
    count_within m =
        le-ltb (pool_of t).limits.count (count_with (pool_of t) g) (omega (arith, counted, ap (λ (l : Limits). l.count) same))

    module _ (w v : ℕ) (size : v ≡ virtual_size (u.weight.0 + w)) where
      sized : ltb (pool_of t).limits.size (size_with (pool_of t) g w) ≡ ltb l.size v
      unfolding size_with
      sized = sym (ap₂ ltb (ap (λ (l : Limits). l.size) same) (size ∙ ap (λ (n : ℕ). virtual_size (n + w)) held))

      pub size_over : l.size < v → ltb (pool_of t).limits.size (size_with (pool_of t) g w) ≡ true
      size_over m = sized ∙ lt-ltb l.size v m

      pub size_within : v ≤ l.size → ltb (pool_of t).limits.size (size_with (pool_of t) g w) ≡ false
      size_within m = sized ∙ le-ltb l.size v m
