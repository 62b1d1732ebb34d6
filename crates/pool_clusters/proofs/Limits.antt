-- A cluster against the limits: what a search that was stopped or not says of it, a slot without links, a cluster within another, and the
-- walk over all slots. Assumes nothing.
use mathlib.Core.Path.{◌≡◌, refl, sym, ap, ap₂, ◌∙◌}
use mathlib.Core.Bool.{Bool, true, false, not, ◌&&◌, ◌||◌, or-true}
use mathlib.Core.Logic.{⊎_elim}
use mathlib.Core.List.{List}
use Prim.Native.Nat.{ℕ, suc, ◌+◌, ◌*◌, ◌≤◌, ◌<◌, min}
use native.Mathlib.Omega.{arith}
use lib.Dec.{eqb, ltb, leb}
use lib.ListN.{length}
use borrow.Author.Count.{below_more}
use borrow.Author.Tests.{le-leb, lt-leb, leb-true, eq-eqb}
use Rattle.std.specs.Prelude.{Option, Some, None}
use Rattle.lists.proofs.Bools.{clash, and_both, and_left, or_either, is_false}
use Rattle.lists.proofs.Numbers.{flip}
use Rattle.lists.proofs.Below.{count_ext, count_without, all_at, at_all}
use Rattle.txset.specs.Sets.{has_in}
use Rattle.slotsets.specs.SlotSets.{set_words, span}
use Rattle.weights.specs.Weights.{most, virtual_size}
use Rattle.lists.proofs.Ranges.{count_within, count_none}
use Rattle.ways.proofs.Cycles.{onward_trans}
use Rattle.pool_table.specs.declared.Limits.{Limits}
use Rattle.pool_table.specs.Pool.{Pool, slot_at, slot_count, weight_at, occupied}
use Rattle.pool_table.specs.Ranges.{limits_in_range}
use Rattle.pool_table.specs.Links.{has_links, is_linked, in_cluster, in_clusters, count_of, sum_from, weight_of}
use Rattle.pool_table.specs.WellFormed.{is_within, clusters_within}
use Rattle.pool_clusters.specs.declared.Union.{Union}
use Rattle.pool_clusters.specs.declared.Found.{Found}
use Rattle.pool_clusters.specs.Clusters.{union_of, AllOf, Gathered, ClusterWithin}
use Rattle.pool_clusters.proofs.Reached.{reached_one, onward_lone}
use Rattle.pool_clusters.proofs.Sums.{sum_ext, sum_none, sum_within, sum_without}
use Rattle.pool_clusters.proofs.Linked.{linked_none, linked_bounded, cluster_onward, clusters_reached}

-- ---- one set of slots, however it is given

module _ (p : Pool) (f g : ℕ → Bool) (same : (i : ℕ) → f i ≡ g i) where
  count_same : count_of p f ≡ count_of p g
  unfolding count_of
  count_same = count_ext f g (slot_count p) 0 (λ i a b. same i)

  weight_same : weight_of p f ≡ weight_of p g
  unfolding weight_of
  weight_same = sum_ext (weight_at p) f g (slot_count p) 0 (λ i a b. same i)

  union_same : union_of p f ≡ union_of p g
  unfolding union_of
  union_same = ap₂ {C = Union} (λ (c w : ℕ). record { count = c; weight = record { 0 = min w most } }) count_same weight_same

  pub gathered_same : (limit : ℕ) (r : Option Found) → Gathered p f limit r → Gathered p g limit r
  gathered_same limit None h = ap (λ (n : ℕ). leb n limit) (sym count_same) ∙ h
  gathered_same limit (Some x) h =
      record {
        few = ap (λ (n : ℕ). leb n limit) (sym count_same) ∙ h.few;
        members = λ i. h.members i ∙ same i;
        union = h.union ∙ union_same;
      }

-- the clusters of one slot are its cluster
pub of_one : (p : Pool) (f : ℕ → Bool) (a : ℕ) → a < slot_count p → ((i : ℕ) → f i ≡ eqb i a) → (b : ℕ) → in_clusters p f b ≡ in_cluster p a b
of_one p f a l one b = clusters_reached p f b ∙ reached_one (is_linked p) (slot_count p) f a l one b ∙ sym (cluster_onward p a b)

-- ---- limits in their ranges

-- the size limit is so small that four times it stays far below 2^64
pub size_small : (l : Limits) → limits_in_range l ≡ true → l.size ≤ 101000
unfolding limits_in_range
size_small l h =
    leb-true l.size 101000
    (and_both (leb 1 l.size) (leb l.size 101000) (and_both (leb 1 l.count && leb l.count 64) (leb 1 l.size && leb l.size 101000) h).1).1

count_some : (l : Limits) → limits_in_range l ≡ true → 0 < l.count
unfolding limits_in_range
count_some l h =
    leb-true 1 l.count (and_left (leb 1 l.count) (leb l.count 64) (and_left (leb 1 l.count && leb l.count 64) (leb 1 l.size && leb l.size 101000) h))

-- ---- a slot without links

module _ (p : Pool) (a : ℕ) (l : a < slot_count p) where
  without : (j : ℕ) → false ≡ (eqb j a && not (eqb j a))
  without j = sym (never (eqb j a))
    where
      never : (b : Bool) → (b && not b) ≡ false
      never true = refl
      never false = refl

  count_one : count_of p (λ i. eqb i a) ≡ 1
  unfolding count_of
  count_one =
      count_without (λ i. eqb i a) (λ i. false) (slot_count p) 0 a (omega arith) (omega arith) (eq-eqb a a refl) (λ j x y. without j)
      ∙ ap suc (count_none (λ i. false) (slot_count p) (λ i l. refl))

  weight_one : weight_of p (λ i. eqb i a) ≡ weight_at p a
  unfolding weight_of
  weight_one =
      let e : sum_from (weight_at p) (λ i. eqb i a) (slot_count p) 0 ≡ weight_at p a + sum_from (weight_at p) (λ i. false) (slot_count p) 0 =
      sum_without (weight_at p) (λ i. eqb i a) (λ i. false) (slot_count p) 0 a (omega arith) (omega arith) (eq-eqb a a refl) (λ j x y. without j) in
      omega (arith, sum_none (weight_at p) (λ i. false) (slot_count p) 0 (λ i. refl))

  -- it is a cluster by itself
  pub lone_cluster : has_links (slot_at p a) ≡ false → (i : ℕ) → in_cluster p a i ≡ eqb i a
  lone_cluster h i = cluster_onward p a i ∙ onward_lone (is_linked p) (slot_count p) a (linked_none p a h) i ∙ sym (flip i a)

  -- of one member, with its own weight
  pub lone_within : has_links (slot_at p a) ≡ false → limits_in_range p.limits ≡ true
      → is_within p (in_cluster p a) ≡ leb (virtual_size (weight_at p a)) p.limits.size
  unfolding is_within
  lone_within h r =
      let same = lone_cluster h in
      let heavy : ℕ → Bool = λ w. leb (virtual_size w) p.limits.size in
      ap₂ (λ (c w : ℕ). leb c p.limits.count && heavy w)
      (count_same p (in_cluster p a) (λ i. eqb i a) same ∙ count_one)
      (weight_same p (in_cluster p a) (λ i. eqb i a) same ∙ weight_one)
      ∙ ap (λ (b : Bool). b && heavy (weight_at p a)) (le-leb 1 p.limits.count (count_some p.limits r))

-- ---- within the limits

size_fits : (w size : ℕ) → w ≤ 4 * size → virtual_size w ≤ size
unfolding virtual_size
size_fits w size h = omega arith

size_over : (w size : ℕ) → 4 * size < w → size < virtual_size w
unfolding virtual_size
size_over w size h = omega arith

module _ (p : Pool) (f : ℕ → Bool) where
  -- the search was stopped: too many
  pub too_many : leb (count_of p f) p.limits.count ≡ false → is_within p f ≡ false
  unfolding is_within
  too_many e = ap (λ (b : Bool). b && leb (virtual_size (weight_of p f)) p.limits.size) e

  module _ (x : Found) (h : AllOf p f p.limits.count x) (small : p.limits.size ≤ 101000) where
    weight_is : x.union.weight.0 ≡ min (weight_of p f) most
    unfolding union_of
    weight_is = ap (λ (u : Union). u.weight.0) h.union

    pub too_heavy : 4 * p.limits.size < x.union.weight.0 → is_within p f ≡ false
    unfolding is_within
    too_heavy l =
        ap₂ ◌&&◌ h.few
        (lt-leb (virtual_size (weight_of p f)) p.limits.size (size_over (weight_of p f) p.limits.size (omega (arith, weight_is))))

    pub stands : x.union.weight.0 ≤ 4 * p.limits.size → is_within p f ≡ true
    unfolding is_within
    stands l =
        ap₂ ◌&&◌ h.few
        (le-leb (virtual_size (weight_of p f)) p.limits.size (size_fits (weight_of p f) p.limits.size (omega (arith, weight_is))))

-- ---- a set within another

size_less : (v w : ℕ) → v ≤ w → virtual_size v ≤ virtual_size w
unfolding virtual_size
size_less v w h = omega arith

within_less : (p : Pool) (f g : ℕ → Bool) → ((i : ℕ) → g i ≡ true → f i ≡ true) → is_within p f ≡ true → is_within p g ≡ true
unfolding is_within count_of weight_of
within_less p f g sub h =
    let both = and_both (leb (count_of p f) p.limits.count) (leb (virtual_size (weight_of p f)) p.limits.size) h in
    let few : count_of p f ≤ p.limits.count = leb-true (count_of p f) p.limits.count both.0 in
    let light : virtual_size (weight_of p f) ≤ p.limits.size = leb-true (virtual_size (weight_of p f)) p.limits.size both.1 in
    let fewer : count_of p g ≤ count_of p f = count_within f g (slot_count p) 0 (λ i a b m. sub i m) in
    let lighter : weight_of p g ≤ weight_of p f = sum_within (weight_at p) f g (slot_count p) 0 (λ i a b m. sub i m) in
    ap₂ ◌&&◌
    (le-leb (count_of p g) p.limits.count (omega arith))
    (le-leb (virtual_size (weight_of p g)) p.limits.size (omega (arith, size_less (weight_of p g) (weight_of p f) lighter)))

-- a slot in a cluster has its own cluster within that one
pub cluster_less : (p : Pool) (a b : ℕ) → in_cluster p a b ≡ true → is_within p (in_cluster p a) ≡ true → is_within p (in_cluster p b) ≡ true
cluster_less p a b m h =
    within_less p (in_cluster p a) (in_cluster p b)
    (λ i n.
    cluster_onward p a i
    ∙ onward_trans (linked_bounded p) a b i (sym (cluster_onward p a b) ∙ m) (sym (cluster_onward p b i) ∙ n))
    h

-- ---- the walk over all slots: those passed are free, or their clusters are within the limits; and so are those of all slots seen

abbrev pub good : Pool → ℕ → Bool
good p s = not (occupied p s) || is_within p (in_cluster p s)

pub record Walked (p : Pool) (seen : List ℕ) (next : ℕ) : Type 0 where
  pub short : next ≤ slot_count p
  pub long : length seen ≡ set_words
  pub passed : (i : ℕ) → i < next → good p i ≡ true
  pub safe : (i : ℕ) → has_in seen i ≡ true → is_within p (in_cluster p i) ≡ true

pub walk_start : (p : Pool) (seen : List ℕ) → length seen ≡ set_words → ((i : ℕ) → has_in seen i ≡ false) → Walked p seen 0
walk_start p seen e none =
    record { short = omega arith; long = e; passed = λ i l. absurd (omega arith); safe = λ i m. clash m (none i) }

module _ {p : Pool} {seen : List ℕ} {next : ℕ} (w : Walked p seen next) (l : next < slot_count p) where
  pub walk_on : good p next ≡ true → Walked p seen (next + 1)
  walk_on h = record { short = omega arith; long = w.long; passed = below_more (λ i. good p i ≡ true) next w.passed h; safe = w.safe }

  within_good : is_within p (in_cluster p next) ≡ true → good p next ≡ true
  within_good h = ap (λ (b : Bool). not (occupied p next) || b) h ∙ or-true (not (occupied p next))

  pub walk_within : is_within p (in_cluster p next) ≡ true → Walked p seen (next + 1)
  walk_within h = walk_on (within_good h)

  -- a cluster within the limits is seen
  pub walk_turn : {found : List ℕ} → ClusterWithin p next found → (seen' : List ℕ) → length seen' ≡ length seen
      → ((i : ℕ) → has_in seen' i ≡ (has_in seen i || (ltb i (span seen) && has_in found i))) → Walked p seen' (next + 1)
  walk_turn {found} h seen' long more =
      record {
        short = omega arith;
        long = long ∙ w.long;
        passed = below_more (λ i. good p i ≡ true) next w.passed (within_good h.within);
        safe = λ i m.
            ⊎_elim
            (w.safe i)
            (λ f. cluster_less p next i (sym (h.members i) ∙ (and_both (ltb i (span seen)) (has_in found i) f).1) h.within)
            (or_either (has_in seen i) (ltb i (span seen) && has_in found i) (sym (more i) ∙ m));
      }

pub walk_done : {p : Pool} {seen : List ℕ} {next : ℕ} → Walked p seen next → slot_count p ≤ next → clusters_within p ≡ true
unfolding clusters_within
walk_done {p} w l = at_all (good p) (slot_count p) 0 (λ i a b. w.passed i (omega arith))

-- a cluster that passes a limit
pub walk_fails : (p : Pool) (a : ℕ) → a < slot_count p → occupied p a ≡ true → is_within p (in_cluster p a) ≡ false → clusters_within p ≡ false
unfolding clusters_within
walk_fails p a l o h =
    is_false (clusters_within p)
    (λ e. clash (sym (ap₂ (λ (x y : Bool). not x || y) o h) ∙ all_at (good p) (slot_count p) 0 e a (omega arith) (omega arith)) refl)
