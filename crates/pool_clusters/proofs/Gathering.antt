-- A flood fill of a pool's clusters that counts and weighs what it has looked at: its start, a turn, and both its ends. Assumes nothing.
use mathlib.Core.Path.{◌≡◌, refl, sym, ap, ap₂, ◌∙◌}
use mathlib.Core.Bool.{Bool, true, false, not, ◌&&◌, ◌||◌, and-true}
use mathlib.Core.Logic.{⊎_elim}
use mathlib.Core.List.{List}
use Prim.Native.Nat.{ℕ, suc, ◌+◌, ◌≤◌, ◌<◌, min}
use native.Mathlib.Omega.{arith}
use lib.Dec.{eqb, ltb, leb}
use lib.ListN.{length}
use borrow.Author.Tests.{lt-ltb, le-leb, lt-leb}
use Rattle.lists.specs.Below.{count_from}
use Rattle.lists.proofs.Bools.{clash, and_left}
use Rattle.lists.proofs.Numbers.{lt_or_ge}
use Rattle.lists.proofs.Below.{count_ext, count_without}
use Rattle.lists.proofs.Ranges.{count_le, count_less, count_none}
use Rattle.txset.specs.Sets.{has_in}
use Rattle.slotsets.specs.SlotSets.{capacity, set_words, lowest_in}
use Rattle.slotsets.proofs.Words.{lowest_has, lowest_past}
use Rattle.slotsets.proofs.SlotSets.{set_past}
use Rattle.weights.specs.Weights.{most}
use Rattle.pool_table.specs.Pool.{Pool, slot_count, weight_at}
use Rattle.pool_table.specs.Links.{is_linked, in_clusters, count_of, weight_of}
use Rattle.pool_clusters.specs.declared.Union.{Union}
use Rattle.pool_clusters.specs.Clusters.{union_of, AllSlots, AllOf}
use Rattle.pool_clusters.proofs.Sums.{sum_ext, sum_none, sum_without}
use Rattle.pool_clusters.proofs.Linked.{linked_bounded, clusters_reached}
use Rattle.pool_clusters.proofs.Floods.{Flooding, flood_start, flood_turn, done_turn, done_here, flood_done}

-- a pool whose slots are in a set has no more than a set holds
pub slots_few : (p : Pool) (all : List ℕ) → AllSlots p all → slot_count p ≤ capacity
slots_few p all s =
    ⊎_elim
    (λ (l : capacity < slot_count p). clash (s.are capacity ∙ lt-ltb capacity (slot_count p) l) (set_past all s.long capacity (omega arith)))
    (λ l. l)
    (lt_or_ge capacity (slot_count p))

-- what was found and looked at
abbrev pub done : List ℕ → List ℕ → ℕ → Bool
done found todo i = has_in found i && not (has_in todo i)

pub record Gathering (p : Pool) (seeds : List ℕ) (limit : ℕ) (found todo : List ℕ) (count weight : ℕ) : Type 0 where
  pub flood : Flooding (is_linked p) (slot_count p) (has_in seeds) (has_in found) (has_in todo)
  pub wide : length found ≡ set_words
  pub long : length todo ≡ set_words
  pub counted : count ≡ count_of p (done found todo)
  pub weighed : weight ≡ min (weight_of p (done found todo)) most
  pub few : count ≤ limit

nothing : (b : Bool) → (b && not b) ≡ false
nothing true = refl
nothing false = refl

pub gather_start : (p : Pool) (seeds : List ℕ) (limit : ℕ) (found : List ℕ) → length found ≡ set_words
    → ((i : ℕ) → has_in found i ≡ (ltb i (slot_count p) && has_in seeds i)) → Gathering p seeds limit found found 0 0
unfolding count_of weight_of
gather_start p seeds limit found long e =
    record {
      flood = flood_start (is_linked p) (slot_count p) (has_in seeds) (has_in found) e;
      wide = long;
      long = long;
      counted = sym (count_none (done found found) (slot_count p) (λ i l. nothing (has_in found i)));
      weighed = sym (ap (λ (n : ℕ). min n most) (sum_none (weight_at p) (done found found) (slot_count p) 0 (λ i. nothing (has_in found i))));
      few = omega arith;
    }

-- slot a is looked at: what it is linked to is found, and what of that is new is still to be looked at
pub record Turned (p : Pool) (a : ℕ) (found todo found' todo' : List ℕ) : Type 0 where
  pub here : has_in todo a ≡ true
  pub wide : length found' ≡ set_words
  pub long : length todo' ≡ set_words
  pub grown : (i : ℕ) → has_in found' i ≡ (has_in found i || is_linked p a i)
  pub left : (i : ℕ) → has_in todo' i ≡ ((has_in todo i && not (eqb i a)) || (is_linked p a i && not (has_in found i)))

module _
    {p : Pool}
    {seeds : List ℕ}
    {limit : ℕ}
    {found todo : List ℕ}
    {count weight : ℕ}
    (g : Gathering p seeds limit found todo count weight)
    {a : ℕ}
    {found' todo' : List ℕ}
    (t : Turned p a found todo found' todo') where
  slot : a < slot_count p
  slot = g.flood.below a (g.flood.known a t.here)

  one_more : count_of p (done found' todo') ≡ count_of p (done found todo) + 1
  unfolding count_of
  one_more =
      let e : count_from (done found' todo') (slot_count p) 0 ≡ suc (count_from (done found todo) (slot_count p) 0) =
      count_without (done found' todo') (done found todo) (slot_count p) 0 a (omega arith) (omega (arith, slot))
      (done_here (linked_bounded p) g.flood a t.here t.grown t.left)
      (λ i x y. done_turn (linked_bounded p) g.flood a t.here t.grown t.left i) in
      omega arith

  heavier : weight_of p (done found' todo') ≡ weight_at p a + weight_of p (done found todo)
  unfolding weight_of
  heavier =
      sum_without (weight_at p) (done found' todo') (done found todo) (slot_count p) 0 a (omega arith) (omega (arith, slot))
      (done_here (linked_bounded p) g.flood a t.here t.grown t.left)
      (λ i x y. done_turn (linked_bounded p) g.flood a t.here t.grown t.left i)

  pub gather_turn : count < limit → (w : ℕ) → w ≡ min (weight + weight_at p a) most → Gathering p seeds limit found' todo' (count + 1) w
  gather_turn l w e =
      record {
        flood = flood_turn (linked_bounded p) g.flood a t.here t.grown t.left;
        wide = t.wide;
        long = t.long;
        counted = omega (arith, g.counted, one_more);
        weighed = omega (arith, g.weighed, heavier);
        few = omega arith;
      }

  -- no more slots are looked at than there are
  pub gather_less : slot_count p ≤ capacity → count < capacity
  unfolding count_of
  gather_less l = omega (arith, g.counted, one_more, count_le (done found' todo') (slot_count p) 0)

module _
    {p : Pool}
    {seeds : List ℕ}
    {limit : ℕ}
    {found todo : List ℕ}
    {count weight : ℕ}
    (g : Gathering p seeds limit found todo count weight) where
  -- none is left to be looked at
  module _ (none : capacity ≤ lowest_in todo) where
    empty : (i : ℕ) → has_in todo i ≡ false
    empty i = ⊎_elim (lowest_past todo none i) (set_past todo g.long i) (lt_or_ge i capacity)

    found_all : (i : ℕ) → has_in found i ≡ in_clusters p (has_in seeds) i
    found_all i = flood_done g.flood empty i ∙ sym (clusters_reached p (has_in seeds) i)

    done_all : (i : ℕ) → done found todo i ≡ in_clusters p (has_in seeds) i
    done_all i = ap (λ (b : Bool). has_in found i && not b) (empty i) ∙ and-true (has_in found i) ∙ found_all i

    count_all : count ≡ count_of p (in_clusters p (has_in seeds))
    unfolding count_of
    count_all = g.counted ∙ count_ext (done found todo) (in_clusters p (has_in seeds)) (slot_count p) 0 (λ i a b. done_all i)

    weight_all : weight ≡ min (weight_of p (in_clusters p (has_in seeds))) most
    unfolding weight_of
    weight_all =
        g.weighed
        ∙ ap (λ (n : ℕ). min n most) (sum_ext (weight_at p) (done found todo) (in_clusters p (has_in seeds)) (slot_count p) 0 (λ i a b. done_all i))

    pub gather_all : AllOf p (in_clusters p (has_in seeds)) limit
        (record { members = found; union = record { count = count; weight = record { 0 = weight } } })
    unfolding union_of
    gather_all =
        record {
          few = le-leb (count_of p (in_clusters p (has_in seeds))) limit (omega (arith, g.few, count_all));
          members = found_all;
          union = ap₂ {C = Union} (λ (c w : ℕ). record { count = c; weight = record { 0 = w } }) count_all weight_all;
        }

  -- the limit is reached, and there is more
  module _ (some : lowest_in todo < capacity) (full : limit ≤ count) where
    more : limit < count_of p (in_clusters p (has_in seeds))
    unfolding count_of
    more =
        let a = lowest_in todo in
        let here : has_in todo a ≡ true = lowest_has todo some in
        let in' : has_in found a ≡ true = g.flood.known a here in
        let l : count_from (done found todo) (slot_count p) 0 < count_from (in_clusters p (has_in seeds)) (slot_count p) 0 =
        count_less (in_clusters p (has_in seeds)) (done found todo) (slot_count p) 0 a
        (λ i x y h. clusters_reached p (has_in seeds) i ∙ g.flood.some i (and_left (has_in found i) (not (has_in todo i)) h))
        (omega arith)
        (omega (arith, g.flood.below a in'))
        (clusters_reached p (has_in seeds) a ∙ g.flood.some a in')
        (ap₂ (λ (x y : Bool). x && not y) in' here) in
        omega (arith, g.counted)

    pub gather_more : leb (count_of p (in_clusters p (has_in seeds))) limit ≡ false
    gather_more = lt-leb (count_of p (in_clusters p (has_in seeds))) limit more

-- a search that may find as many as there are is not stopped
pub never_more : (p : Pool) (f : ℕ → Bool) → slot_count p ≤ capacity → leb (count_of p f) capacity ≡ true
unfolding count_of
never_more p f l = le-leb (count_of p f) capacity (omega (arith, count_le f (slot_count p) 0))
