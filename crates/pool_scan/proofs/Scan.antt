-- The walk of `rows_stand` over the rows, one law for each event. Assumes nothing.
use mathlib.Core.Path.{◌≡◌, refl, sym, ap, ap₂, ◌∙◌}
use mathlib.Core.Bool.{Bool, true, false, not, cond, ◌&&◌, ◌||◌}
use Prim.Native.Nat.{ℕ, zero, suc, ◌+◌, ◌*◌, ◌≤◌, ◌<◌}
use native.Mathlib.Nat.{zero-add, add-zero, suc-add, add-suc, add_assoc}
use native.Mathlib.Omega.{arith}
use lib.Dec.{eqb, leb}
use borrow.Author.Tests.{leb-true, eqb-true, not-false}
use Rattle.lists.specs.Below.{all_from}
use Rattle.lists.specs.Lists.{all_of}
use Rattle.lists.proofs.Below.{all_split, all_at}
use Rattle.lists.proofs.Bools.{and_right, clash}
use Rattle.lists.proofs.Numbers.{flip}
use Rattle.pool_table.specs.Pool.{Pool, slot_at, slot_count, is_occupied, occupied, weight_at}
use Rattle.pool_table.specs.Words.{slot_words}
use Rattle.pool_table.specs.Ranges.{entry_in_range}
use Rattle.pool_table.specs.Links.{sum_from, weight_of}
use Rattle.pool_table.specs.WellFormed.{numbers_in_range, total_is_sum, free_zeroed}
use Rattle.pool_scan.specs.Rows.{in_ranges, zeroed, row_stands}

-- ---- one row

-- an occupied slot that stands is in its ranges, and a free one has no weight: so a weight is at most 4,000,000
in_range_lem : (o e z : Bool) → ((not o || e) && (o || z)) ≡ true → o ≡ true → e ≡ true
in_range_lem true true z h g = refl
in_range_lem true false z h g = clash h refl
in_range_lem false e z h g = clash g refl

ranged : (p : Pool) (s : ℕ) → entry_in_range (slot_at p s).entry ≡ true → weight_at p s ≤ 4000000
unfolding entry_in_range
ranged p s r =
    leb-true (weight_at p s) 4000000
    (and_right (leb 1 (weight_at p s)) (leb (weight_at p s) 4000000) (and_right (leb (slot_at p s).entry.fee 2100000000000000) _ r))

weightless : (p : Pool) (s : ℕ) → occupied p s ≡ false → weight_at p s ≡ 0
unfolding is_occupied
weightless p s e = eqb-true (weight_at p s) 0 (not-false (eqb (weight_at p s) 0) e)

pub weight_small : (p : Pool) (s : ℕ) → row_stands p s ≡ true → weight_at p s ≤ 4000000
unfolding row_stands
weight_small p s h = go (occupied p s) refl
  where
    go : (o : Bool) → occupied p s ≡ o → weight_at p s ≤ 4000000
    go true e = ranged p s (in_range_lem (occupied p s) (entry_in_range (slot_at p s).entry) _ h e)
    go false e = omega (arith, weightless p s e)

-- what the tests of an occupied and of a free slot give is what the row is asked for
pub taken : (p : Pool) (s : ℕ) → occupied p s ≡ true → entry_in_range (slot_at p s).entry ≡ row_stands p s
unfolding row_stands
taken p s e = both (occupied p s) (entry_in_range (slot_at p s).entry) (all_of (eqb 0) (slot_words (slot_at p s))) e
  where
    both : (o r z : Bool) → o ≡ true → r ≡ ((not o || r) && (o || z))
    both true true z h = refl
    both true false z h = refl
    both false r z h = clash h refl

pub untaken : (p : Pool) (s : ℕ) → occupied p s ≡ false → all_of (eqb 0) (slot_words (slot_at p s)) ≡ row_stands p s
unfolding row_stands
untaken p s e = both (occupied p s) (entry_in_range (slot_at p s).entry) (all_of (eqb 0) (slot_words (slot_at p s))) e
  where
    both : (o r z : Bool) → o ≡ false → z ≡ ((not o || r) && (o || z))
    both false r z h = refl
    both true r z h = clash refl h

-- ---- the walk

pub record Scanned (p : Pool) (s sum : ℕ) : Type 0 where
  pub stand : all_from (row_stands p) s 0 ≡ true
  pub summed : sum ≡ sum_from (weight_at p) (λ i. true) s 0
  pub small : sum ≤ s * 4000000

pub scan_start : (p : Pool) → Scanned p 0 0
unfolding all_from sum_from
scan_start p = record { stand = refl; summed = refl; small = omega arith }

sum_split : (w : ℕ → ℕ) (f : ℕ → Bool) (j k i : ℕ) → sum_from w f (j + k) i ≡ sum_from w f j i + sum_from w f k (i + j)
unfolding sum_from
sum_split w f zero k i = rw (zero-add k, add-zero i, zero-add (sum_from w f k i))
sum_split w f (suc j) k i =
    rw (suc-add j k, add-suc i j, sum_split w f j k (suc i), suc-add i j) (sym (add_assoc (cond (f i) (w i) 0) (sum_from w f j (suc i)) (sum_from w f k (suc (i + j)))))

-- a range of one
one : (f : ℕ → Bool) (s : ℕ) → f s ≡ true → all_from f 1 s ≡ true
unfolding all_from
one f s e = rw e

pub scan_turn : {p : Pool} {s sum w : ℕ} → Scanned p s sum → row_stands p s ≡ true → w ≡ weight_at p s → Scanned p (s + 1) (sum + w)
unfolding all_from sum_from
scan_turn {p} {s} {sum} {w} h e z =
    record {
      stand = all_split (row_stands p) s 1 0 ∙ ap₂ ◌&&◌ h.stand (one (row_stands p) (0 + s) (rw (zero-add s) e));
      summed = ap₂ ◌+◌ h.summed z ∙ sym (sum_split (weight_at p) (λ i. true) s 1 0 ∙ rw (zero-add s, add-zero (weight_at p s)));
      small = omega (arith, h.small, z, weight_small p s e);
    }

-- ---- the answers

all_and : (f g : ℕ → Bool) (k i : ℕ) → all_from (λ j. f j && g j) k i ≡ (all_from f k i && all_from g k i)
unfolding all_from
all_and f g zero i = refl
all_and f g (suc k) i = ap (λ (b : Bool). (f i && g i) && b) (all_and f g k (suc i)) ∙ shuffle (f i) (g i) (all_from f k (suc i)) (all_from g k (suc i))
  where
    shuffle : (a b c d : Bool) → ((a && b) && (c && d)) ≡ ((a && c) && (b && d))
    shuffle true true true d = refl
    shuffle true true false d = refl
    shuffle true false true d = refl
    shuffle true false false d = refl
    shuffle false b c d = refl

-- both parts of every row are all rows' parts
parts : (p : Pool) (n : ℕ) → all_from (row_stands p) n 0 ≡ (all_from (in_ranges p) n 0 && all_from (zeroed p) n 0)
unfolding row_stands
parts p n = all_and (in_ranges p) (zeroed p) n 0

-- where not both hold, not all three do
none_both : (a t z : Bool) → ((a && z) ≡ true → ⊥) → (a && (t && z)) ≡ false
none_both true true true n = absurd (n refl)
none_both true true false n = refl
none_both true false z n = refl
none_both false t z n = refl

middle : (a t z : Bool) → (a && z) ≡ true → (a && (t && z)) ≡ t
middle true true true h = refl
middle true false true h = refl
middle true t false h = clash h refl
middle false t z h = clash h refl

pub scan_bad : (p : Pool) (s : ℕ) → s < slot_count p → row_stands p s ≡ false → (numbers_in_range p && (total_is_sum p && free_zeroed p)) ≡ false
unfolding numbers_in_range free_zeroed
scan_bad p s l e =
    none_both (all_from (in_ranges p) (slot_count p) 0) (total_is_sum p) (all_from (zeroed p) (slot_count p) 0)
    (λ h. clash (all_at (row_stands p) (slot_count p) 0 (parts p (slot_count p) ∙ h) s (omega arith) (omega arith)) e)

pub scan_done : (p : Pool) (sum : ℕ) → Scanned p (slot_count p) sum → (numbers_in_range p && (total_is_sum p && free_zeroed p)) ≡ eqb sum p.total
unfolding numbers_in_range free_zeroed total_is_sum weight_of
scan_done p sum h =
    middle (all_from (in_ranges p) (slot_count p) 0) (total_is_sum p) (all_from (zeroed p) (slot_count p) 0) (sym (parts p (slot_count p)) ∙ h.stand)
    ∙ flip p.total (sum_from (weight_at p) (λ i. true) (slot_count p) 0) ∙ ap (λ (n : ℕ). eqb n p.total) (sym h.summed)
