-- What `order_lengths` leaves, and where the parts of a cut list start.
-- Assumes nothing.
use Prim.Native.Nat.{ℕ, zero, suc, ◌+◌, ◌≤◌, ◌<◌}
use native.Mathlib.Nat.{not-suc-le-zero, le_of_suc-le-suc}
use native.Mathlib.Omega.{arith}
use mathlib.Core.Path.{◌≡◌, refl, ap, ap₂, ◌∙◌}
use mathlib.Core.Bool.{Bool, true, false, ◌&&◌, and-false}
use mathlib.Core.List.{List, [], ◌∷◌, ◌++◌, map}
use lib.Dec.{leb}
use lib.ListN.{length, take, drop, get_or}
use lib.Seq.{drop-drop}
use lib.IntN.{ℤ}
use borrow.Author.Tests.{lt-leb, le-leb}
use Rattle.feefrac.proofs.Exact.{sum_of}
use Rattle.txset.specs.Sets.{positions}
use Rattle.chunking.specs.Orders.{cut, chunk_at, order_lengths, cuts, lengths_written, lengths_filled}

-- ---- order_lengths

module _ (order room : List ℕ) where
  pub cuts_all : length order ≤ positions → length order ≤ length room → cuts order room ≡ true
  unfolding cuts
  cuts_all x y = ap₂ ◌&&◌ (le-leb (length order) positions x) (le-leb (length order) (length room) y)

  pub too_long : positions < length order → cuts order room ≡ false
  unfolding cuts
  too_long l = ap (λ (b : Bool). b && leb (length order) (length room)) (lt-leb (length order) positions l)

  pub cramped : length room < length order → cuts order room ≡ false
  unfolding cuts
  cramped l = ap (λ (b : Bool). leb (length order) positions && b) (lt-leb (length order) (length room) l) ∙ and-false (leb (length order) positions)

-- the i-th of a mapped list
pub at_map : {A : Type 0} (f : ℕ → A) (l : List ℕ) (i : ℕ) (d : A) → i < length l → get_or (map f l) i d ≡ f (get_or l i 0)
at_map f [] i d h = absurd (not-suc-le-zero h)
at_map f (x ∷ l) zero d h = refl
at_map f (x ∷ l) (suc i) d h = at_map f l i d (le_of_suc-le-suc h)

module _ (fs : List ℤ) (ss order room : List ℕ) where
  -- of an order that fits all is written
  pub lengths_all : cuts order room ≡ true → {new : List ℕ} {r : ℕ} → r ≡ length (order_lengths fs ss order)
      → new ≡ order_lengths fs ss order ++ drop r room → (r ≡ lengths_written fs ss order room) × (new ≡ lengths_filled fs ss order room)
  unfolding lengths_written lengths_filled
  lengths_all e count is = (rw e count, rw e (rw count at is))

  -- an order that does not fit is left
  pub lengths_left : cuts order room ≡ false → (0 ≡ lengths_written fs ss order room) × (room ≡ lengths_filled fs ss order room)
  unfolding lengths_written lengths_filled
  lengths_left e = (rw e, rw e)

  -- of one that fits all lengths are written
  pub all_lengths : (new : List ℕ) (r : ℕ) → length order ≤ positions → length order ≤ length room → r ≡ lengths_written fs ss order room
      → new ≡ lengths_filled fs ss order room → (r ≡ length (order_lengths fs ss order)) × (new ≡ order_lengths fs ss order ++ drop r room)
  unfolding lengths_written lengths_filled
  all_lengths new r x y p q =
      let f = cuts_all order room x y in
      let count : r ≡ length (order_lengths fs ss order) = rw f at p in
      (count, q ∙ rw (f, ← count))

-- ---- the parts of a cut list

-- where the k-th part of a cut starts, and how long it is
pub cut_at : (ls xs : List ℕ) (k : ℕ) → k < length ls → chunk_at (cut ls xs) k ≡ take (get_or ls k 0) (drop (sum_of (take k ls)) xs)
unfolding cut sum_of
cut_at [] xs k h = absurd (not-suc-le-zero h)
cut_at (l ∷ ls) xs zero h = refl
cut_at (l ∷ ls) xs (suc k) h =
    cut_at ls (drop l xs) k (le_of_suc-le-suc h) ∙ ap (take (get_or ls k 0)) (drop-drop (sum_of (take k ls)) l xs)

pub length_cut : (ls xs : List ℕ) → length (cut ls xs) ≡ length ls
unfolding cut
length_cut [] xs = refl
length_cut (l ∷ ls) xs = ap suc (length_cut ls (drop l xs))

-- the next part starts where this one ends
pub sum_next : (ls : List ℕ) (k : ℕ) → k < length ls → sum_of (take (suc k) ls) ≡ sum_of (take k ls) + get_or ls k 0
unfolding sum_of
sum_next [] k h = absurd (not-suc-le-zero h)
sum_next (l ∷ ls) zero h = omega arith
sum_next (l ∷ ls) (suc k) h = omega (arith, sum_next ls k (le_of_suc-le-suc h))

pub sum_take : (ls : List ℕ) (k : ℕ) → sum_of (take k ls) ≤ sum_of ls
unfolding sum_of
sum_take [] zero = omega arith
sum_take [] (suc k) = omega arith
sum_take (l ∷ ls) zero = omega arith
sum_take (l ∷ ls) (suc k) = omega (arith, sum_take ls k)
