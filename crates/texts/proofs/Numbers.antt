-- Several things with commas between them, one by one as loops write them, a number with its sign, and how long all these are. Assumes nothing.
use mathlib.Core.Path.{◌≡◌, refl, sym, ap, ◌∙◌}
use mathlib.Core.Bool.{true, false}
use mathlib.Core.List.{List, [], ◌∷◌, ◌++◌, append-nil}
use Prim.Native.Nat.{ℕ, suc, ◌+◌, ◌-◌, ◌*◌, ◌≤◌, ◌<◌}
use native.Mathlib.Nat.{mul-suc}
use native.Mathlib.Numerals.{add-one}
use native.Mathlib.Omega.{arith}
use lib.Dec.{eqb, leb}
use lib.IntN.{ℤ, pos, negsuc}
use Rattle.std.specs.Prelude.{unsigned_abs}
use lib.ListN.{length, drop, get_or, length-append, drop_of_length-le}
use lib.Seq.{drop-cons}
use borrow.Author.Tests.{ne_eqb, le-leb, lt-leb}
use Rattle.lists.proofs.Bools.{cond_where}
use Rattle.lists.proofs.Numbers.{leb_same}
use Rattle.feefrac.proofs.Signed.{Le, Lt}
use Rattle.texts.specs.Writing.{decimal, signed, joined, commas, item}
use Rattle.texts.specs.Rooms.{Room, Wrote, Writes}
use Rattle.texts.proofs.Append.{Left, start, next, done}
use Rattle.texts.proofs.Digits.{decimal_length}

-- ---- what f prints of each, from the k-th on

unfoldable pub items : (ℕ → List ℕ) → ℕ → List ℕ → List ℕ
items f k [] = []
items f k (x ∷ xs) = item f k x ++ items f (suc k) xs

module _ (f : ℕ → List ℕ) where
  -- all but the first have a comma in front
  pub later_item : (k n : ℕ) → (k ≡ 0 → ⊥) → item f k n ≡ 44 ∷ f n
  unfolding item
  later_item k n h = rw (ne_eqb k 0 h)

  items_later : (k x : ℕ) (xs : List ℕ) → items f (suc k) (x ∷ xs) ≡ 44 ∷ joined f (x ∷ xs)
  unfolding items joined
  items_later k x [] = rw (later_item (suc k) x (omega arith)) (append-nil (44 ∷ f x))
  items_later k x (y ∷ ys) = rw (later_item (suc k) x (omega arith), items_later (suc k) y ys)

  pub joined_items : (xs : List ℕ) → joined f xs ≡ items f 0 xs
  unfolding joined items item
  joined_items [] = refl
  joined_items (x ∷ []) = sym (append-nil (f x))
  joined_items (x ∷ y ∷ ys) = ap (λ (l : List ℕ). f x ++ l) (sym (items_later 0 y ys))

  next_item : (k : ℕ) (xs : List ℕ) → k < length xs → items f k (drop k xs) ≡ item f k (get_or xs k 0) ++ items f (k + 1) (drop (k + 1) xs)
  unfolding items
  next_item k xs h = rw (drop-cons xs k 0 h, add-one)

-- ---- of them k are written

pub record ItemsLeft (f : ℕ → List ℕ) (xs : List ℕ) (k at from : ℕ) (new old : List ℕ) : Type 0 where
  pub passed : k ≤ length xs
  pub left : Left (items f k (drop k xs)) (joined f xs) at from new old

-- before the first
pub items_start : {f : ℕ → List ℕ} {xs : List ℕ} {k from : ℕ} {old : List ℕ} → k ≡ 0 → Room (joined f xs) from old
    → ItemsLeft f xs k from from old old
items_start {f} {xs} e r = rw e (record { passed = omega arith; left = rw (← joined_items f xs) (start r) })

-- the next was written, and there is none left
module _ {f : ℕ → List ℕ} {xs : List ℕ} {k at from : ℕ} {new old : List ℕ} (l : ItemsLeft f xs k at from new old) where
  pub item_wrote : k < length xs → {end : ℕ} {newer : List ℕ}
      → Writes (item f k (get_or xs k 0)) at new newer end → ItemsLeft f xs (k + 1) end from newer old
  item_wrote h w = record { passed = omega arith; left = next (item f k (get_or xs k 0)) _ (rw (next_item f k xs h) at l.left) w }

  pub items_done : length xs ≤ k → Wrote (joined f xs) from old new at
  unfolding items
  items_done h = done (rw (drop_of_length-le xs h) at l.left)

-- ---- of them k are measured, and leave `left` of `most` bytes

pub record Measured (f : ℕ → List ℕ) (xs : List ℕ) (most k left : ℕ) : Type 0 where
  pub passed : k ≤ length xs
  pub same : leb (length (joined f xs)) most ≡ leb (length (items f k (drop k xs))) left

pub measure_start : {f : ℕ → List ℕ} {xs : List ℕ} {most k : ℕ} → k ≡ 0 → Measured f xs most k most
measure_start {f} {xs} e = rw e (record { passed = omega arith; same = rw (joined_items f xs) })

module _ {f : ℕ → List ℕ} {xs : List ℕ} {most k left : ℕ} (m : Measured f xs most k left) where
  more : k < length xs → length (items f k (drop k xs)) ≡ length (item f k (get_or xs k 0)) + length (items f (k + 1) (drop (k + 1) xs))
  more h = rw (next_item f k xs h, length-append)

  pub too_many : k < length xs → left < length (item f k (get_or xs k 0)) → leb (length (joined f xs)) most ≡ false
  too_many h l = m.same ∙ lt-leb (length (items f k (drop k xs))) left (omega (arith, more h))

  pub measured : k < length xs → length (item f k (get_or xs k 0)) ≤ left → Measured f xs most (k + 1) (left - length (item f k (get_or xs k 0)))
  measured h l = record {
    passed = omega arith;
    same =
        m.same
        ∙ leb_same (length (items f k (drop k xs))) left (length (items f (k + 1) (drop (k + 1) xs))) (left - length (item f k (get_or xs k 0)))
        (λ p. omega (arith, more h)) (λ p. omega (arith, more h));
  }

  pub all_fit : length xs ≤ k → leb (length (joined f xs)) most ≡ true
  unfolding items
  all_fit h = m.same ∙ rw (drop_of_length-le xs h) (le-leb 0 left (omega arith))

-- ---- a number with its sign: from zero up, and below zero

pub signed_up : (z : ℤ) → Le (pos 0) z → signed z ≡ decimal (unsigned_abs z)
unfolding signed
signed_up (pos n) h = refl
signed_up (negsuc n) h = absurd (omega arith)

pub signed_down : (z : ℤ) → Lt z (pos 0) → signed z ≡ 45 ∷ decimal (unsigned_abs z)
unfolding signed
signed_down (pos n) h = absurd (omega arith)
signed_down (negsuc n) h = refl

-- ---- lengths: one number a piece

pub signed_length : (z : ℤ) → length (signed z) ≤ 21
unfolding signed
signed_length (pos n) = omega (arith, decimal_length n)
signed_length (negsuc n) = omega (arith, decimal_length (suc n))

-- each has at most b bytes
module _ (f : ℕ → List ℕ) (b : ℕ) (each : (n : ℕ) → length (f n) ≤ b) where
  pub item_length : (k n : ℕ) → length (item f k n) ≤ b + 1
  unfolding item
  item_length k n =
      cond_where (λ (l : List ℕ). length l ≤ b + 1) (eqb k 0) (λ _. omega (arith, each n)) (λ _. omega (arith, each n))

  pub joined_length : (xs : List ℕ) → length (joined f xs) ≤ (b + 1) * length xs
  unfolding joined
  joined_length [] = omega arith
  joined_length (x ∷ []) = omega (arith, each x, mul-suc (b + 1) 0)
  joined_length (x ∷ y ∷ xs) =
      omega (
        arith,
        length-append (f x) (44 ∷ joined f (y ∷ xs)),
        each x,
        joined_length (y ∷ xs),
        mul-suc (b + 1) (length (y ∷ xs)),
      )

pub commas_length : (xs : List ℕ) → length (commas xs) ≤ 21 * length xs
commas_length xs = joined_length decimal 20 decimal_length xs
