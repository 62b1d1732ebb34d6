-- How many numbers of a range have a property, and ranges of which only the numbers below n count. Assumes nothing.
use mathlib.Core.Path.{◌≡◌, refl, sym, ap, ap₂, ◌∙◌}
use mathlib.Core.Bool.{Bool, true, false, not, ◌&&◌, ◌||◌, or-false}
use mathlib.Core.Logic.{⊎_elim}
use mathlib.Core.List.{append-nil, ◌++◌}
use Prim.Native.Nat.{ℕ, zero, suc, ◌+◌, ◌-◌, ◌≤◌, ◌<◌}
use native.Mathlib.Nat.{zero-add, eq-or-lt_of_le}
use native.Mathlib.Omega.{arith}
use lib.Dec.{eqb, ltb}
use lib.ListN.{length}
use borrow.Author.Tests.{lt-ltb, le-ltb, eqb-true, eqb-false}
use Rattle.lists.specs.Below.{bit, any_from, count_from, list_from}
use Rattle.lists.proofs.Bools.{is_false, cases}
use Rattle.lists.proofs.Below.{list_ext, list_split, list_nil, at_none, any_split, count_list, count_ext, count_without}

-- f is g below n, and nothing past it
module _ (f g : ℕ → Bool) (n m : ℕ) (h : n ≤ m) (below : (i : ℕ) → f i ≡ (ltb i n && g i)) where
  pub list_below : list_from f m 0 ≡ list_from g n 0
  list_below =
      let e : m ≡ n + (m - n) = omega arith in
      ap (λ (k : ℕ). list_from f k 0) e
      ∙ list_split f n (m - n) 0
      ∙ ap₂ ◌++◌
      (list_ext f g n 0 (λ i _ l. below i ∙ ap (λ (b : Bool). b && g i) (lt-ltb i n (omega arith))))
      (list_nil f (m - n) (0 + n) (at_none f (m - n) (0 + n) (λ i l _. below i ∙ ap (λ (b : Bool). b && g i) (le-ltb i n (omega arith)))))
      ∙ append-nil (list_from g n 0)

  pub count_below : count_from f m 0 ≡ count_from g n 0
  count_below = count_list f m 0 ∙ ap length list_below ∙ sym (count_list g n 0)

-- ---- how many have it

bit_le : (b c : Bool) → (b ≡ true → c ≡ true) → bit b ≤ bit c
bit_le true c h = rw (h refl) (omega arith)
bit_le false c h = omega arith

-- no more have it than there are
pub count_le : (f : ℕ → Bool) (k i : ℕ) → count_from f k i ≤ k
unfolding count_from
count_le f zero i = omega arith
count_le f (suc k) i = omega (arith, count_le f k (suc i), bit_le (f i) true (λ _. refl))

-- those that have f are those that have g and those that have h
pub count_parts : (f g h : ℕ → Bool) (k i : ℕ) → ((j : ℕ) → bit (f j) ≡ bit (g j) + bit (h j))
    → count_from f k i ≡ count_from g k i + count_from h k i
unfolding count_from
count_parts f g h zero i e = omega arith
count_parts f g h (suc k) i e = omega (arith, e i, count_parts f g h k (suc i) e)

-- one number more
pub any_more : (f : ℕ → Bool) (k : ℕ) → any_from f (k + 1) 0 ≡ (any_from f k 0 || f k)
unfolding any_from
any_more f k = any_split f k 1 0 ∙ ap (λ (b : Bool). any_from f k 0 || b) (rw zero-add (or-false (f k)))

-- whatever has g in the range has f
abbrev pub Within : (ℕ → Bool) → (ℕ → Bool) → ℕ → ℕ → Type 0
Within g f k i = (j : ℕ) → i ≤ j → j < i + k → g j ≡ true → f j ≡ true

-- then at least as many have f as have g
pub count_within : (f g : ℕ → Bool) (k i : ℕ) → Within g f k i → count_from g k i ≤ count_from f k i
unfolding count_from
count_within f g zero i h = omega arith
count_within f g (suc k) i h =
    omega (arith, bit_le (g i) (f i) (h i (omega arith) (omega arith)), count_within f g k (suc i) (λ j a b. h j (omega arith) (omega arith)))

-- and more where some number has f alone
pub count_less : (f g : ℕ → Bool) (k i j : ℕ) → Within g f k i → i ≤ j → j < i + k → f j ≡ true → g j ≡ false
    → count_from g k i < count_from f k i
unfolding count_from
count_less f g zero i j h a b p q = absurd (omega arith)
count_less f g (suc k) i j h a b p q =
    let rest : Within g f k (suc i) = λ x c d. h x (omega arith) (omega arith) in
    ⊎_elim
    (λ (e : i ≡ j). omega (arith, count_within f g k (suc i) rest, ap bit (ap f e ∙ p), ap bit (ap g e ∙ q)))
    (λ (l : i < j).
    omega (arith, count_less f g k (suc i) j rest l (omega arith) p q, bit_le (g i) (f i) (h i (omega arith) (omega arith))))
    (eq-or-lt_of_le a)

-- all have it, or none has
pub count_all : (k i : ℕ) → count_from (λ j. true) k i ≡ k
unfolding count_from
count_all zero i = refl
count_all (suc k) i = omega (arith, count_all k (suc i))

pub count_none : (f : ℕ → Bool) (n : ℕ) → ((i : ℕ) → i < n → f i ≡ false) → count_from f n 0 ≡ 0
count_none f n h = count_list f n 0 ∙ ap length (list_nil f n 0 (at_none f n 0 (λ i _ l. h i (omega arith))))

pub count_zero : (f : ℕ → Bool) (n : ℕ) → count_from f n 0 ≤ 0 → (i : ℕ) → i < n → f i ≡ false
count_zero f n z i l =
    is_false (f i)
    (λ e. absurd (omega (arith, count_without f (λ j. f j && not (eqb j i)) n 0 i (omega arith) (omega arith) e (λ j _ _. refl))))

-- two properties that agree but at x
pub count_but : (f g : ℕ → Bool) (x k i : ℕ) → ((j : ℕ) → (j ≡ x → ⊥) → f j ≡ g j) → count_from f k i ≤ suc (count_from g k i)
unfolding count_from
count_but f g x zero i h = omega arith
count_but f g x (suc k) i h =
    cases (eqb i x)
    (λ e.
    let z : i ≡ x = eqb-true i x e in
    omega (arith, bit_le (f i) true (λ _. refl), count_ext f g k (suc i) (λ j l _. h j (λ y. omega arith))))
    (λ e. omega (arith, count_but f g x k (suc i) h, ap bit (h i (eqb-false i x e))))
