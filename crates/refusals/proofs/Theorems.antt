-- What refusal 5, "a given order is not each position once", means, for readers of specs/Refusals.antt: a list passes `is_order n` exactly
-- where it has n entries and every position below n is among them. Assumes nothing.
use mathlib.Core.Path.{◌≡◌, refl, ap₂}
use mathlib.Core.Bool.{Bool, true, not, ◌&&◌}
use mathlib.Core.Logic.{⊎_elim}
use mathlib.Core.List.{List, [], ◌∷◌}
use Prim.Native.Nat.{ℕ, ◌+◌, ◌≤◌, ◌<◌}
use native.Mathlib.Omega.{arith}
use lib.Dec.{eqb, ltb}
use lib.ListN.{length}
use borrow.Author.Tests.{lt-ltb, ltb-true, eq-eqb}
use Rattle.lists.specs.Lists.{any_of, all_of, elem, distinct}
use Rattle.lists.proofs.Bools.{clash, and_left, and_right, and_both, cases}
use Rattle.lists.proofs.Numbers.{lt_or_ge}
use Rattle.lists.proofs.Lists.{elem_head, elem_tail, in_cons}
use Rattle.lists.proofs.Once.{all_there, missing, missing_again, missing_cons, missing_least, none_missing, once_missing}
use Rattle.refusals.specs.Refusals.{is_order}
use Rattle.refusals.proofs.Orders.{order_length}

-- ---- an order has every position

all_below : (n : ℕ) (l : List ℕ) → all_of (λ p. ltb p n) l ≡ true → (i : ℕ) → elem i l ≡ true → i < n
unfolding all_of elem any_of
all_below n [] b i e = clash e refl
all_below n (x ∷ xs) b i e =
    let p = and_both (ltb x n) (all_of (λ p. ltb p n) xs) b in
    ⊎_elim (λ z. omega (arith, ltb-true x n p.0)) (all_below n xs p.1 i) (in_cons i x xs e)

module _ (n : ℕ) (l : List ℕ) (h : is_order n l ≡ true) where
  each_below : all_of (λ p. ltb p n) l ≡ true
  unfolding is_order
  each_below = and_left (all_of (λ p. ltb p n) l) (distinct l) (and_right (eqb (length l) n) (all_of (λ p. ltb p n) l && distinct l) h)

  -- no entry of an order comes twice
  pub order_once : distinct l ≡ true
  unfolding is_order
  order_once = and_right (all_of (λ p. ltb p n) l) (distinct l) (and_right (eqb (length l) n) (all_of (λ p. ltb p n) l && distinct l) h)

  -- each entry of an order is a position below n
  pub order_below : (i : ℕ) → elem i l ≡ true → i < n
  order_below = all_below n l each_below

  -- and every position below n is an entry: n entries below n, none twice, leave none out
  pub order_every : (i : ℕ) → i < n → elem i l ≡ true
  order_every =
      none_missing n l (omega (arith, once_missing n l (record { below = order_below; once = order_once }), order_length n l h))

-- ---- a list that has every position is an order

-- n entries at most, and of the numbers below n the rest missing: each entry is below n, and none comes twice
tight : (n : ℕ) (l : List ℕ) → length l + missing n l ≤ n → (all_of (λ p. ltb p n) l ≡ true) × (distinct l ≡ true)
unfolding all_of distinct
tight n [] h = (refl, refl)
tight n (x ∷ xs) h =
    ⊎_elim
    (λ l. cases (elem x xs) (λ e. slack (λ _. e)) (λ e.
    let t = tight n xs (omega (arith, missing_cons n xs x l e)) in
    (ap₂ ◌&&◌ (lt-ltb x n l) t.0, ap₂ (λ (a b : Bool). not a && b) e t.1)))
    (λ l. slack (λ m. absurd (omega arith)))
    (lt_or_ge x n)
  where
    slack : (x < n → elem x xs ≡ true) → (all_of (λ p. ltb p n) (x ∷ xs) ≡ true) × (distinct (x ∷ xs) ≡ true)
    slack e = absurd (omega (arith, missing_again n xs x e, missing_least n xs))

-- a list of n entries that has every position below n is taken for an order: nothing else is asked of it
pub every_order : (n : ℕ) (l : List ℕ) → length l ≡ n → ((i : ℕ) → i < n → elem i l ≡ true) → is_order n l ≡ true
unfolding is_order
every_order n l e h =
    let t = tight n l (omega (arith, all_there n l h)) in
    ap₂ ◌&&◌ (eq-eqb (length l) n e) (ap₂ ◌&&◌ t.0 t.1)

-- so is a list of n entries below n, none of them twice, as the definition says
pub once_order : (n : ℕ) (l : List ℕ) → length l ≡ n → ((i : ℕ) → elem i l ≡ true → i < n) → distinct l ≡ true → is_order n l ≡ true
unfolding is_order all_of
once_order n l e b d = ap₂ ◌&&◌ (eq-eqb (length l) n e) (ap₂ ◌&&◌ (go l b) d)
  where
    go : (l : List ℕ) → ((i : ℕ) → elem i l ≡ true → i < n) → all_of (λ p. ltb p n) l ≡ true
    go [] b = refl
    go (x ∷ xs) b =
        ap₂ ◌&&◌ (lt-ltb x n (b x (elem_head x xs))) (go xs (λ i m. b i (elem_tail i x xs m)))
