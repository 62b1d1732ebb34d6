-- Numbers, compared: in order or not, equal or not, and the tests of both. Assumes nothing.
use mathlib.Core.Path.{◌≡◌, sym}
use mathlib.Core.Logic.{◌⊎◌, inl, inr, ⊎_elim}
use mathlib.Core.Bool.{true}
use Prim.Native.Nat.{ℕ, zero, suc, ◌+◌, ◌≤◌, ◌<◌, zero-le, suc-le-suc}
use native.Mathlib.Omega.{arith}
use lib.Dec.{eqb, ltb, leb}
use borrow.Author.Tests.{lt-ltb, ltb-true, le-leb, leb-true, eq-eqb, eqb-true, eqb-false}
use Rattle.lists.proofs.Bools.{cases, true_together}

-- two numbers, in order or not
pub lt_or_ge : (a b : ℕ) → (a < b) ⊎ (b ≤ a)
lt_or_ge a zero = inr zero-le
lt_or_ge zero (suc b) = inl (suc-le-suc zero-le)
lt_or_ge (suc a) (suc b) = ⊎_elim (λ p. inl (suc-le-suc p)) (λ q. inr (suc-le-suc q)) (lt_or_ge a b)

-- what holds at i and at every other number holds at each
pub by_number : (P : ℕ → Type 0) (i : ℕ) → P i → ((j : ℕ) → (i ≡ j → ⊥) → P j) → (j : ℕ) → P j
by_number P i p q j = cases (eqb i j) (λ e. let z : i ≡ j = eqb-true i j e in rw z at p) (λ e. q j (eqb-false i j e))

-- two tests that say the same are equal
pub ltb_same : (a b c d : ℕ) → (a < b → c < d) → (c < d → a < b) → ltb a b ≡ ltb c d
ltb_same a b c d f g =
    true_together (ltb a b) (ltb c d) (λ e. lt-ltb c d (f (ltb-true a b e))) (λ e. lt-ltb a b (g (ltb-true c d e)))

pub leb_same : (a b c d : ℕ) → (a ≤ b → c ≤ d) → (c ≤ d → a ≤ b) → leb a b ≡ leb c d
leb_same a b c d f g =
    true_together (leb a b) (leb c d) (λ e. le-leb c d (f (leb-true a b e))) (λ e. le-leb a b (g (leb-true c d e)))

pub eqb_same : (a b c d : ℕ) → (a ≡ b → c ≡ d) → (c ≡ d → a ≡ b) → eqb a b ≡ eqb c d
eqb_same a b c d f g =
    true_together (eqb a b) (eqb c d) (λ e. eq-eqb c d (f (eqb-true a b e))) (λ e. eq-eqb a b (g (eqb-true c d e)))

-- two numbers may be compared either way
pub flip : (x y : ℕ) → eqb x y ≡ eqb y x
flip x y = eqb_same x y y x sym sym

-- below i + 1: i, and what is below i
pub below_here : (i : ℕ) → ltb i (i + 1) ≡ true
below_here i = lt-ltb i (i + 1) (omega arith)

pub below_else : (j i : ℕ) → (i ≡ j → ⊥) → ltb j (i + 1) ≡ ltb j i
below_else j i n = ltb_same j (i + 1) j i (λ l. omega arith) (λ l. omega arith)
