-- The sum of the weights of a set (`sum_from` of pool_table), for any weights and any set. Assumes nothing.
use mathlib.Core.Path.{◌≡◌, refl, sym, ap, ap₂, ◌∙◌}
use mathlib.Core.Bool.{Bool, true, false, cond, not, ◌&&◌, and-true, and-false}
use mathlib.Core.Logic.{⊎_elim}
use Prim.Native.Nat.{ℕ, zero, suc, ◌+◌, ◌≤◌, ◌<◌}
use native.Mathlib.Nat.{eq-or-lt_of_le}
use native.Mathlib.Omega.{arith}
use lib.Dec.{eqb}
use borrow.Author.Tests.{eq-eqb, ne_eqb}
use Rattle.lists.proofs.Below.{Agree}
use Rattle.lists.proofs.Ranges.{Within}
use Rattle.pool_table.specs.Links.{sum_from}

-- sets that agree weigh the same
pub sum_ext : (w : ℕ → ℕ) (f g : ℕ → Bool) (k i : ℕ) → Agree f g k i → sum_from w f k i ≡ sum_from w g k i
unfolding sum_from
sum_ext w f g zero i h = refl
sum_ext w f g (suc k) i h =
    ap₂ (λ (b : Bool) (n : ℕ). cond b (w i) 0 + n) (h i (omega arith) (omega arith))
    (sum_ext w f g k (suc i) (λ j a b. h j (omega arith) (omega arith)))

-- the empty set weighs nothing
pub sum_none : (w : ℕ → ℕ) (f : ℕ → Bool) (k i : ℕ) → ((j : ℕ) → f j ≡ false) → sum_from w f k i ≡ 0
unfolding sum_from
sum_none w f zero i h = refl
sum_none w f (suc k) i h = omega (arith, ap (λ (b : Bool). cond b (w i) 0) (h i), sum_none w f k (suc i) h)

cond_le : (b c : Bool) (m : ℕ) → (b ≡ true → c ≡ true) → cond b m 0 ≤ cond c m 0
cond_le true c m h = rw (h refl) (omega arith)
cond_le false c m h = omega arith

-- a set within another weighs no more
pub sum_within : (w : ℕ → ℕ) (f g : ℕ → Bool) (k i : ℕ) → Within g f k i → sum_from w g k i ≤ sum_from w f k i
unfolding sum_from
sum_within w f g zero i h = omega arith
sum_within w f g (suc k) i h =
    omega (arith, cond_le (g i) (f i) (w i) (h i (omega arith) (omega arith)), sum_within w f g k (suc i) (λ j a b. h j (omega arith) (omega arith)))

-- without p it weighs so much less
pub sum_without : (w : ℕ → ℕ) (f g : ℕ → Bool) (k i p : ℕ) → i ≤ p → p < i + k → f p ≡ true
    → ((j : ℕ) → i ≤ j → j < i + k → g j ≡ (f j && not (eqb j p))) → sum_from w f k i ≡ w p + sum_from w g k i
unfolding sum_from
sum_without w f g zero i p a b h e = absurd (omega arith)
sum_without w f g (suc k) i p a b h e =
    ⊎_elim
    (λ (z : i ≡ p).
    let here : f i ≡ true = ap f z ∙ h in
    let gone : g i ≡ false = e i (omega arith) (omega arith) ∙ ap (λ (c : Bool). f i && not c) (eq-eqb i p z) ∙ and-false (f i) in
    let rest : sum_from w f k (suc i) ≡ sum_from w g k (suc i) =
    sum_ext w f g k (suc i)
    (λ j c d. sym (e j (omega arith) (omega arith) ∙ ap (λ (t : Bool). f j && not t) (ne_eqb j p (λ q. omega arith)) ∙ and-true (f j))) in
    omega (arith, ap (λ (t : Bool). cond t (w i) 0) here, ap (λ (t : Bool). cond t (w i) 0) gone, ap w z))
    (λ (l : i < p).
    let same : g i ≡ f i = e i (omega arith) (omega arith) ∙ ap (λ (t : Bool). f i && not t) (ne_eqb i p (λ q. omega arith)) ∙ and-true (f i) in
    let rest : sum_from w f k (suc i) ≡ w p + sum_from w g k (suc i) =
    sum_without w f g k (suc i) p l (omega arith) h (λ j c d. e j (omega arith) (omega arith)) in
    omega (arith, ap (λ (t : Bool). cond t (w i) 0) same))
    (eq-or-lt_of_le a)
