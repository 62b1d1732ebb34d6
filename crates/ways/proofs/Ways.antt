-- Laws of specs/Ways.antt, for any relation: ways put together, and the computed ways, which are the inductive ones. Assumes nothing.
use mathlib.Core.Path.{◌≡◌}
use mathlib.Core.Bool.{Bool, true, ◌&&◌, or-true}
use mathlib.Core.Logic.{◌⊎◌, inl, inr, ⊎_elim}
use Prim.Native.Nat.{ℕ, zero, suc, ◌<◌}
use native.Mathlib.Nat.{eq-or-lt_of_le}
use native.Mathlib.Omega.{arith}
use Rattle.lists.proofs.Bools.{and_both, or_either}
use Rattle.ways.specs.Ways.{Way, step, further, reach, Bounded}

-- a way, and a way from where it ends
pub way_trans : {r : ℕ → ℕ → Bool} {i p a : ℕ} → Way r i p → Way r p a → Way r i a
way_trans (step e) v = further e v
way_trans (further e u) v = further e (way_trans u v)

-- a set that no step leaves is left by no way
pub way_stays : {r : ℕ → ℕ → Bool} (f : ℕ → Bool) → ((i a : ℕ) → f i ≡ true → r i a ≡ true → f a ≡ true)
    → {i a : ℕ} → Way r i a → f i ≡ true → f a ≡ true
way_stays f stays {i} {a} (step e) h = stays i a h e
way_stays f stays {i} {a} (further {p = p} e u) h = way_stays f stays u (stays i p h e)

-- ---- by way of the numbers below k

-- with one number more: as without it, or by way of it
pub reach_either : (r : ℕ → ℕ → Bool) (k i a : ℕ) → reach r (suc k) i a ≡ true
    → (reach r k i a ≡ true) ⊎ ((reach r k i k ≡ true) × (reach r k k a ≡ true))
unfolding reach
reach_either r k i a h =
    ⊎_elim
    (λ e. inl e)
    (λ e. inr (and_both (reach r k i k) (reach r k k a) e))
    (or_either (reach r k i a) (reach r k i k && reach r k k a) h)

reach_more : (r : ℕ → ℕ → Bool) (k i a : ℕ) → reach r k i a ≡ true → reach r (suc k) i a ≡ true
unfolding reach
reach_more r k i a h = rw h

reach_by : (r : ℕ → ℕ → Bool) (k i a : ℕ) → reach r k i k ≡ true → reach r k k a ≡ true → reach r (suc k) i a ≡ true
unfolding reach
reach_by r k i a p q = rw (p, q) (or-true (reach r k i a))

-- a step is a way by way of none
pub reach_step : (r : ℕ → ℕ → Bool) (k i a : ℕ) → r i a ≡ true → reach r k i a ≡ true
reach_step r zero i a h = unfold reach in h
reach_step r (suc k) i a h = reach_more r k i a (reach_step r k i a h)

-- what is reached from a number below k, one step away, is reached
reach_further : (r : ℕ → ℕ → Bool) (k i p a : ℕ) → r i p ≡ true → p < k → reach r k p a ≡ true → reach r k i a ≡ true
reach_further r zero i p a e l h = absurd (omega arith)
reach_further r (suc k) i p a e l h =
    ⊎_elim
    (λ (z : p ≡ k).
    reach_by r k i a (reach_step r k i k (rw z at e)) (⊎_elim (λ x. x) (λ x. x.1) (reach_either r k k a (rw z at h))))
    (λ (m : p < k).
    ⊎_elim
    (λ x. reach_more r k i a (reach_further r k i p a e m x))
    (λ x. reach_by r k i a (reach_further r k i p k e m x.0) x.1)
    (reach_either r k p a h))
    (eq-or-lt_of_le (omega arith))

-- ---- the computed ways are the inductive ones

pub reach_is : (r : ℕ → ℕ → Bool) (k i a : ℕ) → reach r k i a ≡ true → Way r i a
unfolding reach
reach_is r zero i a h = step h
reach_is r (suc k) i a h =
    ⊎_elim
    (reach_is r k i a)
    (λ e. way_trans (reach_is r k i k e.0) (reach_is r k k a e.1))
    (reach_either r k i a h)

module _ {r : ℕ → ℕ → Bool} {n : ℕ} (b : Bounded r n) where
  pub is_reach : {i a : ℕ} → Way r i a → reach r n i a ≡ true
  is_reach {i} {a} (step e) = reach_step r n i a e
  is_reach {i} {a} (further {p = p} e u) = reach_further r n i p a e (b.to i p e) (is_reach u)

  -- a way goes from a number below n to one
  pub way_from : {i a : ℕ} → Way r i a → i < n
  way_from {i} {a} (step e) = b.from i a e
  way_from {i} {a} (further {p = p} e u) = b.from i p e

  pub way_to : {i a : ℕ} → Way r i a → a < n
  way_to {i} {a} (step e) = b.to i a e
  way_to (further e u) = way_to u
