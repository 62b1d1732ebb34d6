-- Ways along any relation of numbers below a bound: ancestors along parents (module 3), chains of parents and clusters in a pool (module 8).
-- Assumes nothing.
use Rattle.std.specs.Prelude.{ℕ, zero, suc, ◌<◌, ◌≡◌, Bool, true, ◌&&◌, ◌||◌}
use Rattle.lists.specs.Below.{any_from}

-- a way from i to a: one step, or one step and a way from there. Said without a procedure
pub data Way (r : ℕ → ℕ → Bool) : ℕ → ℕ → Type 0 where
  step : {i a : ℕ} → r i a ≡ true → Way r i a
  further : {i p a : ℕ} → r i p ≡ true → Way r p a → Way r i a

-- whether there is a way from i to a that goes through numbers below k alone: with one number more, also by way of that number
unfoldable pub reach : (ℕ → ℕ → Bool) → ℕ → ℕ → ℕ → Bool
reach r zero i a = r i a
reach r (suc k) i a = reach r k i a || (reach r k i k && reach r k k a)

-- whether some number below n has a way to itself
unfoldable pub is_cyclic : (ℕ → ℕ → Bool) → ℕ → Bool
is_cyclic r n = any_from (λ i. reach r n i i) n 0

-- the relation holds between numbers below n alone: then `reach r n` is `Way r`
pub record Bounded (r : ℕ → ℕ → Bool) (n : ℕ) : Type 0 where
  pub from : (i a : ℕ) → r i a ≡ true → i < n
  pub to : (i a : ℕ) → r i a ≡ true → a < n
