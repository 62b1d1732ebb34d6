-- What pins the virtual size: it is the least number of which four times is not below the weight. Assumes nothing.
use Prim.Native.Nat.{ℕ, ◌-◌, ◌*◌, ◌^◌, ◌≤◌, ◌<◌}
use native.Mathlib.Omega.{arith}
use mathlib.Core.Path.{◌≡◌, refl}
use Rattle.weights.specs.Weights.{virtual_size, most}

-- "weight / 4, rounded up"
pub virtual_covers : (w : ℕ) → w ≤ 4 * virtual_size w
unfolding virtual_size
virtual_covers w = omega arith

pub virtual_least : (w : ℕ) → (w ≡ 0 → ⊥) → 4 * (virtual_size w - 1) < w
unfolding virtual_size
virtual_least w n = omega arith

-- the largest weight that a u64 holds
pub virtual_most : virtual_size most ≡ 2 ^ 62
unfolding virtual_size
virtual_most = refl
