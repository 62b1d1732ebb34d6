-- `higher` as an order of feerates, for callers. It is strict; it chains where a size is above zero, since feerates of size zero
-- stand beside each other whatever their fees: 1/0 is higher than 0/1 and that than -1/0, but 1/0 is not higher than -1/0. Assumes nothing.
use mathlib.Core.Path.{◌≡◌, sym, ap, ◌∙◌}
use mathlib.Core.Bool.{true, false}
use Prim.Native.Nat.{ℕ, ◌+◌, ◌*◌, ◌≤◌, ◌<◌}
use native.Mathlib.Nat.{add-mul, mul-add, mul_assoc, mul_comm, mul_right_comm}
use native.Mathlib.Nat.{le_of_lt, mul-le-mul_right, mul-lt-mul_of_pos_right, lt_of_mul-lt-mul_left, le_of_mul-le-mul_left}
use native.Mathlib.Omega.{arith}
use borrow.Author.Tests.{lt-ltb, le-ltb, ltb-true, ltb-false}
use Rattle.feefrac.specs.Rate.{higher}
use Rattle.feefrac.specs.declared.FeeFrac.{FeeFrac}
use Rattle.feefrac.proofs.Signed.{up, down}
use Rattle.feefrac.proofs.Order.{mine, higher_parts}

-- a test of two feerates as an order of the two sides
module _ (a b : FeeFrac) where
  pub above : higher a b ≡ true → mine b a < mine a b
  above e = ltb-true _ _ (sym (higher_parts a b) ∙ e)

  pub not_above : higher a b ≡ false → mine a b ≤ mine b a
  not_above e = ltb-false _ _ (sym (higher_parts a b) ∙ e)

  pub is_above_lem : mine b a < mine a b → higher a b ≡ true
  is_above_lem h = higher_parts a b ∙ lt-ltb _ _ h

  pub is_not_above : mine a b ≤ mine b a → higher a b ≡ false
  is_not_above h = higher_parts a b ∙ le-ltb _ _ h

-- no feerate is higher than itself
pub higher_self : (a : FeeFrac) → higher a a ≡ false
higher_self a = is_not_above a a (omega arith)

-- of two feerates one at most is higher
pub higher_one : (a b : FeeFrac) → higher a b ≡ true → higher b a ≡ false
higher_one a b e = is_not_above b a (le_of_lt (above a b e))

weighed : (p q m w s t u : ℕ) → (p * s + m * t) * u + (w * t + q * u) * s ≡ p * s * u + q * s * u + t * (w * s + m * u)
weighed p q m w s t u =
    omega (arith, add-mul (p * s) (m * t) u, add-mul (w * t) (q * u) s, mul-add t (w * s) (m * u), out m u, out w s, mul_right_comm q u s)
  where
    out : (x y : ℕ) → x * t * y ≡ t * (x * y)
    out x y = ap (λ (n : ℕ). n * y) (mul_comm x t) ∙ mul_assoc t x y

module _ (a b c : FeeFrac) where
  -- the three compares of three feerates, each weighed by the size that it leaves out
  balance : mine b a * c.size + mine c b * a.size + b.size * mine a c ≡ mine a b * c.size + mine b c * a.size + b.size * mine c a
  balance =
      let p = up b.fee in
      let q = down b.fee in
      omega (
        arith,
        weighed p q (down a.fee) (up c.fee) a.size b.size c.size,
        weighed p q (down c.fee) (up a.fee) c.size b.size a.size,
        mul_right_comm p a.size c.size,
        mul_right_comm q a.size c.size,
      )

  -- chains, by which of the three sizes has to be above zero
  pub above_least : higher a b ≡ true → higher c b ≡ false → 0 < c.size → higher a c ≡ true
  above_least e f h =
      is_above_lem a c
      (lt_of_mul-lt-mul_left b.size
      (omega (arith, balance, mul-lt-mul_of_pos_right (above a b e) h, mul-le-mul_right a.size (not_above c b f))))

  pub least_above : higher b a ≡ false → higher b c ≡ true → 0 < a.size → higher a c ≡ true
  least_above e f h =
      is_above_lem a c
      (lt_of_mul-lt-mul_left b.size
      (omega (arith, balance, mul-le-mul_right c.size (not_above b a e), mul-lt-mul_of_pos_right (above b c f) h)))

  pub least_least : higher b a ≡ false → higher c b ≡ false → 0 < b.size → higher c a ≡ false
  least_least e f h =
      is_not_above c a
      (le_of_mul-le-mul_left
      (omega (arith, balance, mul-le-mul_right c.size (not_above b a e), mul-le-mul_right a.size (not_above c b f))) h)
