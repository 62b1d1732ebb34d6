-- A product of two words, by digits of 32 bits, and the order of two such products. Assumes nothing.
use Rattle.std.proofs.Common.{◌≡◌, ℕ, ◌+◌, ◌*◌, ◌/◌, ◌%◌, ◌<◌, ◌≤◌, ◌&&◌, nat_eq, sym, ap, ◌∙◌, ⊎_elim, mul_comm, add-mul, mul-le-mul, div-add-mod', mul_right_comm, arith}
use Rattle.std.proofs.lemmas.Bool.Decides.{nat_tests}
use Rattle.std.specs.Ordering.{ordering_then, nat_cmp}
use Rattle.lists.proofs.Numbers.{lt_or_ge}
use Rattle.wide.specs.declared.Wide.{Wide}
use Rattle.wide.specs.Words.{value, Carry}

-- ---- a carry is what a wrapped sum lost

module _ (s a r : ℕ) (k : Carry s a r) where
  pub carry_small : r ≤ 1
  carry_small = ⊎_elim (λ l. omega (arith, k.0 l)) (λ l. omega (arith, k.1 l)) (lt_or_ge s a)

  pub carried : (b : ℕ) → a < 18446744073709551616 → b < 18446744073709551616 → s ≡ (a + b) % 18446744073709551616
      → 18446744073709551616 * r + s ≡ a + b
  carried b ha hb e = ⊎_elim (λ l. omega (arith, k.0 l)) (λ l. omega (arith, k.1 l)) (lt_or_ge s a)

-- ---- the digits of a product

pub digit_product : {a b : ℕ} → a < 4294967296 → b < 4294967296 → a * b ≤ 18446744065119617025
digit_product h k = mul-le-mul {n₂ = 4294967295} {m₂ = 4294967295} (omega arith) (omega arith)

split : (x y : ℕ) → x * y ≡ 4294967296 * (x / 4294967296 * y) + x % 4294967296 * y
split x y =
    let q : ℕ = x / 4294967296 in
    let r : ℕ = x % 4294967296 in
    ap (λ (n : ℕ). n * y) (sym (div-add-mod' x 4294967296))
    ∙ add-mul (q * 4294967296) r y
    ∙ ap (λ (n : ℕ). n + r * y) (mul_right_comm q 4294967296 y ∙ mul_comm (q * y) 4294967296)

-- a product as the sum of its digits' products, each at its place
pub by_digits : (x y : ℕ) → x * y
    ≡ 18446744073709551616 * (x / 4294967296 * (y / 4294967296)) + 4294967296 * (x / 4294967296 * (y % 4294967296))
    + 4294967296 * (x % 4294967296 * (y / 4294967296)) + x % 4294967296 * (y % 4294967296)
by_digits x y = omega (arith, split x y, right (x / 4294967296), right (x % 4294967296))
  where
    right : (n : ℕ) → n * y ≡ 4294967296 * (n * (y / 4294967296)) + n * (y % 4294967296)
    right n = rw (mul_comm n y, mul_comm n (y / 4294967296), mul_comm n (y % 4294967296)) (split y n)

-- ---- the order of two numbers is that of the high words, then of the low ones; they are one number where both words are the same

module _ (a b : Wide) (ha : a.lo < 18446744073709551616) (hb : b.lo < 18446744073709551616) where
  pub words_order : ordering_then (nat_cmp a.hi b.hi) (nat_cmp a.lo b.lo) ≡ nat_cmp (value a) (value b)
  words_order = grind (arith, nat_tests)

pub words_zero : (a : Wide) → (nat_eq a.hi 0 && nat_eq a.lo 0) ≡ nat_eq (value a) 0
words_zero a = grind (arith, nat_tests)
