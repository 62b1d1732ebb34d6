-- An integer by its two parts, of which one is zero: signed sums and orders become facts of naturals, which `omega` proves.
-- No law of the parts needs a bound. Assumes nothing.
use mathlib.Core.Path.{◌≡◌, refl, sym, ap, ◌∙◌}
use mathlib.Core.Bool.{true, false}
use Prim.Native.Nat.{ℕ, zero, suc, ◌+◌, ◌*◌, ◌≤◌, ◌<◌}
use native.Mathlib.Nat.{le_of_lt, min-eq_left, min-eq_right, zero-mul, mul-le-mul}
use native.Mathlib.Omega.{arith}
use lib.Dec.{T, ltb, leb}
use lib.IntN.{ℤ, pos, negsuc, neg_ℤ, nat_abs, sub_ℕ, ◌+ℤ◌, ◌-ℤ◌, ◌*ℤ◌, -ℤ-+ℤ_cancel}
use lib.Signed.{lt_z, le_z, non_neg}
use mir.Syntax.{w64}
use mir.Val.{Fits, SFits, to_z, of_z}
use mir.Facts.{to_z-of_z, to_z_pos, Fits-nat_abs}
use borrow.Author.Tests.{lt-ltb, le-ltb, le-leb, lt-leb, ltb-true, ltb-false}
use Rattle.lists.proofs.Bools.{cases}
use Rattle.lists.proofs.Numbers.{leb_same, ltb_same}
use Rattle.feefrac.specs.Rate.{held_fee}

-- how far above zero, and how far below
abbrev pub up : ℤ → ℕ
up (pos n) = n
up (negsuc n) = 0

abbrev pub down : ℤ → ℕ
down (pos n) = 0
down (negsuc n) = suc n

-- ---- orders: the sums crosswise

abbrev pub Le : ℤ → ℤ → Type 0
Le x y = up x + down y ≤ up y + down x

abbrev pub Lt : ℤ → ℤ → Type 0
Lt x y = up x + down y < up y + down x

pub less_parts : (x y : ℤ) → lt_z x y ≡ ltb (up x + down y) (up y + down x)
less_parts (pos m) (pos n) = ltb_same m n (m + 0) (n + 0) (λ h. omega arith) (λ h. omega arith)
less_parts (pos m) (negsuc n) = sym (le-ltb (m + suc n) 0 (omega arith))
less_parts (negsuc m) (pos n) = sym (lt-ltb 0 (n + suc m) (omega arith))
less_parts (negsuc m) (negsuc n) = ltb_same n m (0 + suc n) (0 + suc m) (λ h. omega arith) (λ h. omega arith)

pub most_parts : (x y : ℤ) → le_z x y ≡ leb (up x + down y) (up y + down x)
most_parts (pos m) (pos n) = leb_same m n (m + 0) (n + 0) (λ h. omega arith) (λ h. omega arith)
most_parts (pos m) (negsuc n) = sym (lt-leb (m + suc n) 0 (omega arith))
most_parts (negsuc m) (pos n) = sym (le-leb 0 (n + suc m) (omega arith))
most_parts (negsuc m) (negsuc n) = leb_same n m (0 + suc n) (0 + suc m) (λ h. omega arith) (λ h. omega arith)

-- a signed local is kept as its bits: a number as code sees it again
abbrev pub Z : ℤ → ℤ
Z z = to_z w64 (of_z w64 z)

-- a test of two signed locals, as a fact of the parts
module _ {x y : ℤ} (hx : SFits w64 x) (hy : SFits w64 y) where
  pub less : lt_z (Z x) (Z y) ≡ true → Lt x y
  less e = ltb-true _ _ (sym (less_parts x y) ∙ (rw (to_z-of_z hx, to_z-of_z hy) at e))

  pub not_less : lt_z (Z x) (Z y) ≡ false → Le y x
  not_less e = ltb-false _ _ (sym (less_parts x y) ∙ (rw (to_z-of_z hx, to_z-of_z hy) at e))

-- ---- sums

-- z is x + y
pub record Sum (x y z : ℤ) : Type 0 where
  pub parts : up z + (down x + down y) ≡ down z + (up x + up y)

sub_parts : (m n : ℕ) → up (sub_ℕ m n) + n ≡ down (sub_ℕ m n) + m
sub_parts m n = cases (ltb m n) (λ e. rw e (omega (arith, ltb-true m n e))) (λ e. rw e (omega (arith, ltb-false m n e)))

pub sum : (x y : ℤ) → Sum x y (x +ℤ y)
sum (pos m) (pos n) = record { parts = omega arith }
sum (pos m) (negsuc n) = record { parts = omega (arith, sub_parts m (suc n)) }
sum (negsuc m) (pos n) = record { parts = omega (arith, sub_parts n (suc m)) }
sum (negsuc m) (negsuc n) = record { parts = omega arith }

-- a difference of locals and what was taken make the whole again
pub rest : (x : ℤ) {y : ℤ} → SFits w64 y → Sum (x -ℤ Z y) y x
rest x {y} h = rw (to_z-of_z h) (rw (-ℤ-+ℤ_cancel x y) at (sum (x -ℤ y) y))

pub up_neg : (z : ℤ) → up (neg_ℤ z) ≡ down z
up_neg (pos zero) = refl
up_neg (pos (suc n)) = refl
up_neg (negsuc n) = refl

pub down_neg : (z : ℤ) → down (neg_ℤ z) ≡ up z
down_neg (pos zero) = refl
down_neg (pos (suc n)) = refl
down_neg (negsuc n) = refl

-- ---- the range of an i64

abbrev pub top : ℤ
top = pos 9223372036854775807

abbrev pub bottom : ℤ
bottom = negsuc 9223372036854775807

pub zero_fits : SFits w64 (pos 0)
zero_fits = record { sfits = omega arith }

pub above_bottom : {z : ℤ} → SFits w64 z → Le bottom z
above_bottom {z = pos n} h = omega (arith, h.sfits)
above_bottom {z = negsuc n} h = omega (arith, h.sfits)

pub below_top : {z : ℤ} → SFits w64 z → Le z top
below_top {z = pos n} h = omega (arith, h.sfits)
below_top {z = negsuc n} h = omega (arith, h.sfits)

pub in_range_lem : (z : ℤ) → Le bottom z → Le z top → SFits w64 z
in_range_lem (pos n) l h = record { sfits = omega arith }
in_range_lem (negsuc n) l h = record { sfits = omega arith }

pub held_in : {z : ℤ} → SFits w64 z → held_fee z ≡ z
held_in {z = pos n} h = ap pos (min-eq_left (omega (arith, h.sfits)))
held_in {z = negsuc n} h = ap negsuc (min-eq_left (omega (arith, h.sfits)))

pub held_high : (z : ℤ) → Le top z → held_fee z ≡ top
held_high (pos n) h = ap pos (min-eq_right (omega arith))
held_high (negsuc n) h = absurd (omega arith)

pub held_low : (z : ℤ) → Le z bottom → held_fee z ≡ bottom
held_low (pos n) h = absurd (omega arith)
held_low (negsuc n) h = ap negsuc (min-eq_right (omega arith))

-- ---- the size of an integer

pub abs_up : (z : ℤ) → Le (pos 0) z → (nat_abs z ≡ up z) × (down z ≡ 0)
abs_up (pos n) h = (refl, refl)
abs_up (negsuc n) h = absurd (omega arith)

pub abs_down : (z : ℤ) → Le z (pos 0) → (nat_abs z ≡ down z) × (up z ≡ 0)
abs_down (pos n) h = (omega arith, omega arith)
abs_down (negsuc n) h = (refl, refl)

pub abs_within : (z : ℤ) (n : ℕ) → Le z (pos n) → Le (neg_ℤ (pos n)) z → nat_abs z ≤ n
abs_within (pos m) n h l = omega arith
abs_within (negsuc m) n h l = omega (arith, up_neg (pos n), down_neg (pos n))

-- what the cast of a number from zero up to a u64 asks
pub cast : {z : ℤ} → SFits w64 z → Le (pos 0) z → T (non_neg (Z z)) × Fits w64 (nat_abs (Z z))
cast {z = pos n} h l = rw (to_z-of_z h) (tt, Fits-nat_abs tt h)
cast {z = negsuc n} h l = absurd (omega arith)

-- the size of a negative number as code finds it, by way of below = -(z + 1), which fits where -z may not
module _ {z : ℤ} (hz : SFits w64 z) (negative : Lt z (pos 0)) where
  abbrev more : ℤ
  more = Z z +ℤ pos 1

  abbrev below : ℤ
  below = pos 0 -ℤ Z more

  more_sum : Sum z (pos 1) more
  more_sum = rw (to_z-of_z hz) (sum z (pos 1))

  pub more_fits : SFits w64 more
  more_fits = in_range_lem more (omega (arith, more_sum, above_bottom hz)) (omega (arith, more_sum))

  below_sum : Sum below more (pos 0)
  below_sum = rest (pos 0) more_fits

  below_up : Le (pos 0) below
  below_up = omega (arith, more_sum, below_sum)

  pub below_fits : SFits w64 below
  below_fits = in_range_lem below (omega (arith, below_up)) (omega (arith, more_sum, below_sum, above_bottom hz))

  pub below_cast : T (non_neg (Z below)) × Fits w64 (nat_abs (Z below))
  below_cast = cast below_fits below_up

  pub below_size : nat_abs (Z below) + 1 ≡ nat_abs z
  below_size = rw (to_z-of_z below_fits) (omega (arith, more_sum, below_sum, abs_up below below_up, abs_down z (le_of_lt negative)))

  pub below_more : Fits w64 (nat_abs (Z below) + 1)
  below_more = rw below_size (Fits-nat_abs tt hz)

-- ---- a product with a size

pub up_product : (z : ℤ) (k : ℕ) → up (z *ℤ pos k) ≡ up z * k
up_product (pos n) k = refl
up_product (negsuc n) k = up_neg (pos (suc n * k)) ∙ sym (zero-mul k)

pub down_product : (z : ℤ) (k : ℕ) → down (z *ℤ pos k) ≡ down z * k
down_product (pos n) k = sym (zero-mul k)
down_product (negsuc n) k = down_neg (pos (suc n * k))

up_abs : (z : ℤ) → up z ≤ nat_abs z
up_abs (pos n) = omega arith
up_abs (negsuc n) = omega arith

down_abs : (z : ℤ) → down z ≤ nat_abs z
down_abs (pos n) = omega arith
down_abs (negsuc n) = omega arith

-- a product that fits an i64, as the code makes it of locals
module _ (z : ℤ) (k : ℕ) (hz : nat_abs z ≤ 34359738368) (hk : k < 268435456) where
  fits_plain : SFits w64 (z *ℤ pos k)
  fits_plain =
      in_range_lem (z *ℤ pos k) (omega (arith, down_product z k, part (down z) (down_abs z))) (omega (arith, up_product z k, part (up z) (up_abs z)))
    where
      part : (n : ℕ) → n ≤ nat_abs z → n * k ≤ 9223372002495037440
      part n h = mul-le-mul {n₂ = 34359738368} {m₂ = 268435455} (omega arith) (omega arith)

  plain : Z z *ℤ to_z w64 k ≡ z *ℤ pos k
  plain =
      let f : SFits w64 z = in_range_lem z (omega (arith, down_abs z)) (omega (arith, up_abs z)) in
      rw (to_z-of_z f, to_z_pos w64 {n = k} (omega arith))

  pub product_fits : SFits w64 (Z z *ℤ to_z w64 k)
  product_fits = rw plain fits_plain

  pub product_read : Z (Z z *ℤ to_z w64 k) ≡ z *ℤ pos k
  product_read = rw plain (to_z-of_z fits_plain)
