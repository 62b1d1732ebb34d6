-- The order of two sizes and of two feerates: the order of feerates is that of two sums of products, whatever the signs. Assumes nothing.
use mathlib.Core.Path.{◌≡◌, refl, sym, ◌∙◌}
use mathlib.Core.Bool.{Bool, true, false, cond}
use Prim.Native.Nat.{ℕ, ◌+◌, ◌*◌, ◌≤◌, ◌<◌}
use native.Mathlib.Nat.{zero-mul}
use native.Mathlib.Omega.{arith}
use lib.Dec.{ltb}
use lib.IntN.{ℤ, pos, negsuc, nat_abs, ◌*ℤ◌}
use lib.Signed.{lt_z}
use mir.Syntax.{w64}
use mir.Val.{SFits, to_z}
use borrow.Author.Tests.{lt-ltb, le-ltb}
use Rattle.std.proofs.lemmas.Bool.Decides.{nat_tests}
use Rattle.std.specs.Ordering.{nat_cmp}
use Rattle.feefrac.specs.Rate.{higher, rate_order, size_order, is_greater}
use Rattle.feefrac.specs.Narrow.{Narrow}
use Rattle.feefrac.specs.declared.FeeFrac.{FeeFrac}
use Rattle.std.specs.declared.cmp.Ordering.TheVariants.{Less, Equal, Greater}
use Rattle.feefrac.proofs.Signed.{up, down, Le, Lt, Z, less_parts, up_product, down_product, product_fits, product_read}

-- ---- sizes

module _ {m n : ℕ} where
  pub size_above : n < m → size_order m n ≡ Greater
  unfolding size_order
  size_above h = rw (lt-ltb n m h)

  pub size_below : m < n → size_order m n ≡ Less
  unfolding size_order
  size_below h = rw (le-ltb n m (omega arith), lt-ltb m n h)

  pub size_same : m ≤ n → n ≤ m → size_order m n ≡ Equal
  unfolding size_order
  size_same h k = rw (le-ltb n m h, le-ltb m n k)

-- as std's `cmp` says it
pub size_cmp : (m n : ℕ) → nat_cmp m n ≡ size_order m n
unfolding size_order
size_cmp m n = grind (arith, nat_tests)

-- ---- feerates

-- a's side in the compare with b: a's fee where it is above zero, and b's where it is below, each by the other's size
abbrev pub mine : FeeFrac → FeeFrac → ℕ
mine a b = up a.fee * b.size + down b.fee * a.size

pub higher_parts : (a b : FeeFrac) → higher a b ≡ ltb (mine b a) (mine a b)
unfolding higher
higher_parts a b =
    less_parts (b.fee *ℤ pos a.size) (a.fee *ℤ pos b.size)
    ∙ rw (up_product b.fee a.size, down_product b.fee a.size, up_product a.fee b.size, down_product a.fee b.size)

pub order_parts : (a b : FeeFrac) → rate_order a b ≡ size_order (mine a b) (mine b a)
unfolding rate_order size_order
order_parts a b = rw (higher_parts a b, higher_parts b a)

module _ (a b : FeeFrac) where
  pub rate_above : higher a b ≡ true → rate_order a b ≡ Greater
  unfolding rate_order
  rate_above h = rw h

  pub rate_below : higher a b ≡ false → higher b a ≡ true → rate_order a b ≡ Less
  unfolding rate_order
  rate_below h k = rw (h, k)

  pub rate_same : higher a b ≡ false → higher b a ≡ false → rate_order a b ≡ Equal
  unfolding rate_order
  rate_same h k = rw (h, k)

-- a feerate is higher exactly where it ranks above by feerate
pub higher_greater : (a b : FeeFrac) → higher a b ≡ is_greater (rate_order a b)
unfolding rate_order
higher_greater a b = picked (higher a b) (higher b a)
  where
    picked : (s t : Bool) → s ≡ is_greater (cond s Greater (cond t Less Equal))
    picked true t = refl
    picked false true = refl
    picked false false = refl

-- ---- feerates whose products fit one word: the products as the code makes them of locals

module _ {a b : FeeFrac} (ha : Narrow a) (hb : Narrow b) where
  pub narrow_fits : SFits w64 (Z a.fee *ℤ to_z w64 b.size)
  narrow_fits = product_fits a.fee b.size ha.fee hb.size

  pub narrow_higher : higher a b ≡ lt_z (Z (Z b.fee *ℤ to_z w64 a.size)) (Z (Z a.fee *ℤ to_z w64 b.size))
  unfolding higher
  narrow_higher = rw (product_read b.fee a.size hb.fee ha.size, product_read a.fee b.size ha.fee hb.size)

-- ---- feerates by their signs: x and y are the two products without sign

side_up : (z : ℤ) (k x : ℕ) → x ≡ nat_abs z * k → Le (pos 0) z → (up z * k ≡ x) × (down z * k ≡ 0)
side_up (pos n) k x e h = (sym e, zero-mul k)
side_up (negsuc n) k x e h = absurd (omega arith)

side_down : (z : ℤ) (k x : ℕ) → x ≡ nat_abs z * k → Lt z (pos 0) → (up z * k ≡ 0) × (down z * k ≡ x)
side_down (pos n) k x e h = absurd (omega arith)
side_down (negsuc n) k x e h = (zero-mul k, sym e)

module _ (a b : FeeFrac) (x y : ℕ) (hx : x ≡ nat_abs a.fee * b.size) (hy : y ≡ nat_abs b.fee * a.size) where
  by_sides : (m n : ℕ) → mine a b ≡ m → mine b a ≡ n → rate_order a b ≡ size_order m n
  by_sides m n p q = order_parts a b ∙ rw (p, q)

  pub both_up : Le (pos 0) a.fee → Le (pos 0) b.fee → rate_order a b ≡ size_order x y
  both_up h k =
      let p = side_up a.fee b.size x hx h in
      let q = side_up b.fee a.size y hy k in
      by_sides x y (omega (arith, p, q)) (omega (arith, p, q))

  pub both_down : Lt a.fee (pos 0) → Lt b.fee (pos 0) → rate_order a b ≡ size_order y x
  both_down h k =
      let p = side_down a.fee b.size x hx h in
      let q = side_down b.fee a.size y hy k in
      by_sides y x (omega (arith, p, q)) (omega (arith, p, q))

  pub up_down : Le (pos 0) a.fee → Lt b.fee (pos 0) → rate_order a b ≡ size_order (x + y) 0
  up_down h k =
      let p = side_up a.fee b.size x hx h in
      let q = side_down b.fee a.size y hy k in
      by_sides (x + y) 0 (omega (arith, p, q)) (omega (arith, p, q))

  pub down_up : Lt a.fee (pos 0) → Le (pos 0) b.fee → rate_order a b ≡ size_order 0 (x + y)
  down_up h k =
      let p = side_down a.fee b.size x hx h in
      let q = side_up b.fee a.size y hy k in
      by_sides 0 (x + y) (omega (arith, p, q)) (omega (arith, p, q))
