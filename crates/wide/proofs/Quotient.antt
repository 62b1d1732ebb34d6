-- A product over a size without the product: a quotient and its rest are doubled and added to along the bits of a factor.
-- Assumes nothing.
use Rattle.std.proofs.Common.{◌≡◌, ℕ, ◌+◌, ◌-◌, ◌*◌, ◌/◌, ◌%◌, ◌^◌, ◌<◌, ◌≤◌, min, sym, refl, ap, ◌∙◌, mod-lt, mod-eq_of_lt, mul_assoc, add-mul, mul-le-mul, pow-suc, div-add-mod', zero-mul, add-one, arith, pow_mono}
use native.Mathlib.Nat.{min-eq_left, min-le_right, zero-div, div-eq_of_lt, div-eq_of_lt-le, mul-add-div_right}
use native.Mathlib.Nat.{zero-mod, add-mod, mod-eq-sub-mod}

-- ---- two rests, each below the size: the quotient and the rest of their sum, where it reaches the size and where not

module _ {r s size : ℕ} (hr : r < size) (hs : s < size) where
  pub carry : size - r ≤ s → (r + s) / size ≡ 1
  carry h = div-eq_of_lt-le size (omega arith) (omega arith)

  pub no_carry : s < size - r → (r + s) / size ≡ 0
  no_carry h = div-eq_of_lt (omega arith)

  pub past : size - r ≤ s → (r + s) % size ≡ s - (size - r)
  past h =
      let e : r + s - size ≡ s - (size - r) = omega arith in
      mod-eq-sub-mod (omega arith) ∙ rw e (mod-eq_of_lt (omega arith))

  pub below : s < size - r → (r + s) % size ≡ r + s
  below h = mod-eq_of_lt (omega arith)

-- ---- quotients held at a number

-- q and r are the quotient and the rest of n by the size; what q is from `top` on does not count
pub record Parts (top n size q r : ℕ) : Type 0 where
  pub quotient : min q top ≡ min (n / size) top
  pub rest : r ≡ n % size

-- sums of numbers that are alike up to `top` are alike up to it
alike_sum : (top a b q q' c : ℕ) → min q top ≡ min a top → min q' top ≡ min b top → min (q + q' + c) top ≡ min (a + b + c) top
alike_sum top a b q q' c h h' = omega arith

module _ {size : ℕ} (some : 0 < size) where
  -- a rest is below the size
  pub rest_below : {top n q r : ℕ} → Parts top n size q r → r < size
  rest_below {top} {n} p = rw p.rest (mod-lt n some)

  add_div : (a b : ℕ) → (a + b) / size ≡ a / size + b / size + (a % size + b % size) / size
  add_div a b =
      let e : a + b ≡ (a / size + b / size) * size + (a % size + b % size) =
      omega (arith, add-mul (a / size) (b / size) size, div-add-mod' a size, div-add-mod' b size) in
      ap (λ (n : ℕ). n / size) e ∙ mul-add-div_right some (a / size + b / size) (a % size + b % size)

  -- the parts of a sum
  pub parts_sum : {top a b q q' r r' : ℕ} → Parts top a size q r → Parts top b size q' r' → Parts top (a + b) size (min (q + q' + (r + r') / size) top) ((r + r') % size)
  parts_sum {top} {a} {b} {q} {q'} {r} {r'} p p' = record {
    quotient = rw (add_div a b, p.rest, p'.rest) (min-eq_left (min-le_right (q + q' + _) top) ∙ alike_sum top (a / size) (b / size) q q' _ p.quotient p'.quotient);
    rest = rw (p.rest, p'.rest) (sym (add-mod a b size));
  }

-- ---- along the bits of the factor

-- of the sixteen bits k have passed; as a number they are the upper part of `bits`
pub record Passed (top x factor size q r bits k : ℕ) : Type 0 where
  pub few : k ≤ 16
  pub small : factor < 65536
  pub upper : bits ≡ factor * 2 ^ k
  pub low : q ≤ top
  pub parts : Parts top (bits / 65536 * x) size q r

-- before the first bit
pub none_passed : (top x factor size : ℕ) → factor < 65536 → Passed top x factor size 0 0 factor 0
none_passed top x factor size h = record {
  few = omega arith;
  small = h;
  upper = omega arith;
  low = omega arith;
  parts = rw (div-eq_of_lt h, zero-mul x) (record { quotient = rw (zero-div size); rest = sym (zero-mod size) });
}

module _ {top x factor size q r bits k : ℕ} (p : Passed top x factor size q r bits k) where
  -- doubling the bits stays small
  pub bits_small : k < 16 → bits < 2147483648
  bits_small h =
      let few_bits : 2 ^ k ≤ 32768 = pow_mono {i = k} {j = 15} (omega arith) in
      let most : factor * 2 ^ k ≤ 65535 * 32768 = mul-le-mul {n₁ = factor} {n₂ = 65535} (omega (arith, p.small)) few_bits in
      omega (arith, p.upper)

  turn : {q' r' : ℕ} → k < 16 → q' ≤ top → Parts top (bits * 2 / 65536 * x) size q' r' → Passed top x factor size q' r' (bits * 2) (k + 1)
  turn h l t = record { few = omega arith; small = p.small; upper = rw (add-one, pow-suc, p.upper) (mul_assoc factor (2 ^ k) 2); low = l; parts = t }

  -- a bit that is 0 doubles, one that is 1 also adds
  module _ (some : 0 < size) (h : k < 16) where
    doubled : Parts top (bits / 65536 * x + bits / 65536 * x) size (min (q + q + (r + r) / size) top) ((r + r) % size)
    doubled = parts_sum some p.parts p.parts

    pub twice_below : (r + r) % size < size
    twice_below = rest_below some doubled

    pub bit_0 : {q' r' : ℕ} → (bits / 32768 % 2 ≡ 1 → ⊥)
        → q' ≡ min (q + q + (r + r) / size) top → r' ≡ (r + r) % size → Passed top x factor size q' r' (bits * 2) (k + 1)
    bit_0 z e e' =
        let m : bits * 2 / 65536 ≡ bits / 65536 + bits / 65536 = omega arith in
        turn h (omega (arith, e)) (rw (m, add-mul (bits / 65536) (bits / 65536) x, e, e') doubled)

    pub bit_1 : {q₁ r₁ q' r' : ℕ} → bits / 32768 % 2 ≡ 1
        → q₁ ≡ min (q + q + (r + r) / size) top → r₁ ≡ (r + r) % size
        → q' ≡ min (q₁ + x / size + (r₁ + x % size) / size) top → r' ≡ (r₁ + x % size) % size → Passed top x factor size q' r' (bits * 2) (k + 1)
    bit_1 z e e' f f' =
        let m : bits * 2 / 65536 ≡ bits / 65536 + bits / 65536 + 1 = omega arith in
        let one : Parts top x size (x / size) (x % size) = record { quotient = refl; rest = refl } in
        let sum : (bits / 65536 + bits / 65536 + 1) * x ≡ bits / 65536 * x + bits / 65536 * x + x =
        omega (arith, add-mul (bits / 65536 + bits / 65536) 1 x, add-mul (bits / 65536) (bits / 65536) x) in
        turn h (omega (arith, f)) (rw (m, sum, f, f', e, e') (parts_sum some doubled one))

  -- after the last bit
  pub all_passed : 16 ≤ k → q ≡ min (factor * x / size) top
  all_passed h =
      let e : k ≡ 16 = omega (arith, p.few) in
      let b : bits ≡ factor * 65536 = p.upper ∙ ap (λ (n : ℕ). factor * 2 ^ n) e in
      let m : bits / 65536 ≡ factor = omega arith in
      sym (min-eq_left p.low) ∙ (rw m at p.parts.quotient)
