-- Where a fee sum is not held: two fees whose sizes, signs aside, add up to less than 2^63. Assumes nothing.
use mathlib.Core.Path.{◌≡◌, sym, ap, ap₂, ◌∙◌}
use mathlib.Core.List.{List, [], ◌∷◌, ◌++◌, map, map-append}
use Prim.Native.Nat.{ℕ, zero, suc, ◌+◌, ◌*◌, ◌^◌, ◌≤◌, ◌<◌}
use native.Mathlib.Omega.{arith}
use lib.IntN.{ℤ, pos, negsuc, neg_ℤ, nat_abs, ◌+ℤ◌, ◌-ℤ◌, +ℤ_idl, +ℤ_idr, +ℤ_assoc, +ℤ_comm}
use lib.ListN.{length, get_or}
use Rattle.feefrac.specs.declared.FeeFrac.{FeeFrac}
use Rattle.feefrac.specs.Rate.{held_fee, held_size, sum, difference}
use Rattle.feefrac.proofs.Signed.{up, down, Sum, sum as parts, up_neg, down_neg, in_range_lem, held_in}

abs_parts : (z : ℤ) → nat_abs z ≡ up z + down z
abs_parts (pos n) = omega arith
abs_parts (negsuc n) = omega arith

-- a sum is at most as far from zero as its parts together
pub abs_sum : (x y : ℤ) → nat_abs (x +ℤ y) ≤ nat_abs x + nat_abs y
abs_sum x y = go (x +ℤ y) (parts x y)
  where
    go : (z : ℤ) → Sum x y z → nat_abs z ≤ nat_abs x + nat_abs y
    go (pos n) s = omega (arith, abs_parts x, abs_parts y)
    go (negsuc n) s = omega (arith, abs_parts x, abs_parts y)

pub abs_neg : (z : ℤ) → nat_abs (neg_ℤ z) ≡ nat_abs z
abs_neg z = omega (arith, abs_parts z, abs_parts (neg_ℤ z), up_neg z, down_neg z)

pub abs_difference : (x y : ℤ) → nat_abs (x -ℤ y) ≤ nat_abs x + nat_abs y
abs_difference x y = omega (arith, abs_sum x (neg_ℤ y), abs_neg y)

-- what is nearer to zero than 2^63 is not held
pub held_near : (z : ℤ) → nat_abs z < 9223372036854775808 → held_fee z ≡ z
held_near (pos n) h = held_in (in_range_lem (pos n) (omega arith) (omega arith))
held_near (negsuc n) h = held_in (in_range_lem (negsuc n) (omega arith) (omega arith))

module _ (a b : FeeFrac) (near : nat_abs a.fee + nat_abs b.fee < 9223372036854775808) where
  -- the fee of a sum is the exact sum of the fees
  pub sum_exact : (sum a b).fee ≡ a.fee +ℤ b.fee
  unfolding sum
  sum_exact = held_near (a.fee +ℤ b.fee) (omega (arith, abs_sum a.fee b.fee))

  -- the fee of a difference is the exact difference of the fees
  pub difference_exact : (difference a b).fee ≡ a.fee -ℤ b.fee
  unfolding difference
  difference_exact = held_near (a.fee -ℤ b.fee) (omega (arith, abs_difference a.fee b.fee))

-- ---- many fees

-- the exact sum of some fees
unfoldable pub exact_sum : List ℤ → ℤ
exact_sum [] = pos 0
exact_sum (f ∷ fs) = f +ℤ exact_sum fs

pub exact_append : (xs ys : List ℤ) → exact_sum (xs ++ ys) ≡ exact_sum xs +ℤ exact_sum ys
unfolding exact_sum
exact_append [] ys = sym (+ℤ_idl (exact_sum ys))
exact_append (x ∷ xs) ys = ap (λ (z : ℤ). x +ℤ z) (exact_append xs ys) ∙ sym (+ℤ_assoc x (exact_sum xs) (exact_sum ys))

-- their sizes, signs aside, together
unfoldable pub spread : List ℤ → ℕ
spread [] = 0
spread (f ∷ fs) = nat_abs f + spread fs

pub spread_append : (xs ys : List ℤ) → spread (xs ++ ys) ≡ spread xs + spread ys
unfolding spread
spread_append [] ys = omega arith
spread_append (x ∷ xs) ys = omega (arith, spread_append xs ys)

pub abs_exact : (fs : List ℤ) → nat_abs (exact_sum fs) ≤ spread fs
unfolding exact_sum spread
abs_exact [] = omega arith
abs_exact (f ∷ fs) = omega (arith, abs_sum f (exact_sum fs), abs_exact fs)

-- the sum of some numbers, as of sizes
unfoldable pub sum_of : List ℕ → ℕ
sum_of [] = 0
sum_of (n ∷ ns) = n + sum_of ns

pub sum_of_append : (xs ys : List ℕ) → sum_of (xs ++ ys) ≡ sum_of xs + sum_of ys
unfolding sum_of
sum_of_append [] ys = omega arith
sum_of_append (x ∷ xs) ys = omega (arith, sum_of_append xs ys)

-- the bound of a cluster fee, either sign
abbrev pub fee_limit : ℕ
fee_limit = 4200000000000000

-- each fee is within it
abbrev pub Within : List ℤ → Type 0
Within fs = (i : ℕ) → i < length fs → nat_abs (get_or fs i (pos 0)) ≤ fee_limit

pub within_spread : (fs : List ℤ) → Within fs → spread fs ≤ fee_limit * length fs
unfolding spread
within_spread [] h = omega arith
within_spread (f ∷ fs) h = omega (arith, h 0 (omega arith), within_spread fs (λ i l. h (suc i) (omega arith)))

-- then so is what is read at any place: past the end it is 0
pub within_at : (fs : List ℤ) → Within fs → (i : ℕ) → nat_abs (get_or fs i (pos 0)) ≤ fee_limit
within_at [] h i = omega arith
within_at (f ∷ fs) h zero = h 0 (omega arith)
within_at (f ∷ fs) h (suc i) = within_at fs (λ j l. h (suc j) (omega arith)) i

-- ---- the sum of some feerates

abbrev pub fees_of : List FeeFrac → List ℤ
fees_of rs = map (λ r. r.fee) rs

abbrev pub sizes_of : List FeeFrac → List ℕ
sizes_of rs = map (λ r. r.size) rs

-- how far their fees are from zero together
abbrev pub far : List FeeFrac → ℕ
far rs = spread (fees_of rs)

pub far_append : (xs ys : List FeeFrac) → far (xs ++ ys) ≡ far xs + far ys
far_append xs ys = ap spread (map-append (λ r. r.fee) xs ys) ∙ spread_append (fees_of xs) (fees_of ys)

-- a has their fees' exact sum
abbrev pub HasFees : FeeFrac → List FeeFrac → Type 0
HasFees a own = a.fee ≡ exact_sum (fees_of own)

-- and their sizes' sum, or 2^64 - 1 where that is more: it is held at the top once, whatever the order in which they were summed
abbrev pub HasSizes : FeeFrac → List FeeFrac → Type 0
HasSizes a own = a.size ≡ held_size (sum_of (sizes_of own))

-- a feerate is the sum of itself, and the sum of two sums that of all
pub fees_one : (r : FeeFrac) → HasFees r (r ∷ [])
unfolding exact_sum
fees_one r = sym (+ℤ_idr r.fee)

pub fees_both : (a b : FeeFrac) (xs ys : List FeeFrac) → far xs + far ys < 9223372036854775808 → HasFees a ys → HasFees b xs → HasFees (sum a b) (xs ++ ys)
fees_both a b xs ys h p q =
    sum_exact a b (omega (arith, ap nat_abs p, ap nat_abs q, abs_exact (fees_of xs), abs_exact (fees_of ys)))
    ∙ ap₂ ◌+ℤ◌ p q ∙ +ℤ_comm (exact_sum (fees_of ys)) (exact_sum (fees_of xs))
    ∙ sym (ap exact_sum (map-append (λ r. r.fee) xs ys) ∙ exact_append (fees_of xs) (fees_of ys))

pub sizes_one : (r : FeeFrac) → r.size < 2 ^ 64 → HasSizes r (r ∷ [])
unfolding sum_of
sizes_one r h = omega arith

pub sizes_both : (a b : FeeFrac) (xs ys : List FeeFrac) → HasSizes a ys → HasSizes b xs → HasSizes (sum a b) (xs ++ ys)
unfolding sum
sizes_both a b xs ys p q =
    let e : sum_of (sizes_of (xs ++ ys)) ≡ sum_of (sizes_of xs) + sum_of (sizes_of ys) =
    ap sum_of (map-append (λ r. r.size) xs ys) ∙ sum_of_append (sizes_of xs) (sizes_of ys) in
    omega arith

-- both
pub record Sums (a : FeeFrac) (own : List FeeFrac) : Type 0 where
  pub fee : HasFees a own
  pub size : HasSizes a own
