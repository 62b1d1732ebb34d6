-- How exact a feerate sum is: within the limits its fee is never held, and its size is held only at 2^64 - 1. Assumes nothing.
use mathlib.Core.Path.{◌≡◌, sym, ap, ◌∙◌}
use mathlib.Core.List.{List, [], ◌∷◌, map}
use Prim.Native.Nat.{ℕ, ◌+◌, ◌*◌, ◌≤◌, ◌<◌, min}
use native.Mathlib.Omega.{arith}
use lib.IntN.{ℤ, pos, nat_abs, ◌+ℤ◌, +ℤ_idl, +ℤ_idr, +ℤ_assoc}
use lib.ListN.{length, get_or}
use Rattle.txset.specs.Sets.{positions}
use Rattle.feefrac.specs.declared.FeeFrac.{FeeFrac}
use Rattle.feefrac.specs.Rate.{zero_rate, sum, rate_at}
use Rattle.feefrac.proofs.Exact.{abs_sum, sum_exact, exact_sum, sum_of, spread, fee_limit, Within, within_at}
use Rattle.feeset.specs.Total.{total_from, total}

-- the fees and the sizes at some positions, 0 for one past the end
abbrev pub fees_at : List ℤ → List ℕ → List ℤ
fees_at fs is = map (λ i. get_or fs i (pos 0)) is

abbrev pub sizes_at : List ℕ → List ℕ → List ℕ
sizes_at ss is = map (λ i. get_or ss i 0) is

-- ---- fees

module _ (fs : List ℤ) (ss : List ℕ) where
  from_fee : (acc : FeeFrac) (is : List ℕ) → nat_abs acc.fee + spread (fees_at fs is) < 9223372036854775808
      → (total_from fs ss acc is).fee ≡ acc.fee +ℤ exact_sum (fees_at fs is)
  unfolding total_from rate_at exact_sum spread
  from_fee acc [] h = sym (+ℤ_idr acc.fee)
  from_fee acc (i ∷ is) h =
      let r = rate_at fs ss i in
      let e : (sum acc r).fee ≡ acc.fee +ℤ r.fee = sum_exact acc r (omega arith) in
      from_fee (sum acc r) is (omega (arith, ap nat_abs e, abs_sum acc.fee r.fee))
      ∙ ap (λ (z : ℤ). z +ℤ exact_sum (fees_at fs is)) e
      ∙ +ℤ_assoc acc.fee r.fee (exact_sum (fees_at fs is))

  -- the fee of a sum is exact where the fees, signs aside, stay below 2^63 together
  pub total_exact : (is : List ℕ) → spread (fees_at fs is) < 9223372036854775808 → (total fs ss is).fee ≡ exact_sum (fees_at fs is)
  total_exact is h = from_fee zero_rate is (omega arith) ∙ +ℤ_idl (exact_sum (fees_at fs is))

  module _ (within : Within fs) where
    -- how far some of them are from zero together, at most
    pub at_spread : (is : List ℕ) → spread (fees_at fs is) ≤ fee_limit * length is
    unfolding spread
    at_spread [] = omega arith
    at_spread (i ∷ is) = omega (arith, within_at fs within i, at_spread is)

    -- so it is for at most 64 positions and fees within the limit
    pub total_fee : (is : List ℕ) → length is ≤ positions → (total fs ss is).fee ≡ exact_sum (fees_at fs is)
    total_fee is few = total_exact is (omega (arith, at_spread is))

-- ---- sizes

module _ (fs : List ℤ) (ss : List ℕ) where
  from_size : (acc : FeeFrac) (is : List ℕ) → acc.size ≤ 18446744073709551615
      → (total_from fs ss acc is).size ≡ min (acc.size + sum_of (sizes_at ss is)) 18446744073709551615
  unfolding total_from rate_at sum sum_of
  from_size acc [] h = omega arith
  from_size acc (i ∷ is) h = omega (arith, from_size (sum acc (rate_at fs ss i)) is (omega arith))

  -- the size of a sum is the exact sum, or 2^64 - 1 where that is more
  pub total_size : (is : List ℕ) → (total fs ss is).size ≡ min (sum_of (sizes_at ss is)) 18446744073709551615
  total_size is = omega (arith, from_size zero_rate is (omega arith))
