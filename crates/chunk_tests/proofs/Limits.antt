-- Two amounts against a limit, without their sum, and a fee against a minimum by products without sign. Assumes nothing.
use Prim.Native.Nat.{ℕ, ◌+◌, ◌*◌, ◌-◌, ◌≤◌, ◌<◌}
use native.Mathlib.Omega.{arith}
use mathlib.Core.Path.{◌≡◌, refl, sym, ◌∙◌}
use mathlib.Core.Bool.{true, false}
use lib.Dec.{ltb}
use lib.IntN.{ℤ, pos, negsuc, nat_abs, ◌*ℤ◌}
use lib.Signed.{lt_z}
use borrow.Author.Tests.{eq-eqb, ne_eqb, lt-ltb}
use Rattle.lists.proofs.Numbers.{ltb_same}
use Rattle.feefrac.specs.declared.FeeFrac.{FeeFrac}
use Rattle.feefrac.proofs.Signed.{up, down, Le, Lt, up_product, down_product, less_parts}
use Rattle.weights.specs.Weights.{virtual_size}
use Rattle.chunk_tests.specs.Tests.{is_below, over_budget, over_sigops}

-- ---- a limit

module _ (limit a b : ℕ) where
  -- the first amount alone is above it
  pub budget_first : limit < a → true ≡ over_budget limit a b
  unfolding over_budget
  budget_first h = sym (lt-ltb limit (a + b) (omega arith))

  -- it is not: the second is compared with what the first leaves
  pub budget_rest : a ≤ limit → ltb (limit - a) b ≡ over_budget limit a b
  unfolding over_budget
  budget_rest h = ltb_same (limit - a) b limit (a + b) (λ l. omega arith) (λ l. omega arith)

module _ (reserve used added : ℕ) where
  pub sigops_first : 80000 < reserve → true ≡ over_sigops reserve used added
  unfolding over_sigops
  sigops_first h = sym (lt-ltb 80000 (reserve + (used + added)) (omega arith))

  pub sigops_rest : reserve ≤ 80000 → over_budget (80000 - reserve) used added ≡ over_sigops reserve used added
  unfolding over_sigops over_budget
  sigops_rest h = ltb_same (80000 - reserve) (used + added) 80000 (reserve + (used + added)) (λ l. omega arith) (λ l. omega arith)

-- ---- a minimum

below_zero : (z : ℤ) (n : ℕ) → Lt z (pos 0) → lt_z (z *ℤ pos 1000) (pos n) ≡ true
below_zero z n h =
    less_parts (z *ℤ pos 1000) (pos n)
    ∙ lt-ltb (up (z *ℤ pos 1000) + 0) (n + down (z *ℤ pos 1000)) (omega (arith, up_product z 1000, down_product z 1000))

module _ (minimum : ℕ) (r : FeeFrac) where
  -- none is below a minimum of 0
  pub none_below : minimum ≡ 0 → false ≡ is_below minimum r
  unfolding is_below
  none_below e = rw (eq-eqb minimum 0 e)

  -- a negative fee is below any other
  pub negative_below : (minimum ≡ 0 → ⊥) → Lt r.fee (pos 0) → true ≡ is_below minimum r
  unfolding is_below
  negative_below z h = rw (ne_eqb minimum 0 z) (sym (below_zero r.fee (minimum * virtual_size r.size) h))

  -- a fee that is not negative is its size without sign
  pub fee_below : (minimum ≡ 0 → ⊥) → Le (pos 0) r.fee → ltb (nat_abs r.fee * 1000) (minimum * virtual_size r.size) ≡ is_below minimum r
  unfolding is_below
  fee_below z h = rw (ne_eqb minimum 0 z) (go r.fee (minimum * virtual_size r.size) h)
    where
      go : (z : ℤ) (n : ℕ) → Le (pos 0) z → ltb (nat_abs z * 1000) n ≡ lt_z (z *ℤ pos 1000) (pos n)
      go (pos m) n l = refl
      go (negsuc m) n l = absurd (omega arith)
