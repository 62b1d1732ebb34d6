-- The shown rate: the sign of the fee, and the ends of the i64 range. Assumes nothing.
use mathlib.Core.Path.{◌≡◌, refl, sym, ap, ◌∙◌}
use Prim.Native.Nat.{ℕ, zero, suc, ◌*◌, ◌/◌, min}
use native.Mathlib.Nat.{mul_comm, zero-div}
use native.Mathlib.Omega.{arith}
use lib.IntN.{ℤ, pos, negsuc, neg_ℤ, nat_abs, ◌+ℤ◌, ◌-ℤ◌, ◌*ℤ◌, +ℤ_idl}
use lib.Signed.{quot_z}
use mir.Syntax.{w64}
use Rattle.std.specs.Int.{saturate_signed}
use borrow.Author.Tests.{ne_eqb}
use Rattle.feefrac.specs.declared.FeeFrac.{FeeFrac}
use Rattle.feefrac.specs.Rate.{held_fee}
use Rattle.feefrac.proofs.Signed.{Le, Lt}
use Rattle.cluster_writer.specs.Writing.{shown_rate}

quot_neg : (n size : ℕ) → quot_z (neg_ℤ (pos n)) (pos size) ≡ neg_ℤ (pos (n / size))
quot_neg zero size = rw (zero-div size)
quot_neg (suc n) size = refl

quot_up : (z : ℤ) (size : ℕ) → Le (pos 0) z → quot_z (z *ℤ pos 4000) (pos size) ≡ pos (4000 * nat_abs z / size)
quot_up (pos n) size h = rw (mul_comm 4000 n)
quot_up (negsuc n) size h = absurd (omega arith)

quot_down : (z : ℤ) (size : ℕ) → Lt z (pos 0) → quot_z (z *ℤ pos 4000) (pos size) ≡ neg_ℤ (pos (4000 * nat_abs z / size))
quot_down (pos n) size h = absurd (omega arith)
quot_down (negsuc n) size h = rw (mul_comm 4000 (suc n)) (quot_neg (suc n * 4000) size)

-- a number held as code holds it, as it is and turned
held_is : (z : ℤ) → saturate_signed w64 z ≡ held_fee z
held_is (pos n) = refl
held_is (negsuc n) = refl

pub held_up : (q : ℕ) → saturate_signed w64 (pos 0 +ℤ pos q) ≡ held_fee (pos q)
held_up q = ap (saturate_signed w64) (+ℤ_idl (pos q)) ∙ held_is (pos q)

pub held_down : (q : ℕ) → saturate_signed w64 (pos 0 -ℤ pos q) ≡ held_fee (neg_ℤ (pos q))
held_down q = ap (saturate_signed w64) (+ℤ_idl (neg_ℤ (pos q))) ∙ held_is (neg_ℤ (pos q))

-- a quotient that was held to the u64 range first
held_twice_up : (n q : ℕ) → q ≡ min n 18446744073709551615 → held_fee (pos q) ≡ held_fee (pos n)
held_twice_up n q e = ap pos (omega arith)

held_twice_down : (n q : ℕ) → q ≡ min n 18446744073709551615 → held_fee (neg_ℤ (pos q)) ≡ held_fee (neg_ℤ (pos n))
held_twice_down zero zero e = refl
held_twice_down zero (suc q) e = absurd (omega arith)
held_twice_down (suc n) zero e = absurd (omega arith)
held_twice_down (suc n) (suc q) e = ap negsuc (omega arith)

-- the quotient of the sizes with the fee's sign, or the end of the range that it is past
module _ (r : FeeFrac) {q : ℕ} (some : r.size ≡ 0 → ⊥) (e : q ≡ min (4000 * nat_abs r.fee / r.size) 18446744073709551615) where
  shown : shown_rate r ≡ held_fee (quot_z (r.fee *ℤ pos 4000) (pos r.size))
  unfolding shown_rate
  shown = rw (ne_eqb r.size 0 some)

  pub rate_up : Le (pos 0) r.fee → held_fee (pos q) ≡ shown_rate r
  rate_up h = held_twice_up (4000 * nat_abs r.fee / r.size) q e ∙ sym (shown ∙ ap held_fee (quot_up r.fee r.size h))

  pub rate_down : Lt r.fee (pos 0) → held_fee (neg_ℤ (pos q)) ≡ shown_rate r
  rate_down h = held_twice_down (4000 * nat_abs r.fee / r.size) q e ∙ sym (shown ∙ ap held_fee (quot_down r.fee r.size h))
