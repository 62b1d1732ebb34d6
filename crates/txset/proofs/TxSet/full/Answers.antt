use mathlib.Core.List.{[], ◌∷◌}
use mathlib.Core.Path.{sym, ap, ◌∙◌, subst}
use Prim.Native.Nat.{ℕ, ◌-◌, ◌^◌, ◌≤◌}
use native.Mathlib.Nat.{min-eq_left, min-eq_right}
use native.Mathlib.Omega.{arith}
use lib.Pow.{pow_pos}
use Rattle.txset.specs.Sets.{has_in, mem}
use Rattle.txset.proofs.Bits.{one_shifted}
use Rattle.txset.proofs.Words.{has_in_full}
use Rattle.txset.proofs.TxSet.full.Goals as goal

pub overflow_sub-result : goal.overflow_sub-result
overflow_sub-result c = let n = c.args.n in subst (λ (m : ℕ). 1 ≤ m) (sym (one_shifted 64 n (omega arith))) (pow_pos n)

pub returns-then-n-ge-POSITIONS : goal.returns-then-n-ge-POSITIONS
unfolding mem
returns-then-n-ge-POSITIONS c = let n = c.args.n in
    λ i. ap (λ (m : ℕ). has_in ((2 ^ m - 1) ∷ []) i) (sym (min-eq_right {n = 64} {m = n} (omega arith))) ∙ has_in_full 1 n i

pub returns : goal.returns
unfolding mem
returns c = let n = c.args.n in
    λ i.
    ap (λ (m : ℕ). has_in ((m - 1) ∷ []) i)
    (one_shifted 64 n (omega arith) ∙ ap (λ (m : ℕ). 2 ^ m) (sym (min-eq_left {n = n} {m = 64} (omega arith))))
    ∙ has_in_full 1 n i
