use mathlib.Core.Bool.{Bool, cond}
use mathlib.Core.List.{[], ◌∷◌}
use mathlib.Core.Path.{sym, ap, ◌∙◌}
use Prim.Native.Nat.{ℕ, ◌^◌}
use borrow.Author.Tests.{lt-ltb, le-ltb}
use Rattle.txset.specs.Sets.{has_in, mem}
use Rattle.txset.proofs.Bits.{one_shifted}
use Rattle.txset.proofs.Words.{has_in_one}
use Rattle.txset.proofs.TxSet.singleton.Goals as goal

pub returns-then-k-ge-POSITIONS : goal.returns-then-k-ge-POSITIONS
unfolding mem
returns-then-k-ge-POSITIONS c = let k = c.args.k in
    λ i. ap (λ (b : Bool). has_in (cond b (2 ^ k ∷ []) (0 ∷ [])) i) (sym (le-ltb k 64 c.if-k-ge-POSITIONS.true)) ∙ has_in_one 1 k i

pub returns : goal.returns
unfolding mem
returns c = let k = c.args.k in
    λ i.
    ap (λ (w : ℕ). has_in (w ∷ []) i) (one_shifted 64 k c.if-k-ge-POSITIONS.false)
    ∙ ap (λ (b : Bool). has_in (cond b (2 ^ k ∷ []) (0 ∷ [])) i) (sym (lt-ltb k 64 c.if-k-ge-POSITIONS.false)) ∙ has_in_one 1 k i
