use mathlib.Core.Path.{sym, ap, ◌∙◌}
use Prim.Native.Nat.{ℕ, ◌/◌, ◌%◌}
use lib.ListN.{get_or, get_or-eq_default}
use Rattle.txset.specs.Sets.{has, has_in}
use Rattle.txset.proofs.Bits.{has_shift, has_nil}
use Rattle.slotsets.proofs.contains.Goals as goal

pub returns-then-j-set : goal.returns-then-j-set
unfolding has_in
returns-then-j-set c = let s = c.before.before in has_shift (get_or s.args.set.now (s.args.a / 64) 0) (s.args.a % 64)

pub returns : goal.returns
unfolding has_in
returns c = let s = c.before in
    sym (ap (λ (w : ℕ). has w (s.args.a % 64)) (get_or-eq_default s.args.set.now 0 c.if-j-set.false) ∙ has_nil (s.args.a % 64))
