use mathlib.Core.Path.{refl, sym, ap}
use Prim.Native.Nat.{ℕ}
use lib.ListN.{get_or-eq_default}
use Rattle.txset.specs.Sets.{set_at}
use Rattle.txset.specs.declared.TxSet.{TxSet}
use Rattle.txset.proofs.TxSet.at.Goals as goal

pub returns-then-i-sets : goal.returns-then-i-sets
unfolding set_at
returns-then-i-sets c = refl

pub returns : goal.returns
unfolding set_at
returns c = ap {B = TxSet} (λ (w : ℕ). record { word = w }) (sym (get_or-eq_default c.args.sets.now 0 c.if-i-sets.false))
