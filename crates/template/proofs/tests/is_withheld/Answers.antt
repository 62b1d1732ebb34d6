use mathlib.Core.Path.{refl, sym, ap}
use mathlib.Core.Bool.{not}
use Prim.Native.Nat.{ℕ}
use lib.Dec.{eqb}
use lib.ListN.{get_or-eq_default}
use Rattle.template_rules.specs.Filling.{withheld}
use Rattle.template.proofs.tests.is_withheld.Goals as goal

pub returns-then-s-marks : goal.returns-then-s-marks
unfolding withheld
returns-then-s-marks c = refl

pub returns : goal.returns
unfolding withheld
returns c = ap (λ (n : ℕ). not (eqb n 0)) (sym (get_or-eq_default c.args.marks.now 0 c.if-s-marks.false))
