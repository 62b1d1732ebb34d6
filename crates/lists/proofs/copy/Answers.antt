use mathlib.Core.Path.{◌∙◌}
use native.Mathlib.Omega.{arith}
use Rattle.lists.proofs.Lists.{copied_next, copied_most}
use Rattle.lists.proofs.copy.Goals as goal

pub loop-i-preserved : goal.loop-i-preserved
loop-i-preserved g c =
    rw c.loop-i.invariant
    (copied_next c.args.from.now c.args.to.now c.loop-i.i c.index-from-i.result (omega (arith, c.min-i-end.ensures, c.loop-i-test.true)) (omega (arith, c.min-i-end.ensures, c.loop-i-test.true)) c.index-from-i.is)

pub returns : goal.returns
returns g c = c.loop-i.invariant ∙ copied_most c.args.from.now c.args.to.now c.loop-i.i (omega (arith, c.min-i-end.ensures, c.loop-i-test.false, c.loop-i.auto.i-end))
