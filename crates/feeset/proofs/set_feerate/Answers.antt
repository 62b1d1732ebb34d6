-- What is left of the walk, taken in on top of the sum so far, is the sum of all.
use Rattle.feeset.specs.Total.{total_from}
use Rattle.feeset.proofs.set_feerate.Goals as goal

pub loop-i-preserved : goal.loop-i-preserved
unfolding total_from
loop-i-preserved c = rw (c.add-sum.ensures, c.at.ensures) (rw c.in-Some.ensures.steps at c.loop-i.invariant)

pub returns : goal.returns
unfolding total_from
returns c = rw c.in-None.ensures.steps.0 at c.loop-i.invariant
