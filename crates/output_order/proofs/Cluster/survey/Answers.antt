use native.Mathlib.Omega.{arith}
use Rattle.output_order.proofs.Falling.{drops_none}
use Rattle.output_order.proofs.Surveying.{survey_start, survey_turn, survey_sums, survey_drops}
use Rattle.output_order.proofs.Cluster.survey.Goals as goal

pub loop-k-init : goal.loop-k-init
loop-k-init c = survey_start _ c.requires.1 c.set_feerate-first.ensures c.fall_from-fall.ensures

pub loop-k-preserved : goal.loop-k-preserved
loop-k-preserved c = survey_turn c.loop-k.invariant (omega (arith, c.loop-k-test.true, c.requires.0)) c.set_feerate-rate.ensures c.fall_on-fall.ensures

pub returns : goal.returns
returns c = let inv = c.loop-k.invariant in record {
  summed = survey_sums inv c.loop-k-test.false;
  drops = survey_drops inv c.loop-k-test.false c.in-Some.is;
}

-- they do not fall
pub returns-in_default : goal.returns-in_default
returns-in_default c = record {
  summed = survey_sums c.loop-k.invariant c.loop-k-test.false;
  drops = drops_none _ _ _ c.empty.ensures;
}
