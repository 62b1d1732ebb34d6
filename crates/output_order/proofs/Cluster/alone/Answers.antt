use Rattle.output_order.proofs.Cutting.{holds_none, holds_one}
use Rattle.output_order.proofs.Cluster.alone.Goals as goal

pub returns-then-self-t : goal.returns-then-self-t
returns-then-self-t c = record {
  holds = holds_none _ _ _ c.if-self-t.true _ _ c.empty.ensures c.empty-then-self-t.ensures;
  rate_is = c.rate-rate.ensures;
}

pub returns : goal.returns
returns c = record {
  holds = holds_one _ _ c.requires c.if-self-t.false _ _ c.singleton.ensures c.others.ensures;
  rate_is = c.rate-rate.ensures;
}
