use Rattle.output_order.proofs.Falling.{falls_from}
use Rattle.output_order.proofs.fall_from.Goals as goal

pub returns : goal.returns
returns c = falls_from _ _ c.if-first-eq0.false c.empty.ensures
