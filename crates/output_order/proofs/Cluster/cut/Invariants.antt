use Rattle.output_order.proofs.Cutting.{Cutting}
use Rattle.output_order.proofs.Cluster.cut.Given as goal

abbrev pub invariant-loop-t : goal.invariant-loop-t
invariant-loop-t l = Cutting l.self.fees.now l.self.sizes.now l.self.ancestors.now l.order l.pieces l.count l.t-index
