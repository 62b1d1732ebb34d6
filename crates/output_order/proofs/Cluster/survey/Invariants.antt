use Rattle.output_order.proofs.Surveying.{Surveying}
use Rattle.output_order.proofs.Cluster.survey.Given as goal

abbrev pub invariant-loop-k : goal.invariant-loop-k
invariant-loop-k l = Surveying l.self.fees.now l.self.sizes.now l.fn.pieces l.pieces l.fall l.k
