use Rattle.feefrac.specs.Rate.{rate_at}
use Rattle.feeset.specs.Scan.{ranks_above}
use Rattle.output_order.specs.Rounds.{freed}
use Rattle.output_order.proofs.Choices.{Found}
use Rattle.output_order.proofs.Cluster.next_member.Given as goal

abbrev pub invariant-loop-t : goal.invariant-loop-t
invariant-loop-t l = Found (ranks_above (rate_at l.self.fees.now l.self.sizes.now)) (freed l.self.ancestors.now l.self.all l.done) l.fn.left l.found l.t-iterator.rest
