use Rattle.txset.specs.Sets.{size}
use Rattle.output_order.proofs.Rounds.{Rounds}
use Rattle.output_order.proofs.output_order.Given as goal

abbrev pub invariant-loop-k : goal.invariant-loop-k
invariant-loop-k l = Rounds l.fees l.sizes l.ancestors l.order l.initial.room l.cluster.all l.pieces l.count l.drops l.room l.left l.out.done l.out.len

abbrev pub decreases-loop-k : goal.decreases-loop-k
decreases-loop-k l = size l.left
