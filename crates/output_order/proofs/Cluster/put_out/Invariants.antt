use lib.ListN.{length}
use Rattle.txset.specs.Sets.{size}
use Rattle.output_order.specs.Rounds.{Within}
use Rattle.output_order.proofs.Putting.{Putting}
use Rattle.output_order.proofs.Cluster.put_out.Given as goal

abbrev pub invariant-loop-left : goal.invariant-loop-left
invariant-loop-left l = Putting l.self.fees.now l.self.sizes.now (length l.self.fees.now) l.self.ancestors.now l.initial.room l.initial.done l.initial.len l.initial.left l.room l.done l.len l.left × Within l.self.ancestors.now l.self.all l.left l.done

abbrev pub decreases-loop-left : goal.decreases-loop-left
decreases-loop-left l = size l.left
