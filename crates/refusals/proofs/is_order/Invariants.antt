use Rattle.refusals.proofs.Orders.{Seen}
use Rattle.refusals.proofs.is_order.Given as goal

abbrev pub invariant-loop-p : goal.invariant-loop-p
invariant-loop-p l = Seen l.n l.order l.seen l.p-index
