use Rattle.wide.proofs.Quotient.{Passed}
use Rattle.wide.proofs.scaled_over.Given as goal

abbrev pub invariant-loop : goal.invariant-loop
invariant-loop l = Passed 18446744073709551615 l.x l.factor l.size l.quotient l.rest l.bits l.counter
