use Rattle.depgraph.proofs.Closure.{Joins}
use Rattle.depgraph.proofs.join.Given as goal

abbrev pub invariant-loop-i : goal.invariant-loop-i
invariant-loop-i l = Joins l.fn.walk l.set l.initial.sets l.sets l.i-iterator.rest
