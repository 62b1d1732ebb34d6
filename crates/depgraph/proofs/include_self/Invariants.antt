use Rattle.depgraph.proofs.Closure.{Including}
use Rattle.depgraph.proofs.include_self.Given as goal

abbrev pub invariant-loop-i : goal.invariant-loop-i
invariant-loop-i l = Including l.initial.ancestors l.initial.descendants l.ancestors l.descendants l.cyclic l.i
