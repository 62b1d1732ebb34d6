use Rattle.depgraph.proofs.Closure.{Closing}
use Rattle.depgraph.proofs.close.Given as goal

abbrev pub invariant-loop-k : goal.invariant-loop-k
invariant-loop-k l = Closing l.initial.ancestors l.initial.descendants l.ancestors l.descendants l.k
