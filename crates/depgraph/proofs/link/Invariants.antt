use lib.ListN.{take}
use Rattle.depgraph.specs.Graph.{is_parent}
use Rattle.depgraph.proofs.Closure.{Linking}
use Rattle.depgraph.proofs.link.Given as goal

abbrev pub invariant-loop-i : goal.invariant-loop-i
invariant-loop-i l = Linking (is_parent (take l.n l.parents)) l.initial.ancestors l.initial.descendants l.ancestors l.descendants l.i
