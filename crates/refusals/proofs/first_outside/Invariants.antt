use Rattle.refusals.proofs.Laws.{Passed}
use Rattle.refusals.proofs.first_outside.Given as goal

abbrev pub invariant-loop-i : goal.invariant-loop-i
invariant-loop-i l = Passed l.fees l.i
