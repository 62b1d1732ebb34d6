use Rattle.slotsets.proofs.Words.{NoneTo}
use Rattle.slotsets.proofs.lowest.Given as goal

abbrev pub invariant-loop-j : goal.invariant-loop-j
invariant-loop-j l = NoneTo l.j l.set
