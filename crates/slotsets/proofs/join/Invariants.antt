use Rattle.slotsets.proofs.Words.{Upto, joined}
use Rattle.slotsets.proofs.join.Given as goal

abbrev pub invariant-loop-j : goal.invariant-loop-j
invariant-loop-j l = Upto (joined l.initial.set l.more) l.j l.initial.set l.set
