use Rattle.txset.proofs.Joins.{Joining}
use Rattle.txset.proofs.TxSet.join.Given as goal

abbrev pub invariant-loop-i : goal.invariant-loop-i
invariant-loop-i l = Joining l.fn.walk l.self l.initial.sets l.sets l.i-iterator.rest
