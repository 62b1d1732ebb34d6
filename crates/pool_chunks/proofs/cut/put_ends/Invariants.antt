use Rattle.pool_chunks.proofs.Writing.{Ending}
use Rattle.pool_chunks.proofs.cut.put_ends.Given as goal

abbrev pub invariant-loop-k : goal.invariant-loop-k
invariant-loop-k l = Ending l.from l.lens l.initial.ends l.ends l.end l.k
