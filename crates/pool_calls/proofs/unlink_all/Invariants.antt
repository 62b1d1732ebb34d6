use Rattle.pool_table.specs.Changes.{Becomes}
use Rattle.pool_calls.proofs.Leaving.{up_to}
use Rattle.pool_calls.proofs.unlink_all.Given as goal

abbrev pub invariant-loop-s : goal.invariant-loop-s
invariant-loop-s l = Becomes (up_to l.slot l.s) l.initial.table l.table
