use Rattle.pool_table.specs.Words.{pool_of}
use Rattle.pool_chunks.proofs.InRange.{Fine}
use Rattle.pool_chunks.proofs.deltas.any_bad.Given as goal

abbrev pub invariant-loop-s : goal.invariant-loop-s
invariant-loop-s l = Fine (pool_of l.table) l.deltas l.s
