use Rattle.pool_table.specs.Words.{pool_of}
use Rattle.pool_order.proofs.Filling.{Copied}
use Rattle.pool_chunks.specs.Chunks.{fee_of, size_of}
use Rattle.pool_chunks.proofs.cut.gather_rates.Given as goal

abbrev pub invariant-loop-i : goal.invariant-loop-i
invariant-loop-i l = Copied (fee_of (pool_of l.table) l.deltas) l.members l.initial.fees l.fees l.i × Copied (size_of (pool_of l.table)) l.members l.initial.sizes l.sizes l.i
