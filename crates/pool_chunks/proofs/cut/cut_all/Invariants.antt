use Rattle.pool_table.specs.Words.{pool_of}
use Rattle.pool_chunks.proofs.Cutting.{Cutting}
use Rattle.pool_chunks.proofs.cut.cut_all.Given as goal

abbrev pub invariant-loop-c : goal.invariant-loop-c
invariant-loop-c l = Cutting (pool_of l.table) l.deltas l.bounds l.initial.listed l.initial.starts l.initial.fees l.initial.sizes l.listed l.starts l.fees l.sizes l.count l.c
