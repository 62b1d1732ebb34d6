use Rattle.pool_table.specs.Words.{pool_of}
use Rattle.pool_clusters.proofs.Limits.{Walked}
use Rattle.pool_clusters.proofs.clusters_stand.Given as goal

abbrev pub invariant-loop-a : goal.invariant-loop-a
invariant-loop-a l = Walked (pool_of l.table) l.seen l.a
