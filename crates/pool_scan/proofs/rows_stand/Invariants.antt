use Rattle.pool_table.specs.Words.{pool_of}
use Rattle.pool_scan.proofs.Scan.{Scanned}
use Rattle.pool_scan.proofs.rows_stand.Given as goal

abbrev pub invariant-loop-s : goal.invariant-loop-s
invariant-loop-s l = Scanned (pool_of l.table) l.s l.sum
