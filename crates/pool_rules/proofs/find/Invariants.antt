use Rattle.pool_table.specs.Words.{pool_of}
use Rattle.pool_rules.specs.Module8.{holds}
use Rattle.pool_rules.proofs.Finds.{Missed}
use Rattle.pool_rules.proofs.find.Given as goal

abbrev pub invariant-loop-s : goal.invariant-loop-s
invariant-loop-s l = Missed (holds (pool_of l.table) l.txid) l.s
