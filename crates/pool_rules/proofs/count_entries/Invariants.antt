use mathlib.Core.Path.{◌≡◌}
use Rattle.lists.specs.Below.{count_from}
use Rattle.pool_table.specs.Pool.{occupied}
use Rattle.pool_table.specs.Words.{pool_of}
use Rattle.pool_rules.proofs.count_entries.Given as goal

abbrev pub invariant-loop-s : goal.invariant-loop-s
invariant-loop-s l = l.count ≡ count_from (occupied (pool_of l.table)) l.s 0
