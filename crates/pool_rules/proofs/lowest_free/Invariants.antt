use mathlib.Core.Bool.{not}
use Rattle.pool_table.specs.Pool.{occupied}
use Rattle.pool_table.specs.Words.{pool_of}
use Rattle.pool_rules.proofs.Finds.{Missed}
use Rattle.pool_rules.proofs.lowest_free.Given as goal

abbrev pub invariant-loop-slot : goal.invariant-loop-slot
invariant-loop-slot l = Missed (λ s. not (occupied (pool_of l.table) s)) l.slot
