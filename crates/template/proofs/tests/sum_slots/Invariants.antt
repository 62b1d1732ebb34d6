use Rattle.pool_table.specs.Words.{pool_of}
use Rattle.template.proofs.Asking.{Summing}
use Rattle.template.proofs.tests.sum_slots.Given as goal

abbrev pub invariant-loop-s : goal.invariant-loop-s
invariant-loop-s l = Summing (pool_of l.table) l.slots l.weight l.cost l.s-index
