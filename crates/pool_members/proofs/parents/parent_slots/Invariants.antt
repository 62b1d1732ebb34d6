use Rattle.txset.specs.Sets.{has_in}
use Rattle.slotsets.proofs.Words.{Upto}
use Rattle.pool_table.specs.Pool.{slot_at}
use Rattle.pool_table.specs.Words.{pool_of}
use Rattle.pool_members.proofs.parents.parent_slots.Given as goal

abbrev pub invariant-loop-j : goal.invariant-loop-j
invariant-loop-j l = Upto (has_in (slot_at (pool_of l.table) l.s).parents) l.j l.initial.set l.set
