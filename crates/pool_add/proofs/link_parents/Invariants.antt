use Rattle.txset.specs.Sets.{has_in}
use Rattle.pool_table.specs.Changes.{Becomes}
use Rattle.pool_add.specs.Steps.{linked_to}
use Rattle.pool_add.proofs.link_parents.Given as goal

abbrev pub invariant-loop-s : goal.invariant-loop-s
invariant-loop-s l = Becomes (linked_to (has_in l.parents) l.slot l.s) l.initial.table l.table
