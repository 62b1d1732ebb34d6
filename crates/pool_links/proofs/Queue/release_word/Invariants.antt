use Rattle.pool_table.specs.Words.{pool_of}
use Rattle.pool_links.specs.Steps.{Walking}
use Rattle.pool_links.proofs.Walking.{children_past, Left}
use Rattle.pool_links.proofs.Queue.release_word.Given as goal

abbrev pub invariant-loop-i : goal.invariant-loop-i
invariant-loop-i l =
    Walking (pool_of l.table) l.at l.a (children_past (pool_of l.table) l.a l.j l.i-iterator.rest) l.self.needs l.self.slots l.self.end
    × Left (pool_of l.table) l.a l.j l.i-iterator.rest
