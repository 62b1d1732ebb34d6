use Rattle.slotsets.proofs.Words.{Upto}
use Rattle.pool_table.specs.Words.{pool_of}
use Rattle.pool_table.specs.Links.{is_linked}
use Rattle.pool_clusters.proofs.Words.{grown, queued}
use Rattle.pool_clusters.proofs.Slots.spread.Given as goal

abbrev pub invariant-loop-j : goal.invariant-loop-j
invariant-loop-j l = Upto (grown l.initial.found (is_linked (pool_of l.self.table.now) l.a)) l.j l.initial.found l.found × Upto (queued l.initial.found l.initial.todo (is_linked (pool_of l.self.table.now) l.a)) l.j l.initial.todo l.todo
