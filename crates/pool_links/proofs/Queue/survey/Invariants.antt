use Rattle.pool_table.specs.Words.{pool_of}
use Rattle.pool_links.proofs.Surveyed.{Surveyed}
use Rattle.pool_links.proofs.Queue.survey.Given as goal

abbrev pub invariant-loop-s : goal.invariant-loop-s
invariant-loop-s l = Surveyed (pool_of l.table) l.s l.self.needs l.self.slots l.linked l.self.end
