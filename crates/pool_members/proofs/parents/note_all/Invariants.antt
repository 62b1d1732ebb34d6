use lib.ListN.{get_or}
use Rattle.pool_table.specs.Words.{pool_of}
use Rattle.pool_members.specs.Members.{parents_of}
use Rattle.pool_members.proofs.Stored.{Storing}
use Rattle.pool_members.proofs.parents.note_all.Given as goal

abbrev pub invariant-loop-s : goal.invariant-loop-s
invariant-loop-s l = Storing l.members (λ k. l.first) l.initial.firsts l.firsts l.s-index × Storing l.members (λ k. parents_of (pool_of l.table) l.members (get_or l.members k 0)) l.initial.ups l.ups l.s-index
