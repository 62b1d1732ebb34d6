use mathlib.Core.Path.{◌≡◌}
use lib.ListN.{length}
use Rattle.pool_table.specs.Words.{pool_of}
use Rattle.pool_members.proofs.Laying.{laid, Laying}
use Rattle.pool_members.proofs.lay_by_txid.Given as goal

abbrev pub invariant-loop-s : goal.invariant-loop-s
invariant-loop-s l =
    Laying (pool_of l.table) (laid (pool_of l.table) l.s-index) l.members l.bounds l.firsts l.ups l.places l.seen l.count l.end
    × (length l.members ≡ length l.initial.members)
