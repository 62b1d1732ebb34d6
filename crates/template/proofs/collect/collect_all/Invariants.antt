use mathlib.Core.Path.{◌≡◌}
use lib.ListN.{length, take}
use Rattle.pool_table.specs.Words.{pool_of}
use Rattle.template.proofs.Collecting.{Gathering}
use Rattle.template.proofs.collect.collect_all.Given as goal

abbrev pub invariant-loop-slot : goal.invariant-loop-slot
invariant-loop-slot l = Gathering (pool_of l.table) (take l.n l.initial.picked) l.slots l.slot-index l.taken l.picked l.end × (length l.picked ≡ length l.initial.picked)
