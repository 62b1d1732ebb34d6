use Prim.Native.Nat.{◌-◌}
use Rattle.slotsets.specs.SlotSets.{capacity}
use Rattle.pool_table.specs.Words.{pool_of}
use Rattle.pool_clusters.proofs.Gathering.{Gathering}
use Rattle.pool_clusters.proofs.Slots.gather.Given as goal

abbrev pub invariant-loop-a : goal.invariant-loop-a
invariant-loop-a l = Gathering (pool_of l.self.table.now) l.seeds l.limit l.members l.todo l.count l.weight

abbrev pub decreases-loop-a : goal.decreases-loop-a
decreases-loop-a l = capacity - l.count
