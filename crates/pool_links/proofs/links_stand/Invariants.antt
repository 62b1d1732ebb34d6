use Prim.Native.Nat.{◌-◌, ◌≤◌}
use lib.ListN.{take}
use Rattle.slotsets.specs.SlotSets.{capacity}
use Rattle.pool_table.specs.Words.{pool_of}
use Rattle.pool_links.specs.Steps.{of_done, Walk}
use Rattle.pool_links.proofs.links_stand.Given as goal

abbrev pub invariant-loop-at : goal.invariant-loop-at
invariant-loop-at l = (l.at ≤ l.queue.end) × Walk (pool_of l.table) (of_done (pool_of l.table) (take l.at l.queue.slots)) l.queue.needs l.queue.slots l.queue.end

abbrev pub decreases-loop-at : goal.decreases-loop-at
decreases-loop-at l = capacity - l.at
