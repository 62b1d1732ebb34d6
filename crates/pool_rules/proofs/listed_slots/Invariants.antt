use mathlib.Core.Path.{◌≡◌}
use Rattle.slotsets.specs.SlotSets.{set_of}
use Rattle.pool_table.specs.Words.{pool_of}
use Rattle.pool_rules.proofs.Listed.{among}
use Rattle.pool_rules.proofs.listed_slots.Given as goal

abbrev pub invariant-loop-j : goal.invariant-loop-j
invariant-loop-j l = l.set ≡ set_of (among (pool_of l.table) l.own l.listed l.j)
