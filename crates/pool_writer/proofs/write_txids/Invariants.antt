use mathlib.Core.Path.{◌≡◌}
use lib.ListN.{length}
use Rattle.texts.specs.Writing.{joined}
use Rattle.texts.specs.Rooms.{Room}
use Rattle.texts.proofs.Numbers.{ItemsLeft}
use Rattle.pool_writer.specs.Texts.{slot_text}
use Rattle.pool_writer.proofs.write_txids.Given as goal

abbrev pub invariant-loop-k : goal.invariant-loop-k
invariant-loop-k l = (length l.out ≡ length l.initial.out) × (Room (joined (slot_text l.table) l.slots) l.from l.initial.out → ItemsLeft (slot_text l.table) l.slots l.k l.at l.from l.out l.initial.out)
