use mathlib.Core.Bool.{◌&&◌}
use lib.Dec.{ltb}
use Rattle.slotsets.specs.SlotSets.{capacity}
use Rattle.slotsets.proofs.Words.{Upto}
use Rattle.slotsets.proofs.below.Given as goal

abbrev pub invariant-loop-j : goal.invariant-loop-j
invariant-loop-j l = Upto (λ i. ltb i capacity && ltb i l.n) l.j l.initial.all l.all
