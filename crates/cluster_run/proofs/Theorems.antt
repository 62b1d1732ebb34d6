-- For readers: where the program stops reading for another reason than the input's end, or that a read failed, whatever stands behind
-- changes nothing. No proof of a function cites this. Assumes nothing.
use Prim.Native.Nat.{ℕ, ◌<◌}
use native.Mathlib.Omega.{arith}
use mathlib.Core.Path.{◌≡◌}
use mathlib.Core.List.{List, ◌++◌}
use lib.ListN.{length, take}
use lib.Seq.{length-take-le}
use Rattle.cluster_reader.specs.Lines.{longest_text}
use Rattle.cluster_respond.specs.Program.{response}
use Rattle.cluster_respond.proofs.Theorems.{full_responds, decided_responds}
use Rattle.cluster_run.specs.declared.Stop.TheVariants as stop
use Rattle.cluster_run.specs.Stops.{Stopped}

module _ (room : List ℕ) (n : ℕ) (rest : List ℕ) where
  -- the room is full, and longer than any text of the right form
  pub full_enough : longest_text < length room → Stopped room (stop.Full n) → response (take n room ++ rest) ≡ response (take n room)
  full_enough l e = full_responds (take n room) rest (omega (arith, length-take-le n room (omega arith)))

  -- what was read decides
  pub decided_enough : Stopped room (stop.Decided n) → response (take n room ++ rest) ≡ response (take n room)
  decided_enough h = decided_responds (take n room) rest h.1
