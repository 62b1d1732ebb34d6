use Prim.Native.Nat.{◌-◌, ◌≤◌}
use mathlib.Core.Path.{◌≡◌}
use mathlib.Core.Bool.{false}
use lib.ListN.{length, take}
use Rattle.cluster_reader.specs.Calls.{is_decided}
use Rattle.cluster_run.proofs.read_input.Given as goal

abbrev pub invariant-loop-len : goal.invariant-loop-len
invariant-loop-len l = (l.len ≤ length l.text) × ((length l.text ≡ length l.initial.text) × (is_decided (take l.len l.text) ≡ false))

abbrev pub decreases-loop-len : goal.decreases-loop-len
decreases-loop-len l = length l.text - l.len
