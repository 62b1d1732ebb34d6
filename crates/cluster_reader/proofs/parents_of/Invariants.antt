use Prim.Native.Nat.{◌-◌}
use lib.ListN.{length}
use Rattle.cluster_reader.proofs.Named.{Named}
use Rattle.cluster_reader.proofs.parents_of.Given as goal

abbrev pub invariant-loop-p : goal.invariant-loop-p
invariant-loop-p l = Named l.text l.set l.from

abbrev pub decreases-loop-p : goal.decreases-loop-p
decreases-loop-p l = length l.text - l.from
