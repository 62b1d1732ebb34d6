use mathlib.Core.Bool.{◌&&◌}
use Rattle.txset.specs.Sets.{has_in}
use Rattle.slotsets.proofs.Words.{Upto}
use Rattle.pool_clusters.proofs.chosen.Given as goal

abbrev pub invariant-loop-j : goal.invariant-loop-j
invariant-loop-j l = Upto (λ i. has_in l.all i && has_in l.seeds i) l.j l.initial.set l.set
