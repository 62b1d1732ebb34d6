use lib.ListN.{get_or}
use Rattle.feefrac.specs.Rate.{zero_rate}
use Rattle.chunking.specs.Chunks.{alone}
use Rattle.chunking.proofs.Laws.{Outer, Inner}
use Rattle.chunking.proofs.stack_chunks.Given as goal

abbrev pub invariant-loop-count : goal.invariant-loop-count
invariant-loop-count g l = Inner l.stack l.initial.count l.i (alone (get_or g.rs l.i zero_rate)) l.count l.cur

abbrev pub decreases-loop-count : goal.decreases-loop-count
decreases-loop-count g l = l.count

abbrev pub invariant-loop-i : goal.invariant-loop-i
invariant-loop-i g l = Outer g.rs l.initial.stack l.stack l.count l.i
