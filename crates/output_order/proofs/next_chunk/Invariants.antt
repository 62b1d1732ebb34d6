use Rattle.output_order.specs.Rounds.{sum_above, covered}
use Rattle.output_order.proofs.Choices.{Found}
use Rattle.output_order.proofs.next_chunk.Given as goal

abbrev pub invariant-loop-k : goal.invariant-loop-k
invariant-loop-k l = Found (sum_above l.pieces) (covered l.pieces l.done) l.fn.left l.found l.k-iterator.rest
