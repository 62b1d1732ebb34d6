use Rattle.output_order.specs.Steps.{Growing}
use Rattle.output_order.proofs.swallow.Given as goal

abbrev pub invariant-loop-at : goal.invariant-loop-at
invariant-loop-at l = Growing l.pieces l.initial.cur l.fn.count l.cur l.at
