-- `exceeds`: the sum is never made. Assumes nothing.
use Rattle.chunk_tests.proofs.Limits.{budget_first, budget_rest}
use Rattle.chunk_tests.proofs.exceeds.Goals as goal

pub returns-then-limit-a : goal.returns-then-limit-a
returns-then-limit-a c = budget_first _ _ _ c.if-limit-a.true

pub returns : goal.returns
returns c = budget_rest _ _ _ c.if-limit-a.false
