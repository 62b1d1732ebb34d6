use Rattle.pool_run.proofs.Steps.{line_done}
use Rattle.pool_run.proofs.Desk.respond.Goals as goal

pub returns-clause-responded : goal.returns-clause-responded
returns-clause-responded c = λ input st. line_done st c.number-number.ensures c.step.ensures
