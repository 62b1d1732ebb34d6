use Rattle.std.proofs.Common.{sym}
use Rattle.wide.proofs.Quotient.{past, below}
use Rattle.wide.proofs.sum_below.Goals as goal

pub returns-then-size-rest : goal.returns-then-size-rest
returns-then-size-rest c = sym (past c.requires.rest_lt_size c.requires.part_lt_size c.if-size-rest.true)

pub returns : goal.returns
returns c = sym (below c.requires.rest_lt_size c.requires.part_lt_size c.if-size-rest.false)
