use Rattle.std.proofs.Common.{arith}
use Rattle.wide.proofs.Quotient.{carry, no_carry}
use Rattle.wide.proofs.plus.Goals as goal

pub returns-then-size-rest : goal.returns-then-size-rest
returns-then-size-rest c = let pre = c.requires in omega (arith, carry pre.rest_lt_size pre.part_lt_size c.if-size-rest.true)

pub returns : goal.returns
returns c = let pre = c.requires in omega (arith, no_carry pre.rest_lt_size pre.part_lt_size c.if-size-rest.false)
