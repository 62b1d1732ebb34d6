use borrow.Author.Tests.{lt-ltb, le-ltb}
use Rattle.texts.specs.Hex.{hex_digit}
use Rattle.texts.proofs.hex.digit.Goals as goal

pub returns-then-value-lt10 : goal.returns-then-value-lt10
unfolding hex_digit
returns-then-value-lt10 c = rw (lt-ltb c.args.value 10 c.if-value-lt10.true)

pub returns : goal.returns
unfolding hex_digit
returns c = rw (le-ltb c.args.value 10 c.if-value-lt10.false)
