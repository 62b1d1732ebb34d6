use borrow.Author.Tests.{le-leb, lt-leb}
use Rattle.txset.specs.Sets.{positions}
use Rattle.passes.specs.Pass.{forward_pass}
use Rattle.passes.proofs.forward_pass.Goals as goal

pub returns-then-order-gt-POSITIONS : goal.returns-then-order-gt-POSITIONS
returns-then-order-gt-POSITIONS c = rw (lt-leb _ positions c.if-order-gt-POSITIONS.true)

pub returns : goal.returns
unfolding forward_pass
returns c = rw (le-leb _ positions c.if-order-gt-POSITIONS.false) c.one_pass.ensures
