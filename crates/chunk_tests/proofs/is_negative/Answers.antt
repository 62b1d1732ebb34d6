-- `is_negative`. Assumes nothing.
use borrow.Author.Rules.{rules}
use Rattle.chunk_tests.specs.Tests.{is_negative}
use Rattle.chunk_tests.proofs.is_negative.Goals as goal

pub returns : goal.returns
unfolding is_negative
returns c = search rules
