-- `over_sigops`: the reserve goes off the limit first. Assumes nothing.
use mathlib.Core.Path.{◌∙◌}
use Rattle.chunk_tests.proofs.Limits.{sigops_first, sigops_rest}
use Rattle.chunk_tests.proofs.over_sigops.Goals as goal

pub returns : goal.returns
returns c = c.exceeds.ensures ∙ sigops_rest _ _ _ c.if-reserve-gt-MAX_BLOCK_SIGOPS_COST.false

pub returns-then-reserve-gt-MAX_BLOCK_SIGOPS_COST : goal.returns-then-reserve-gt-MAX_BLOCK_SIGOPS_COST
returns-then-reserve-gt-MAX_BLOCK_SIGOPS_COST c = sigops_first _ _ _ c.if-reserve-gt-MAX_BLOCK_SIGOPS_COST.true
