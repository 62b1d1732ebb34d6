use Rattle.pool_chunks.proofs.InRange.{delta_then, delta_else}
use Rattle.pool_chunks.proofs.deltas.delta_in_range.Goals as goal

pub returns-then-delta : goal.returns-then-delta
returns-then-delta c = delta_then c.args.delta c.ranges.delta c.if-delta.true

pub returns-else-delta : goal.returns-else-delta
returns-else-delta c = delta_else c.args.delta c.ranges.delta c.if-delta.false
