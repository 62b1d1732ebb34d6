use Rattle.pool_table.specs.Pool.{free}
use Rattle.pool_table.proofs.Changes.{row_none, freed}
use Rattle.pool_table.proofs.free_slot.Goals as goal

pub returns-in_default : goal.returns-in_default
returns-in_default c = row_none c.args.table.now c.args.s (λ x. free) c.in_default.ensures

pub returns : goal.returns
returns c =
    freed c.args.table.now c.fill.new.self c.args.s c.in-Some.ensures (c.fill.ensures.after (λ y e. e))
