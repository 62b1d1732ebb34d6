use borrow.Author.Rules.{rules}
use Rattle.pool_clusters.proofs.Words.{all_slots}
use Rattle.pool_clusters.proofs.Slots.of.Goals as goal

pub invariant_of-result : goal.invariant_of-result
invariant_of-result c =
    record { all_slots = all_slots c.args.table.now c.below-all.result c.slots.result c.requires c.slots.ensures (search rules) c.below-all.ensures }
