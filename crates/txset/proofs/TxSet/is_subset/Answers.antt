use mathlib.Core.Path.{◌∙◌}
use Rattle.txset.proofs.Sets.{subset_empty}
use Rattle.txset.proofs.TxSet.is_subset.Goals as goal

pub returns : goal.returns
returns c = let a = c.args in
    c.is_empty.ensures ∙ subset_empty a.self a.other c.subtract.result c.subtract.ensures
