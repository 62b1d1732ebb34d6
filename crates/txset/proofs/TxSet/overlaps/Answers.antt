use mathlib.Core.Bool.{not}
use mathlib.Core.Path.{ap, ◌∙◌}
use Rattle.txset.proofs.Sets.{overlap_empty}
use Rattle.txset.proofs.TxSet.overlaps.Goals as goal

pub returns : goal.returns
returns c = let a = c.args in
    ap not c.is_empty.ensures ∙ overlap_empty a.self a.other c.intersection.result c.intersection.ensures
