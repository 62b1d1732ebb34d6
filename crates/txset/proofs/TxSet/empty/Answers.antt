use Rattle.txset.specs.Sets.{mem}
use Rattle.txset.proofs.Words.{has_in_zeros}
use Rattle.txset.proofs.TxSet.empty.Goals as goal

pub returns : goal.returns
unfolding mem
returns c = has_in_zeros 1
