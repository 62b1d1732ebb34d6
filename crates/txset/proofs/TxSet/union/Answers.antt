use mathlib.Core.Path.{refl}
use Rattle.txset.specs.Sets.{words, mem}
use Rattle.txset.proofs.Words.{has_in_or}
use Rattle.txset.proofs.TxSet.union.Goals as goal

pub returns : goal.returns
unfolding mem
returns c = has_in_or (words c.args.self) (words c.args.other) refl
