use mathlib.Core.Path.{refl}
use borrow.Author.Rules.{rules}
use Rattle.txset.specs.Sets.{words, mem}
use Rattle.txset.proofs.Sets.{words_fit}
use Rattle.txset.proofs.Words.{has_in_less}
use Rattle.txset.proofs.TxSet.subtract.Goals as goal

pub returns : goal.returns
unfolding mem
returns c = let s = c.args.self in
    let t = c.args.other in
    has_in_less (words s) (words t) refl (words_fit s (search rules)) (words_fit t (search rules))
