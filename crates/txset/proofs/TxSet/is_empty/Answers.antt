use mathlib.Core.Bool.{and-true}
use mathlib.Core.Path.{sym, ◌∙◌}
use lib.Dec.{eqb}
use borrow.Author.Rules.{rules}
use Rattle.txset.specs.Sets.{words, mem, is_empty}
use Rattle.txset.proofs.Sets.{words_fit}
use Rattle.txset.proofs.Words.{none_words}
use Rattle.txset.proofs.TxSet.is_empty.Goals as goal

pub returns : goal.returns
unfolding is_empty mem
returns c = let s = c.args.self in
    sym (none_words (words s) (words_fit s (search rules)) ∙ and-true (eqb s.word 0))
