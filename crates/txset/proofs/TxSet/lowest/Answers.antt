use mathlib.Core.Path.{sym, ◌∙◌}
use native.Mathlib.Omega.{arith}
use lib.Count.{trailing_le}
use borrow.Author.Rules.{rules}
use Rattle.txset.specs.Sets.{words, mem, lowest_of}
use Rattle.txset.proofs.Sets.{words_fit}
use Rattle.txset.proofs.Words.{first_words, first_last}
use Rattle.txset.proofs.TxSet.lowest.Goals as goal

pub overflow_cast-result : goal.overflow_cast-result
overflow_cast-result c = omega (arith, trailing_le 64 c.args.self.word)

pub returns : goal.returns
unfolding lowest_of mem
returns c = let s = c.args.self in
    sym (first_words (words s) (words_fit s (search rules)) ∙ first_last s.word)
