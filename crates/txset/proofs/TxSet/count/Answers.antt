use mathlib.Core.Path.{sym, ◌∙◌}
use native.Mathlib.Nat.{add-zero}
use native.Mathlib.Omega.{arith}
use lib.Count.{ones, ones-le}
use borrow.Author.Rules.{rules}
use Rattle.txset.specs.Sets.{words, mem, size}
use Rattle.txset.proofs.Sets.{words_fit}
use Rattle.txset.proofs.Words.{count_words}
use Rattle.txset.proofs.TxSet.count.Goals as goal

pub overflow_cast-result : goal.overflow_cast-result
overflow_cast-result c = omega (arith, ones-le 64 c.args.self.word (search rules))

pub returns : goal.returns
unfolding size mem
returns c = let s = c.args.self in
    sym (count_words (words s) (words_fit s (search rules)) ∙ add-zero (ones s.word))
