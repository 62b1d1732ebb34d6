use Rattle.texts.specs.Writing.{decimal}
use Rattle.texts.proofs.Numbers.{Measured}
use Rattle.texts.proofs.numerals.numbers_fit.Given as goal

abbrev pub invariant-loop-k : goal.invariant-loop-k
invariant-loop-k l = Measured decimal l.numbers l.most l.k l.left
