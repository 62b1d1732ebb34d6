use Rattle.texts.proofs.Decimals.{Spelt}
use Rattle.texts.proofs.numerals.read_number.Given as goal

abbrev pub invariant-loop-b : goal.invariant-loop-b
invariant-loop-b l = Spelt l.text l.value l.b-index
