use Rattle.texts.specs.Writing.{decimal}
use Rattle.texts.proofs.Numbers.{ItemsLeft}
use Rattle.texts.proofs.numerals.each_number.Given as goal

abbrev pub invariant-loop-done : goal.invariant-loop-done
invariant-loop-done l = ItemsLeft decimal l.numbers l.done l.at l.from l.out l.initial.out
