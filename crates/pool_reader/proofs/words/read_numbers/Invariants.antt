use Rattle.pool_reader.proofs.Reading.{Counted}
use Rattle.pool_reader.proofs.words.read_numbers.Given as goal

abbrev pub invariant-loop-value : goal.invariant-loop-value
invariant-loop-value g l = Counted l.text l.from g.row.N l.value-items l.at l.value-index
