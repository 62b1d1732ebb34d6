use Rattle.cluster_reader.proofs.Reading.{Taken}
use Rattle.cluster_reader.proofs.read_members.Given as goal

abbrev pub invariant-loop-i : goal.invariant-loop-i
invariant-loop-i l = Taken l.n l.text l.from l.new_fees l.new_sizes l.new_parents l.at l.i
