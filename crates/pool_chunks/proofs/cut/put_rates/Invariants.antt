use Rattle.pool_chunks.proofs.Writing.{Summing}
use Rattle.pool_chunks.proofs.cut.put_rates.Given as goal

abbrev pub invariant-loop-k : goal.invariant-loop-k
invariant-loop-k l = Summing l.in_fees l.in_sizes l.order l.lens l.initial.fees l.fees l.initial.sizes l.sizes l.from l.k
