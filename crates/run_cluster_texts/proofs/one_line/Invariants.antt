use Rattle.std.proofs.Common.{◌≡◌, length}
use Rattle.run_cluster_texts.proofs.one_line.Given as goal

abbrev pub invariant-loop-b : goal.invariant-loop-b
invariant-loop-b l = length l.out ≡ length l.initial.out
