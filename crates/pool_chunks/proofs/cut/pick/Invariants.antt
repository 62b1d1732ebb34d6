use lib.ListN.{get_or}
use Rattle.pool_order.proofs.Filling.{Copied}
use Rattle.pool_chunks.proofs.cut.pick.Given as goal

abbrev pub invariant-loop-k : goal.invariant-loop-k
invariant-loop-k g l = (d : _) → Copied (λ i. get_or l.from i d) l.places l.initial.to l.to l.k
