use Rattle.depgraph.proofs.Closure.{left_all, left_min, left_placed}
use Rattle.depgraph.proofs.places.Goals as goal

-- those that have a position, a set in the first table and one in the second
pub returns : goal.returns
returns c = left_placed _ _ _ (left_min _ c.min-3.ensures (left_min _ c.min-2.ensures (left_min _ c.min.ensures (left_all _))))
