-- The sets so far with what is left of the walk are the sets that come out.
use Rattle.txset.proofs.Walk.{walk_turn, walk_end}
use Rattle.txset.proofs.Joins.{join_start, join_turn, join_done}
use Rattle.txset.proofs.TxSet.join.Goals as goal

pub loop-i-preserved : goal.loop-i-preserved
loop-i-preserved c =
    let turn = walk_turn _ _ _ c.in-Some.ensures.steps in
    join_turn c.union.result turn.left turn.first turn.next c.at-old.ensures c.union.ensures c.put.ensures c.loop-i.invariant

pub loop-i-init : goal.loop-i-init
loop-i-init c = rw (c.into_iter-i-iterator.ensures.into_iter_gives, c.iter-i-items.ensures) (join_start _ _ _)

pub returns : goal.returns
returns c = join_done (walk_end _ c.in-None.ensures.steps.0) c.loop-i.invariant
