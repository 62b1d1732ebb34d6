use native.Mathlib.Omega.{arith}
use Rattle.output_order.proofs.Cutting.{cut_start, cut_turn, cut_done}
use Rattle.output_order.proofs.Cluster.cut.Goals as goal

pub loop-t-init : goal.loop-t-init
loop-t-init c = cut_start c.requires.places

pub loop-t-preserved : goal.loop-t-preserved
loop-t-preserved c = let pre = c.requires in
    cut_turn c.loop-t.invariant c.alone-one.ensures c.swallow-at.ensures c.loop-t-test.true (omega (arith, pre.all.few, pre.order_in_bounds))

pub returns : goal.returns
returns c = let pre = c.requires in
    cut_done c.loop-t.invariant c.loop-t-test.false (omega (arith, pre.all.few, pre.order_in_bounds))
