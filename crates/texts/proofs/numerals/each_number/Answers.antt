use native.Mathlib.Omega.{arith}
use Rattle.texts.proofs.Numbers.{items_start, item_wrote, items_done}
use Rattle.texts.proofs.numerals.each_number.Goals as goal

pub loop-done-init : goal.loop-done-init
loop-done-init c = items_start (omega arith) c.requires

pub loop-done-preserved : goal.loop-done-preserved
loop-done-preserved c = let turn = c.before.before.before.before.before in
    item_wrote turn.loop-done.invariant turn.loop-done-test.true c.write_item-at.ensures

pub shape_of-out : goal.shape_of-out
shape_of-out c = c.loop-done.invariant.left.long

pub returns : goal.returns
returns c = items_done c.loop-done.invariant c.loop-done-test.false
