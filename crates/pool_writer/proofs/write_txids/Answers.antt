use mathlib.Core.Path.{refl, ◌∙◌}
use Rattle.texts.proofs.Numbers.{items_start, item_wrote, items_done}
use Rattle.pool_writer.proofs.write_txids.Goals as goal

pub loop-k-init : goal.loop-k-init
loop-k-init c = (refl, λ r. items_start refl r)

pub loop-k-preserved : goal.loop-k-preserved
loop-k-preserved c =
    let inv = c.loop-k.invariant in
    (c.next_txid-at.auto.out ∙ inv.0, λ r. item_wrote (inv.1 r) c.loop-k-test.true c.next_txid-at.ensures)

pub shape_of-out : goal.shape_of-out
shape_of-out c = c.loop-k.invariant.0

pub returns : goal.returns
returns c r = items_done (c.loop-k.invariant.1 r) c.loop-k-test.false
