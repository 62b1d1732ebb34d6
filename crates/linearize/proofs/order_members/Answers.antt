use Rattle.linearize.proofs.Order.{steps}
use Rattle.linearize.proofs.order_members.Goals as goal

pub returns : goal.returns
returns c = let h =
    steps _ _ _ _ _ _ c.requires _ _ _ _ _ c.ancestor_order.ensures.order_after c.back_pass.ensures c.forward_pass.ensures
    c.output_order.ensures.value c.output_order.ensures.room_after in
    record { value = h.0; room_after = h.1 }
