use Prim.Native.Nat.{◌+◌, ◌≤◌}
use lib.ListN.{length, get_or}
use borrow.Author.Rules.{rules}
use Rattle.pool_chunks.proofs.Writing.{summing_start, summing_fits, summing_turn, summing_done}
use Rattle.pool_chunks.proofs.cut.put_rates.Goals as goal
use Rattle.pool_chunks.proofs.cut.put_rates.Goals.{In-loop-k}

pub loop-k-init : goal.loop-k-init
loop-k-init c = summing_start c.requires.lens_in_bounds_2 c.requires.lens_in_bounds_3

-- the next part lies within the order
within : (c : In-loop-k) → c.loop-k.from + get_or c.args.lens.now c.loop-k.k 0 ≤ length c.args.order.now
within c = summing_fits c.loop-k.invariant c.loop-k-test.true c.requires.lens_in_bounds

pub overflow_add-to : goal.overflow_add-to
overflow_add-to c = let h = within (goal.at.overflow_add-to c).In-loop-k in search rules

pub offset_bounds-order-from : goal.offset_bounds-order-from
offset_bounds-order-from c = let h = within (goal.at.offset_bounds-order-from c).In-loop-k in search rules

pub slice_bounds-list_feerate-end : goal.slice_bounds-list_feerate-end
slice_bounds-list_feerate-end c = within (goal.at.slice_bounds-list_feerate-end c).In-loop-k

pub loop-k-preserved : goal.loop-k-preserved
loop-k-preserved c =
    summing_turn c.loop-k.invariant c.loop-k-test.true _ _ _ c.list_feerate.ensures c.put.ensures.fees_after c.put.ensures.sizes_after

pub returns : goal.returns
returns c = let done = summing_done c.loop-k.invariant c.loop-k-test.false in record { fees_after = done.0; sizes_after = done.1 }
