use native.Mathlib.Omega.{arith}
use mathlib.Core.Path.{sym}
use lib.Seq.{length-take-le}
use Rattle.pool_chunks.proofs.Ordered.{calls_cut}
use Rattle.pool_chunks.proofs.cut.order_cluster.Goals as goal

pub slice_bounds-order_lengths-end-2 : goal.slice_bounds-order_lengths-end-2
slice_bounds-order_lengths-end-2 c = sym (length-take-le _ _ (omega (arith, c.linearize.auto.room, c.requires.wide)))

pub returns : goal.returns
returns c = let told = c.order_lengths.ensures in
    let cut = calls_cut c.requires c.linearize.ensures.room_after told.value told.lens_after in
    record { value = cut.0; order_after = cut.1.0; lens_after = cut.1.1 }
