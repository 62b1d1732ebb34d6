-- `pick`: the first k are written. Assumes nothing.
use mathlib.Core.Path.{refl}
use Rattle.std.proofs.lemmas.List.{get_or_read}
use Rattle.pool_order.proofs.Filling.{copied_start, copied_done}
use Rattle.pool_chunks.proofs.Writing.{copied_put}
use Rattle.pool_chunks.proofs.cut.pick.Goals as goal

pub loop-k-init : goal.loop-k-init
loop-k-init g c = λ d. copied_start _ c.requires.places_in_bounds

pub loop-k-preserved : goal.loop-k-preserved
loop-k-preserved g c =
    λ d.
    copied_put (c.loop-k.invariant d) 0 c.loop-k-test.true
    (get_or_read _ _ _ (c.requires.by_index _ c.loop-k-test.true) c.index-from-i.is d) refl

pub returns : goal.returns
returns g c = λ d. copied_done (c.loop-k.invariant d) c.loop-k-test.false
