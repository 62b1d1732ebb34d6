use mathlib.Core.Path.{◌≡◌}
use native.Mathlib.Omega.{arith}
use Rattle.depgraph.proofs.Closure.{within_up, within_down, joined_as, close_start, close_turn}
use Rattle.depgraph.proofs.close.Goals as goal

pub loop-k-init : goal.loop-k-init
loop-k-init c = close_start _ _

-- at a turn the sets hold some relation, so each of a row has a set
pub join-requires : goal.join-requires
join-requires c =
    within_up (c.loop-k.invariant.holds c.requires.0 c.requires.1) c.loop-k.k c.gaining.result c.gaining.ensures.by_index_2
    c.at-below.ensures

pub join-requires-in-loop-k : goal.join-requires-in-loop-k
join-requires-in-loop-k c =
    within_down (c.loop-k.invariant.holds c.requires.0 c.requires.1) c.loop-k.k c.gaining-in-loop-k.result
    c.gaining-in-loop-k.ensures.by_index_2 c.at-above.ensures

pub loop-k-preserved : goal.loop-k-preserved
loop-k-preserved c =
    close_turn
    c.loop-k.k
    c.at-above.result
    c.at-below.result
    c.at-above.ensures
    c.at-below.ensures
    (joined_as c.join.ensures c.gaining.ensures.by_index)
    (joined_as c.join-in-loop-k.ensures c.gaining-in-loop-k.ensures.by_index)
    c.loop-k.invariant

pub returns : goal.returns
returns c = let e : c.loop-k.k ≡ c.args.n = omega arith in rw e at c.loop-k.invariant.holds
