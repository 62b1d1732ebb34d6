-- The sets so far with what is left of the walk are the sets that come out.
use Prim.Native.Nat.{◌<◌}
use lib.ListN.{length}
use native.Mathlib.Omega.{arith}
use Rattle.txset.specs.Sets.{set_at, put_at}
use Rattle.txset.proofs.Walk.{Turn, walk_turn, walk_end}
use Rattle.txset.proofs.Joins.{join_done}
use Rattle.depgraph.proofs.Closure.{joins_start, next_within, next_position, joins_turn}
use Rattle.depgraph.proofs.join.Goals as goal
use Rattle.depgraph.proofs.join.Goals.{In-Some}

-- the next of the walk, and what is left of it then
turn : (c : In-Some) → Turn c.loop-i.i-iterator.rest c.next.new.self.rest c.in-Some.i
turn c = walk_turn _ _ _ c.in-Some.ensures.steps

-- it has a set
has_set : (c : In-Some) → c.in-Some.i < length c.loop-i.sets
has_set c = next_within (turn c).left (turn c).first c.loop-i.invariant

pub loop-i-init : goal.loop-i-init
loop-i-init c = rw (c.into_iter-i-iterator.ensures.into_iter_gives, c.iter-i-items.ensures) (joins_start _ _ _ c.requires)

pub offset_bounds-sets-i : goal.offset_bounds-sets-i
offset_bounds-sets-i c = record { fits = omega (arith, next_position _ (turn c).left (turn c).first) }

pub offset_bounds-sets-i-in-loop-i : goal.offset_bounds-sets-i-in-loop-i
offset_bounds-sets-i-in-loop-i c = offset_bounds-sets-i (goal.at.offset_bounds-sets-i-in-loop-i c).In-Some

pub bounds-sets-i : goal.bounds-sets-i
bounds-sets-i c = has_set (goal.at.bounds-sets-i c).In-Some

pub bounds-sets-i-in-loop-i : goal.bounds-sets-i-in-loop-i
bounds-sets-i-in-loop-i c = has_set (goal.at.bounds-sets-i-in-loop-i c).In-Some

pub loop-i-preserved : goal.loop-i-preserved
unfolding set_at put_at
loop-i-preserved c =
    let t = turn (goal.at.loop-i-preserved c).In-Some in
    joins_turn c.union-new.result t.left t.first t.next c.union-new.ensures c.loop-i.invariant

pub returns : goal.returns
returns c = join_done (walk_end _ c.in-None.ensures.steps.0) c.loop-i.invariant.joining
