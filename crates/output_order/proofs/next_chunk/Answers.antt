use native.Mathlib.Omega.{arith}
use mathlib.Core.Path.{sym, ◌∙◌}
use Prim.Native.Nat.{◌<◌}
use Rattle.txset.specs.Sets.{positions}
use Rattle.txset.proofs.Sets.{mem_position}
use Rattle.output_order.proofs.Choices.{found_stop, turn_all, found_skip, found_first, found_yields, found_keeps}
use Rattle.output_order.proofs.Rounds.{found_drop}
use Rattle.output_order.proofs.next_chunk.Goals as goal
use Rattle.output_order.proofs.next_chunk.Goals.{In-Some, In-Some-found}

-- there is a place for the one taken, and for what is found
place : (c : In-Some) → c.in-Some.k < positions
place c = mem_position c.args.left c.in-Some.k (turn_all c.loop-k.invariant _ c.in-Some.ensures.steps)

best_place : (c : In-Some-found) → c.in-Some-found.best < positions
best_place c = mem_position c.args.left c.in-Some-found.best (c.loop-k.invariant.has c.in-Some-found.best c.in-Some-found.is)

pub bounds-pieces-k : goal.bounds-pieces-k
bounds-pieces-k c = omega (arith, place (goal.at.bounds-pieces-k c).In-Some, c.requires.places)

pub offset_bounds-pieces-k : goal.offset_bounds-pieces-k
offset_bounds-pieces-k c = record { fits = omega (arith, place (goal.at.offset_bounds-pieces-k c).In-Some) }

pub bounds-pieces-k-in-loop-k : goal.bounds-pieces-k-in-loop-k
bounds-pieces-k-in-loop-k c = omega (arith, place (goal.at.bounds-pieces-k-in-loop-k c).In-Some, c.requires.places)

pub offset_bounds-pieces-k-in-loop-k : goal.offset_bounds-pieces-k-in-loop-k
offset_bounds-pieces-k-in-loop-k c = record { fits = omega (arith, place (goal.at.offset_bounds-pieces-k-in-loop-k c).In-Some) }

pub bounds-pieces-best : goal.bounds-pieces-best
bounds-pieces-best c = omega (arith, best_place (goal.at.bounds-pieces-best c).In-Some-found, c.requires.places)

pub offset_bounds-pieces-best : goal.offset_bounds-pieces-best
offset_bounds-pieces-best c = record { fits = omega (arith, best_place (goal.at.offset_bounds-pieces-best c).In-Some-found) }

pub loop-k-preserved-then-not-is_subset : goal.loop-k-preserved-then-not-is_subset
loop-k-preserved-then-not-is_subset c =
    found_skip c.loop-k.invariant _ c.in-Some.ensures.steps (sym c.is_subset.ensures ∙ c.if-not-is_subset.true)

pub loop-k-preserved-in_default : goal.loop-k-preserved-in_default
loop-k-preserved-in_default c =
    found_first c.loop-k.invariant _ c.in-Some.ensures.steps (sym c.is_subset.ensures ∙ c.if-not-is_subset.false) c.in_default.is

pub loop-k-preserved-then-chunk_above : goal.loop-k-preserved-then-chunk_above
loop-k-preserved-then-chunk_above c =
    found_yields c.loop-k.invariant _ c.in-Some.ensures.steps (sym c.is_subset.ensures ∙ c.if-not-is_subset.false) c.in-Some-found.is
    (sym c.chunk_above.ensures ∙ c.if-chunk_above.true)

pub loop-k-preserved : goal.loop-k-preserved
loop-k-preserved c =
    found_keeps c.loop-k.invariant _ c.in-Some.ensures.steps (sym c.is_subset.ensures ∙ c.if-not-is_subset.false) c.in-Some-found.is
    (sym c.chunk_above.ensures ∙ c.if-chunk_above.false)

-- what is found stands before a drop
pub returns-then-contains : goal.returns-then-contains
returns-then-contains c =
    found_drop _ _ _ c.loop-k.invariant c.requires.below c.in-Some.ensures.steps (sym c.is_some.ensures ∙ c.if-is_some.true)
    (sym c.contains.ensures ∙ c.if-contains.true)

pub returns : goal.returns
returns c = found_stop c.loop-k.invariant c.in-None.ensures.steps.0
