use mathlib.Core.Path.{sym, ap, ◌∙◌}
use mathlib.Core.Bool.{not}
use native.Mathlib.Omega.{arith}
use borrow.Author.Count.{below_none, below_more}
use Rattle.pool_rules.proofs.Finds.{lowest_here, lowest_none}
use Rattle.pool_rules.proofs.lowest_free.Goals as goal

pub loop-slot-init : goal.loop-slot-init
loop-slot-init c = below_none _

pub returns-then-not-is_occupied : goal.returns-then-not-is_occupied
returns-then-not-is_occupied c =
    lowest_here _ c.loop-slot.slot (omega arith) c.loop-slot.invariant (ap not (sym c.is_occupied.ensures ∙ c.if-not-is_occupied.true))

pub loop-slot-preserved : goal.loop-slot-preserved
loop-slot-preserved c =
    below_more _ c.loop-slot.slot c.loop-slot.invariant (ap not (sym c.is_occupied.ensures ∙ c.if-not-is_occupied.false))

pub returns : goal.returns
returns c = lowest_none _ c.loop-slot.slot (omega arith) c.loop-slot.invariant
