use mathlib.Core.Path.{sym, ◌∙◌}
use native.Mathlib.Omega.{arith}
use borrow.Author.Count.{below_none, below_more}
use Rattle.pool_rules.proofs.Finds.{found_here, found_nowhere}
use Rattle.pool_rules.proofs.find.Goals as goal

pub loop-s-init : goal.loop-s-init
loop-s-init c = below_none _

pub returns-then-holds : goal.returns-then-holds
returns-then-holds c =
    found_here _ _ c.loop-s.s (omega arith) c.loop-s.invariant (sym c.holds.ensures ∙ c.if-holds.true)

pub loop-s-preserved : goal.loop-s-preserved
loop-s-preserved c = below_more _ c.loop-s.s c.loop-s.invariant (sym c.holds.ensures ∙ c.if-holds.false)

pub returns : goal.returns
returns c = found_nowhere _ _ c.loop-s.s (omega arith) c.loop-s.invariant
