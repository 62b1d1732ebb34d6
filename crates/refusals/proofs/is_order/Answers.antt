use mathlib.Core.Path.{sym, ◌∙◌}
use Rattle.refusals.proofs.Orders.{seen_none, seen_more, seen_outside, seen_twice, seen_all, too_many, another_length}
use Rattle.refusals.proofs.is_order.Goals as goal

pub loop-p-init : goal.loop-p-init
loop-p-init c = seen_none _ _ _ c.if-n-gt-POSITIONS.false c.if-order-n.false c.empty-seen.ensures

pub returns-then-n-p : goal.returns-then-n-p
returns-then-n-p c = seen_outside c.loop-p.invariant c.loop-p-test.true c.if-n-p.true

pub returns-then-contains : goal.returns-then-contains
returns-then-contains c = seen_twice c.loop-p.invariant c.loop-p-test.true c.if-n-p.false (sym c.contains.ensures ∙ c.if-contains.true)

pub loop-p-preserved : goal.loop-p-preserved
loop-p-preserved c = seen_more c.loop-p.invariant c.loop-p-test.true _ c.if-n-p.false
    (sym c.contains.ensures ∙ c.if-contains.false)
    c.insert-seen.ensures

pub returns-then-n-gt-POSITIONS : goal.returns-then-n-gt-POSITIONS
returns-then-n-gt-POSITIONS c = too_many _ _ c.if-n-gt-POSITIONS.true

pub returns-then-order-n : goal.returns-then-order-n
returns-then-order-n c = another_length _ _ c.if-order-n.true

pub returns : goal.returns
returns c = seen_all c.loop-p.invariant c.loop-p-test.false
