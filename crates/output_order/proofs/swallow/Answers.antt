use native.Mathlib.Omega.{arith}
use mathlib.Core.Path.{◌≡◌, refl, sym, ◌∙◌}
use Prim.Native.Nat.{◌+◌, ◌-◌}
use Rattle.output_order.proofs.Cutting.{grow_start, grow_turn, stopped_empty, stopped_top}
use Rattle.output_order.proofs.swallow.Goals as goal

pub returns-then-not-higher_rate : goal.returns-then-not-higher_rate
returns-then-not-higher_rate c =
    let z : c.loop-at.at - 1 + 1 ≡ c.loop-at.at = omega (arith, c.loop-at-test.true) in
    rw z (stopped_top c.loop-at.invariant (c.loop-at.at - 1) c.loop-at-test.true refl (sym c.higher_rate.ensures ∙ c.if-not-higher_rate.true))

pub loop-at-preserved : goal.loop-at-preserved
loop-at-preserved c =
    grow_turn c.loop-at.invariant (c.loop-at.at - 1) c.loop-at-test.true refl
    (sym c.higher_rate.ensures ∙ c.if-not-higher_rate.false)
    _ _ c.union.result _ _
    c.add.ensures c.union-set.ensures c.union.ensures c.subtract-outside.ensures c.max.ensures

pub returns : goal.returns
returns c =
    let z : c.loop-at.at ≡ 0 = omega (arith, c.loop-at-test.false) in
    rw z at (stopped_empty c.loop-at.invariant c.loop-at-test.false)

pub loop-at-init : goal.loop-at-init
loop-at-init c = grow_start _ _
