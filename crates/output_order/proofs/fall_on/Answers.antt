use mathlib.Core.Path.{sym, ◌∙◌}
use Rattle.output_order.proofs.Falling.{falls_below, falls_level}
use Rattle.output_order.proofs.fall_on.Goals as goal

pub returns-then-higher_rate : goal.returns-then-higher_rate
returns-then-higher_rate c =
    rw c.in_ok-last.was (falls_below _ _ _ c.if-rate-eq0.false (sym c.higher_rate.ensures ∙ c.if-higher_rate.true) _ c.insert.ensures)

pub returns : goal.returns
returns c = rw c.in_ok-last.was (falls_level _ _ _ c.if-rate-eq0.false (sym c.higher_rate-2.ensures ∙ c.if-higher_rate-2.false))
