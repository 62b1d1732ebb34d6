-- `any_bad`: no delta passed is bad. Assumes nothing.
use mathlib.Core.Path.{sym, ap, ◌∙◌}
use native.Mathlib.Omega.{arith}
use mir.Syntax.{w64}
use mir.ValLaws.{to_z-of_z}
use borrow.Author.Rules.{rules}
use Rattle.pool_chunks.specs.Sorted.{delta_in_range}
use Rattle.pool_chunks.proofs.InRange.{fine_bad, fine_done}
use Rattle.pool_chunks.proofs.deltas.any_bad.Goals as goal

pub returns-then-not-delta_in_range : goal.returns-then-not-delta_in_range
returns-then-not-delta_in_range c =
    fine_bad _ _ (omega arith) (sym c.is_occupied.ensures ∙ c.if-is_occupied.true)
    (sym (c.delta_in_range.ensures ∙ ap delta_in_range (to_z-of_z w64 _ (search rules))) ∙ c.if-not-delta_in_range.true)

pub returns : goal.returns
returns c = fine_done c.loop-s.invariant (omega arith)
