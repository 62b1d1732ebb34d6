-- `check_deltas`: one line after the other, of which the first, for a table that does not stand, is passed. Assumes nothing.
use mathlib.Core.Path.{◌≡◌, refl, sym, ap, ◌∙◌}
use mathlib.Core.List.{List}
use mathlib.Core.Bool.{true, not}
use borrow.Author.Tests.{eq-eqb, ne_eqb}
use lib.ListN.{length}
use Rattle.pool_table.specs.Pool.{slot_count}
use Rattle.pool_table.specs.Words.{pool_of}
use Rattle.refusals.specs.Refusals.{Line}
use Rattle.refusals.proofs.Lines.{Past, none_past, past, stop, all_past}
use Rattle.pool_chunks.specs.Sorted.{delta_refusals}
use Rattle.pool_chunks.proofs.deltas.check_deltas.Goals as goal
use Rattle.pool_chunks.proofs.deltas.check_deltas.Goals.{Start}

abbrev lines : Start → List Line
lines s = delta_refusals true s.args.table.now s.args.deltas.now

-- the tests that were passed
past_1 : (s : Start) → Past (lines s) 1
unfolding delta_refusals
past_1 s = past (none_past refl) refl

past_2 : (s : Start) → length s.args.deltas.now ≡ slot_count (pool_of s.args.table.now) → Past (lines s) 2
unfolding delta_refusals
past_2 s f = past (past_1 s) (ap not (eq-eqb _ _ f))

pub returns-then-deltas-slots : goal.returns-then-deltas-slots
unfolding delta_refusals
returns-then-deltas-slots c =
    sym (stop (past_1 (goal.at.returns-then-deltas-slots c).Start)
    (ap not (ne_eqb _ _ (λ e. c.if-deltas-slots.true (e ∙ sym c.slots.ensures))))).answer

pub returns-then-any_bad : goal.returns-then-any_bad
unfolding delta_refusals
returns-then-any_bad c =
    sym (stop
    (past_2 (goal.at.returns-then-any_bad c).Start (c.if-deltas-slots.false ∙ c.slots.ensures))
    (sym c.any_bad.ensures ∙ c.if-any_bad.true)).answer

pub returns : goal.returns
unfolding delta_refusals
returns c =
    sym (all_past
    (past
    (past_2 (goal.at.returns c).Start (c.if-deltas-slots.false ∙ c.slots.ensures))
    (sym c.any_bad.ensures ∙ c.if-any_bad.false))
    refl).answer
