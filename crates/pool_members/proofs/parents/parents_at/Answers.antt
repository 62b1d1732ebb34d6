-- `parents_at`: the places that were put, and those of the parents that are left, are all. Assumes nothing.
use mathlib.Core.Path.{sym, ap, ◌∙◌}
use mathlib.Core.Bool.{Bool, ◌&&◌}
use borrow.Author.Rules.{rules}
use Rattle.lists.proofs.Bools.{and_left}
use Rattle.txset.specs.Sets.{mem, is_position, positions}
use Rattle.pool_members.proofs.Ranks.{rank_ext, ranking_start, ranking_done, ranking_turn, lowest_here, lowest_less}
use Rattle.pool_members.proofs.parents.parents_at.Goals as goal

pub loop-a-init : goal.loop-a-init
loop-a-init c =
    ((search rules), (λ i e. c.requires i (sym (c.parent_slots-left.ensures i) ∙ e)), ranking_start positions _ _ _ c.empty-set.ensures)

pub bounds-places-a : goal.bounds-places-a
bounds-places-a c = c.loop-a.invariant.1 c.in-Some.a (lowest_here _ _ c.in-Some.ensures)

pub loop-a-smaller : goal.loop-a-smaller
loop-a-smaller c = lowest_less _ _ _ c.in-Some.ensures c.remove.ensures.by_index

pub loop-a-preserved : goal.loop-a-preserved
loop-a-preserved c =
    let inv = c.loop-a.invariant in (
      c.remove.ensures.set_len_unchanged ∙ inv.0,
      λ i e. inv.1 i (and_left _ _ (sym (c.remove.ensures.by_index i) ∙ e)),
      ranking_turn inv.2 c.in-Some.a c.in-Some.ensures c.remove.new.set c.remove.ensures.by_index (mem c.insert-set.result) c.insert-set.ensures,
    )

pub returns : goal.returns
returns c i =
    ranking_done c.loop-a.invariant.2 c.in_default.ensures i
    ∙ ap (λ (b : Bool). is_position i && b) (rank_ext _ _ _ i c.parent_slots-left.ensures)
