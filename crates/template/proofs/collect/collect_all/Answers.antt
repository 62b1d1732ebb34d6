-- `collect_all`: the slots passed are selected, each behind its ancestors. Assumes nothing.
use mathlib.Core.Path.{refl, sym, ◌∙◌}
use lib.ListN.{get_or}
use Rattle.lists.proofs.Lists.{elem_at}
use Rattle.template.proofs.Collecting.{gather_start, gather_turn, gather_done}
use Rattle.template.proofs.collect.collect_all.Goals as goal

pub loop-slot-init : goal.loop-slot-init
loop-slot-init c = (gather_start c.args.slots.now c.requires.selected, refl)

pub collect_selected_with_ancestors-end-requires : goal.collect_selected_with_ancestors-end-requires
collect_selected_with_ancestors-end-requires c = let slots = c.args.slots.now in record {
  laid = c.requires.laid;
  selected = c.loop-slot.invariant.0.held;
  s_value = c.requires.occupied (get_or slots c.loop-slot.slot-index 0) (elem_at slots c.loop-slot.slot-index c.loop-slot-test.true);
}

pub loop-slot-preserved : goal.loop-slot-preserved
loop-slot-preserved c = let collected = c.collect_selected_with_ancestors-end in (
  gather_turn c.loop-slot.invariant.0 c.loop-slot-test.true collected.ensures,
  collected.auto.picked ∙ c.loop-slot.invariant.1,
)

pub shape_of-taken : goal.shape_of-taken
shape_of-taken c = c.loop-slot.invariant.0.held.words ∙ sym c.requires.selected.words

pub shape_of-picked : goal.shape_of-picked
shape_of-picked c = c.loop-slot.invariant.1

pub returns : goal.returns
returns c = gather_done c.loop-slot.invariant.0 c.loop-slot-test.false
