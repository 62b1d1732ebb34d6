-- `collect_selected_with_ancestors`: parents by calls of itself, and then the slot. The measure is the slot's ancestor count. Assumes nothing.
use mathlib.Core.Path.{◌≡◌, refl, sym, ◌∙◌}
use mathlib.Core.List.{[]}
use mathlib.Core.Bool.{true, false}
use Prim.Native.Nat.{ℕ, ◌+◌, ◌≤◌, ◌<◌}
use native.Mathlib.Omega.{arith}
use lib.ListN.{get_or, length, length-set}
use borrow.Author.Rules.{rules}
use Rattle.txset.specs.Sets.{has_in, members, set_at}
use Rattle.slotsets.specs.SlotSets.{capacity}
use Rattle.pool_table.specs.Words.{pool_of}
use Rattle.pool_table.specs.Links.{is_parent}
use Rattle.pool_links.proofs.Mutual.{occupied_in}
use Rattle.template_rules.proofs.Ancestors.{ancestors, ancestors_fall, parent_occupied}
use Rattle.template.proofs.Collecting.{laid_sound, member_at, collect_none, climb_start, climb_within, climb_parent, climb_turn}
use Rattle.template.proofs.Collecting.{climb_few, climb_room, climb_done}
use Rattle.template.proofs.collect.+collect_selected_with_ancestors.Goals as goal
use Rattle.template.proofs.collect.+collect_selected_with_ancestors.Goals.{In-Some, In-None}

-- ---- nothing to do

pub returns-then-contains : goal.returns-then-contains
returns-then-contains t c = collect_none c.requires.selected c.args.s (sym c.contains.ensures ∙ c.if-contains.true)

pub offset_bounds-firsts-s : goal.offset_bounds-firsts-s
offset_bounds-firsts-s t c = omega (arith, occupied_in (pool_of c.args.table.now) c.args.s c.requires.s_value, c.requires.laid.few)

pub bounds-firsts-s : goal.bounds-firsts-s
bounds-firsts-s t c = omega (arith, occupied_in (pool_of c.args.table.now) c.args.s c.requires.s_value, c.requires.laid.wide)

-- ---- the parents

pub loop-j-init : goal.loop-j-init
loop-j-init t c =
    let all : c.into_iter-j-iterator.result.rest ≡ set_at c.args.ups.now c.args.s = cc in
    (rw all (climb_start c.requires.laid c.args.s c.requires.s_value c.requires.selected), refl)

-- in a turn: the next parent, which is one, stands in the arrays
module _ (t : ℕ) (c : In-Some t) where
  abbrev parent : ℕ
  parent = member_at c.args.members.now c.args.firsts.now c.args.s c.in-Some.j

  within : get_or c.args.firsts.now c.args.s 0 + c.in-Some.j < length c.args.members.now
  within = climb_within c.requires.laid c.args.s c.requires.s_value c.loop-j.invariant.0 c.in-Some.ensures.steps

  is_one : is_parent (pool_of c.args.table.now) c.args.s parent ≡ true
  is_one = climb_parent c.requires.laid c.args.s c.requires.s_value c.loop-j.invariant.0 c.in-Some.ensures.steps

pub overflow_add-parent : goal.overflow_add-parent
overflow_add-parent t c = let inside = within t (goal.at.overflow_add-parent t c).In-Some in search rules

pub offset_bounds-members-first : goal.offset_bounds-members-first
offset_bounds-members-first t c = let inside = within t (goal.at.offset_bounds-members-first t c).In-Some in search rules

pub bounds-members-first : goal.bounds-members-first
bounds-members-first t c = within t (goal.at.bounds-members-first t c).In-Some

pub collect_selected_with_ancestors-end-requires : goal.collect_selected_with_ancestors-end-requires
collect_selected_with_ancestors-end-requires t c = let l = (goal.at.collect_selected_with_ancestors-end-requires t c).In-Some in
    let p = pool_of c.args.table.now in
    let laid = c.requires.laid in
    let fewer : ancestors p (parent t l) < t =
    omega (arith, c.decreases, ancestors_fall p (laid_sound laid) c.args.s (parent t l) (is_one t l)) in
    let held = parent_occupied p (laid_sound laid) laid.few c.args.s (parent t l) (is_one t l) in
    (fewer, (laid, (c.loop-j.invariant.0.held, held)))

pub loop-j-preserved : goal.loop-j-preserved
loop-j-preserved t c = let collected = c.collect_selected_with_ancestors-end in (
  climb_turn c.requires.laid c.args.s c.requires.s_value c.loop-j.invariant.0 c.in-Some.ensures.steps collected.ensures,
  collected.auto.picked ∙ c.loop-j.invariant.1,
)

-- ---- the slot itself, behind them

module _ (t : ℕ) (c : In-None t) where
  over : members c.loop-j.j-iterator.rest ≡ []
  over = c.in-None.ensures.steps.0

  new : has_in c.args.taken.now c.args.s ≡ false
  new = sym c.contains.ensures ∙ c.if-contains.false

  -- there is a place for it, behind what was selected
  room : (c.loop-j.end < length c.loop-j.picked) × (c.args.n ≤ c.loop-j.end) × (c.loop-j.end < capacity)
  room = (
    climb_room c.requires.laid c.args.s c.requires.s_value c.loop-j.invariant.0 over c.requires.selected new,
    omega (arith, c.loop-j.invariant.0.grows, c.requires.selected.count),
    omega (
      arith,
      climb_few c.requires.laid c.args.s c.requires.s_value c.loop-j.invariant.0 over c.requires.selected new,
      c.requires.laid.few,
    ),
  )

pub overflow_add-result : goal.overflow_add-result
overflow_add-result t c = omega (arith, room t (goal.at.overflow_add-result t c).In-None)

pub shape_of-taken : goal.shape_of-taken
shape_of-taken t c = c.insert.ensures.set_len_unchanged ∙ c.loop-j.invariant.0.held.words ∙ sym c.requires.selected.words

pub shape_of-picked : goal.shape_of-picked
shape_of-picked t c = simp length-set c.loop-j.invariant.1

pub returns : goal.returns
returns t c = let l = (goal.at.returns t c).In-None in
    climb_done c.requires.laid c.args.s c.requires.s_value c.loop-j.invariant.0 (over t l) c.requires.selected (new t l)
    c.insert.new.set c.insert.ensures.set_len_unchanged c.insert.ensures.by_index

pub offset_bounds-picked-end : goal.offset_bounds-picked-end
offset_bounds-picked-end t c = omega (arith, room t (goal.at.offset_bounds-picked-end t c).In-None)

pub bounds-picked-end : goal.bounds-picked-end
bounds-picked-end t c = omega (arith, room t (goal.at.bounds-picked-end t c).In-None)
