-- `try_chunk`: the seven tests one after the other, and what is selected where none stops. Assumes nothing.
use mathlib.Core.Path.{◌≡◌, refl, sym, ap, ap₂, ◌∙◌, subst}
use mathlib.Core.List.{List, []}
use mathlib.Core.Bool.{Bool, false}
use Prim.Native.Nat.{ℕ, ◌+◌, ◌-◌, ◌≤◌}
use native.Mathlib.Omega.{arith}
use lib.ListN.{length, take, drop}
use borrow.Author.Tests.{ltb-false}
use Rattle.lists.specs.Lists.{any_of}
use Rattle.refusals.specs.Refusals.{Line}
use Rattle.refusals.proofs.Lines.{Past, none_past, past, stop, all_past}
use Rattle.slotsets.specs.SlotSets.{capacity}
use Rattle.chunk_tests.specs.Tests.{is_negative, is_below, over_budget, over_sigops}
use Rattle.pool_table.specs.Pool.{Pool}
use Rattle.pool_table.specs.Words.{pool_of}
use Rattle.template_rules.specs.declared.Reason.TheVariants.{NegativeFee, BelowMinimum, Withheld, NothingUnselected}
use Rattle.template_rules.specs.declared.Reason.TheVariants.{WithheldAncestor, OverBudget, OverSigops}
use Rattle.template_rules.specs.Filling.{settings, withheld, addition, raw_sum, cost_sum, reasons}
use Rattle.template.specs.declared.tests.Used.{Used}
use Rattle.template.specs.Selecting.{Occupied}
use Rattle.template.specs.Trying.{sums_of, chunk_with}
use Rattle.template.proofs.Trying.{all_same, stays_own, sigops_held, tried_passed, tried_taken}
use Rattle.template.proofs.Trying.{brought_many, brought_order, brought_within, brought_stays, brought_is, brought_held, brought_few, brought_end}
use Rattle.template.proofs.tests.try_chunk.Goals as goal
use Rattle.template.proofs.tests.try_chunk.Goals.{After-collect_all-end, Start}

-- ---- the tests in their order

module _ (s : Start) where
  abbrev pool : Pool
  pool = pool_of s.args.table.now

  -- what is selected
  abbrev out : List ℕ
  out = take s.args.turn.used.count s.args.picked.now

  abbrev lines : List Line
  lines = reasons pool (settings [] s.args.marks.now s.args.turn.terms) out (chunk_with s.args.slots.now s.args.turn.rate)

  -- nothing is brought: what was selected stands
  still : take (length out) s.args.picked.now ≡ out
  still = stays_own s.args.turn.used.count s.requires.stands.selected

  module _ (a : is_negative s.args.turn.rate ≡ false) where
    past1 : Past lines 1
    unfolding reasons
    past1 = past (none_past refl) a

    module _ (b : is_below s.args.turn.terms.minimum s.args.turn.rate ≡ false) where
      past2 : Past lines 2
      unfolding reasons
      past2 = past past1 b

      module _ (d : any_of (withheld s.args.marks.now) s.args.slots.now ≡ false) where
        past3 : Past lines 3
        unfolding reasons
        past3 = past past2 d

-- ---- the tests by what the chunk is

pub returns-then-is_negative : goal.returns-then-is_negative
unfolding reasons
returns-then-is_negative c =
    tried_passed _ _ _ _ NegativeFee (stop (none_past refl) (sym c.is_negative.ensures ∙ c.if-is_negative.true))
    (still (goal.at.returns-then-is_negative c).Start)

pub returns-then-is_below : goal.returns-then-is_below
unfolding reasons
returns-then-is_below c = let s = (goal.at.returns-then-is_below c).Start in
    tried_passed _ _ _ _ BelowMinimum
    (stop (past1 s (sym c.is_negative.ensures ∙ c.if-is_negative.false)) (sym c.is_below.ensures ∙ c.if-is_below.true))
    (still s)

pub returns-then-any_withheld : goal.returns-then-any_withheld
unfolding reasons
returns-then-any_withheld c = let s = (goal.at.returns-then-any_withheld c).Start in
    tried_passed _ _ _ _ Withheld
    (stop (past2 s (sym c.is_negative.ensures ∙ c.if-is_negative.false) (sym c.is_below.ensures ∙ c.if-is_below.false))
    (sym c.any_withheld.ensures ∙ c.if-any_withheld.true))
    (still s)

-- what is asked of the set is asked of the list
pub returns-then-all_taken : goal.returns-then-all_taken
unfolding reasons
returns-then-all_taken c = let s = (goal.at.returns-then-all_taken c).Start in
    tried_passed _ _ _ _ NothingUnselected
    (stop
    (past3 s (sym c.is_negative.ensures ∙ c.if-is_negative.false) (sym c.is_below.ensures ∙ c.if-is_below.false)
    (sym c.any_withheld.ensures ∙ c.if-any_withheld.false))
    (sym (c.all_taken.ensures ∙ all_same c.requires.stands.selected c.args.slots.now) ∙ c.if-all_taken.true))
    (still s)

-- ---- what it brings

module _ (c : After-collect_all-end) where
  abbrev pool_at : Pool
  pool_at = pool_of c.args.table.now

  abbrev out_at : List ℕ
  out_at = take c.args.turn.used.count c.args.picked.now

  abbrev added_at : List ℕ
  added_at = addition pool_at out_at c.args.slots.now

  abbrev lines_at : List Line
  lines_at = reasons pool_at (settings [] c.args.marks.now c.args.turn.terms) out_at (chunk_with c.args.slots.now c.args.turn.rate)

  order : c.args.turn.used.count ≤ c.collect_all-end.result
  order = brought_order out_at c.args.slots.now c.requires.stands.selected.count c.collect_all-end.ensures

  within : c.collect_all-end.result ≤ length c.collect_all-end.new.picked
  within = brought_within out_at c.args.slots.now c.requires.stands.selected.count c.collect_all-end.ensures

  stays : take (length out_at) c.collect_all-end.new.picked ≡ out_at
  stays = brought_stays out_at c.args.slots.now c.requires.stands.selected.count c.collect_all-end.ensures

  -- it stands behind what is selected
  part_is : take (c.collect_all-end.result - c.args.turn.used.count) (drop c.args.turn.used.count c.collect_all-end.new.picked) ≡ added_at
  part_is = brought_is out_at c.args.slots.now c.requires.stands.selected.count c.collect_all-end.ensures

  added_held : Occupied pool_at added_at × (length added_at ≤ capacity)
  added_held = (
    brought_held out_at c.args.slots.now c.requires.stands.selected.count c.collect_all-end.ensures,
    brought_few out_at c.args.slots.now c.requires.stands.selected.count c.collect_all-end.ensures c.requires.laid.few,
  )

  end_few : c.collect_all-end.result ≤ capacity
  end_few = brought_end out_at c.args.slots.now c.requires.stands.selected.count c.collect_all-end.ensures c.requires.laid.few

  -- ---- the tests by what it brings

  tested : Past lines_at 4
  unfolding reasons
  tested =
      past
      (past
      (past (past (none_past refl) (sym c.is_negative.ensures ∙ c.if-is_negative.false)) (sym c.is_below.ensures ∙ c.if-is_below.false))
      (sym c.any_withheld.ensures ∙ c.if-any_withheld.false))
      (sym (c.all_taken.ensures ∙ all_same c.requires.stands.selected c.args.slots.now) ∙ c.if-all_taken.false)

  -- what is asked of the part is asked of what it brings
  brings : {b : Bool}
      → b ≡ any_of (withheld c.args.marks.now) (take (c.collect_all-end.result - c.args.turn.used.count) (drop c.args.turn.used.count c.collect_all-end.new.picked))
      → any_of (withheld c.args.marks.now) added_at ≡ b
  brings e = sym (e ∙ ap (any_of (withheld c.args.marks.now)) part_is)

  module _ {more : Used} (sums : more ≡ sums_of pool_at added_at) where
    heavy : {b : Bool} → b ≡ over_budget c.args.turn.terms.budget.0 c.args.turn.used.weight.0 more.weight.0
        → over_budget c.args.turn.terms.budget.0 (raw_sum pool_at out_at) (raw_sum pool_at added_at) ≡ b
    unfolding sums_of
    heavy e = sym (e ∙ ap₂ (over_budget c.args.turn.terms.budget.0) c.requires.stands.weight (ap (λ (u : Used). u.weight.0) sums))

    costly : {b : Bool} → b ≡ over_sigops c.args.turn.terms.reserve c.args.turn.used.cost more.cost
        → over_sigops c.args.turn.terms.reserve (cost_sum pool_at out_at) (cost_sum pool_at added_at) ≡ b
    unfolding sums_of
    costly e =
        sym (e
        ∙ ap₂ (over_sigops c.args.turn.terms.reserve) c.requires.stands.cost (ap (λ (u : Used). u.cost) sums)
        ∙ sigops_held c.args.turn.terms.reserve _ _)

    counted : more.count ≡ length added_at
    unfolding sums_of
    counted = ap (λ (u : Used). u.count) sums

    overflow_count : c.args.turn.used.count + more.count ≤ capacity
    overflow_count =
        omega (arith, counted, brought_many out_at c.args.slots.now c.requires.stands.selected.count c.collect_all-end.ensures, end_few)

pub sum_slots-more-requires : goal.sum_slots-more-requires
sum_slots-more-requires c = let d = (goal.at.sum_slots-more-requires c).After-collect_all-end in record {
  table_value = c.requires.laid.stands;
  occupied = subst (λ (l : List ℕ). Occupied (pool_at d) l × (length l ≤ capacity)) (sym (part_is d)) (added_held d);
}

pub returns-then-any_withheld-2 : goal.returns-then-any_withheld-2
unfolding reasons
returns-then-any_withheld-2 c = let d = (goal.at.returns-then-any_withheld-2 c).After-collect_all-end in
    tried_passed _ _ _ _ WithheldAncestor (stop (tested d) (brings d c.any_withheld-2.ensures ∙ c.if-any_withheld-2.true)) (stays d)

pub returns-then-over_budget : goal.returns-then-over_budget
unfolding reasons
returns-then-over_budget c = let d = (goal.at.returns-then-over_budget c).After-collect_all-end in
    let sums = c.sum_slots-more.ensures ∙ ap (sums_of (pool_at d)) (part_is d) in
    tried_passed _ _ _ _ OverBudget
    (stop (past (tested d) (brings d c.any_withheld-2.ensures ∙ c.if-any_withheld-2.false))
    (heavy d sums c.over_budget.ensures ∙ c.if-over_budget.true))
    (stays d)

pub returns-then-over_sigops : goal.returns-then-over_sigops
unfolding reasons
returns-then-over_sigops c = let d = (goal.at.returns-then-over_sigops c).After-collect_all-end in
    let sums = c.sum_slots-more.ensures ∙ ap (sums_of (pool_at d)) (part_is d) in
    tried_passed _ _ _ _ OverSigops
    (stop
    (past (past (tested d) (brings d c.any_withheld-2.ensures ∙ c.if-any_withheld-2.false))
    (heavy d sums c.over_budget.ensures ∙ c.if-over_budget.false))
    (costly d sums c.over_sigops.ensures ∙ c.if-over_sigops.true))
    (stays d)

-- ---- where neither limit is passed both sums fit

light : (budget a b : ℕ) → over_budget budget a b ≡ false → a + b ≤ budget
unfolding over_budget
light budget a b e = ltb-false budget (a + b) e

small : (reserve a b : ℕ) → over_sigops reserve a b ≡ false → a + b ≤ 80000
unfolding over_sigops
small reserve a b e = let h = ltb-false 80000 (reserve + (a + b)) e in omega arith

pub overflow_add-result : goal.overflow_add-result
overflow_add-result c = let d = (goal.at.overflow_add-result c).After-collect_all-end in
    omega (arith, overflow_count d (c.sum_slots-more.ensures ∙ ap (sums_of (pool_at d)) (part_is d)))

pub overflow_add-result-2 : goal.overflow_add-result-2
overflow_add-result-2 c = omega (arith, light _ _ _ (sym c.over_budget.ensures ∙ c.if-over_budget.false))

pub overflow_add-result-3 : goal.overflow_add-result-3
overflow_add-result-3 c = omega (arith, small _ _ _ (sym c.over_sigops.ensures ∙ c.if-over_sigops.false))

pub returns : goal.returns
unfolding reasons
returns c = let d = (goal.at.returns c).After-collect_all-end in
    let sums = c.sum_slots-more.ensures ∙ ap (sums_of (pool_at d)) (part_is d) in
    tried_taken _ _ _ _ c.requires.stands c.collect_all-end.ensures sums (small _ _ _ (sym c.over_sigops.ensures ∙ c.if-over_sigops.false))
    (all_past
    (past
    (past (past (tested d) (brings d c.any_withheld-2.ensures ∙ c.if-any_withheld-2.false))
    (heavy d sums c.over_budget.ensures ∙ c.if-over_budget.false))
    (costly d sums c.over_sigops.ensures ∙ c.if-over_sigops.false))
    refl)

pub offset_bounds-picked-n : goal.offset_bounds-picked-n
offset_bounds-picked-n c = let d = (goal.at.offset_bounds-picked-n c).After-collect_all-end in omega (arith, order d, end_few d)

pub slice_bounds-added-count : goal.slice_bounds-added-count
slice_bounds-added-count c = order (goal.at.slice_bounds-added-count c).After-collect_all-end

pub slice_bounds-added-start : goal.slice_bounds-added-start
slice_bounds-added-start c = order (goal.at.slice_bounds-added-start c).After-collect_all-end

pub slice_bounds-added-end : goal.slice_bounds-added-end
slice_bounds-added-end c = within (goal.at.slice_bounds-added-end c).After-collect_all-end
