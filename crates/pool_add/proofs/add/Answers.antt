use mathlib.Core.Path.{◌≡◌, refl, sym, ap, ◌∙◌}
use mathlib.Core.Bool.{Bool, true, not}
use mathlib.Core.List.{List}
use Prim.Native.Nat.{ℕ, ◌≤◌, ◌<◌}
use native.Mathlib.Omega.{arith}
use borrow.Author.Tests.{eq-eqb, ne_eqb}
use Rattle.refusals.proofs.Lines.{Past, none_past, past, stop, all_past, refuses_keeps, succeeds_writes}
use Rattle.std.proofs.Common.{Some, None}
use Rattle.std.proofs.lemmas.Result.{err_from_is_err_and}
use Rattle.refusals.specs.declared.Refusal.TheVariants.{NoSlotFree}
use Rattle.lists.proofs.Found.{below_some, below_none}
use Rattle.txset.specs.Sets.{has_in}
use Rattle.txids.specs.declared.Txid.{Txid}
use Rattle.txids.specs.Txids.{txid_at}
use Rattle.slotsets.specs.SlotSets.{set_of}
use Rattle.pool_table.specs.declared.Entry.{Entry}
use Rattle.pool_table.specs.Pool.{slot_count}
use Rattle.pool_table.specs.Words.{pool_of}
use Rattle.pool_table.specs.Ranges.{entry_in_range}
use Rattle.pool_table.specs.WellFormed.{well_formed}
use Rattle.pool_table.proofs.Legal.{few_slots}
use Rattle.pool_rules.specs.Module8.{is_in, lowest_free, is_listed}
use Rattle.pool_rules.specs.Calls.{placed, entry_of, add_refusals, add_reply, after_add}
use Rattle.pool_rules.proofs.Finds.{found_is, full_past, room_below}
use Rattle.pool_rules.proofs.Sound.{well_legal, well_sound}
use Rattle.pool_clusters.specs.Clusters.{clusters_of}
use Rattle.pool_add.proofs.Limits.{entry_small, total_small, union_small, count_over, count_within, size_over, size_within}
use Rattle.pool_add.proofs.Written.{written}
use Rattle.pool_add.proofs.add.Goals as goal
use Rattle.pool_add.proofs.add.Goals.{After-clusters_of-union, Else-not-in_range, Else-parents-ne0, In_ok-slot, Else-is_some}

-- ---- what is given

-- the first n lines do not refuse it
abbrev PastOf : (table txid : List ℕ) (fee weight cost : ℕ) (parents : List ℕ) (n : ℕ) → Type 0
PastOf table txid fee weight cost parents n = Past (add_refusals table (entry_of txid fee weight cost) parents) n

-- ---- 12 and 1

pub returns-then-not-is_well_formed : goal.returns-then-not-is_well_formed
unfolding add_reply after_add add_refusals
returns-then-not-is_well_formed c = let r = refuses_keeps _ _ _ _ (stop (none_past refl) (ap not (sym c.is_well_formed.ensures ∙ c.if-not-is_well_formed.true))) refl in
    record { value = r.0; table_after = r.1 }

pub returns-then-parents-ne0 : goal.returns-then-parents-ne0
unfolding add_reply after_add add_refusals
returns-then-parents-ne0 c = let r = refuses_keeps _ _ _ _
    (stop (past (none_past refl) (ap not (sym c.is_well_formed.ensures ∙ c.if-not-is_well_formed.false))) (ap not (ne_eqb _ 0 c.if-parents-ne0.true)))
    refl in
    record { value = r.0; table_after = r.1 }

well : (e : Else-parents-ne0) → well_formed e.args.table.now ≡ true
well e = sym e.is_well_formed.ensures ∙ e.if-not-is_well_formed.false

past_2 : (e : Else-parents-ne0) → let a = e.args in PastOf a.table.now a.txid a.fee a.weight a.cost a.parents.now 2
unfolding add_refusals
past_2 e = past (past (none_past refl) (ap not (well e))) (ap not (eq-eqb _ 0 e.if-parents-ne0.false))

-- ---- 3 and 6

-- the entry is the one given
entry_is : (bytes : List ℕ) (fee weight cost : ℕ) (x : Txid) → x ≡ txid_at bytes 0
    → record { txid = x; fee = fee; weight = record { 0 = weight }; cost = cost } ≡ entry_of bytes fee weight cost
entry_is bytes fee weight cost x e = ap {B = Entry} (λ (x : Txid). record { txid = x; fee = fee; weight = record { 0 = weight }; cost = cost }) e

pub returns-then-not-in_range : goal.returns-then-not-in_range
unfolding add_reply after_add add_refusals
returns-then-not-in_range c = let a = c.args in
    let r = refuses_keeps _ _ _ _
    (stop (past_2 (goal.at.returns-then-not-in_range c).Else-parents-ne0)
    (ap not (sym (c.in_range.ensures ∙ ap entry_in_range (entry_is a.txid a.fee a.weight a.cost _ c.from-id.ensures)) ∙ c.if-not-in_range.true)))
    refl in
    record { value = r.0; table_after = r.1 }

ranged : (e : Else-not-in_range) → let a = e.args in entry_in_range (entry_of a.txid a.fee a.weight a.cost) ≡ true
ranged e =
    let a = e.args in
    sym (e.in_range.ensures ∙ ap entry_in_range (entry_is a.txid a.fee a.weight a.cost _ e.from-id.ensures)) ∙ e.if-not-in_range.false

past_3 : (e : Else-not-in_range) → (let a = e.args in PastOf a.table.now a.txid a.fee a.weight a.cost a.parents.now 2) → (let a = e.args in PastOf a.table.now a.txid a.fee a.weight a.cost a.parents.now 3)
unfolding add_refusals
past_3 e past_2 = past past_2 (ap not (ranged e))

pub returns-then-is_some : goal.returns-then-is_some
unfolding add_reply after_add add_refusals
returns-then-is_some c = let at = goal.at.returns-then-is_some c in
    let r = refuses_keeps _ _ _ _
    (stop (past_3 at.Else-not-in_range (past_2 at.Else-parents-ne0))
    (ap (is_in (pool_of c.args.table.now)) (sym c.from-id.ensures) ∙ sym (found_is _ _ _ c.find.ensures) ∙ sym c.is_some.ensures ∙ c.if-is_some.true))
    refl in
    record { value = r.0; table_after = r.1 }

past_4 : (n : Else-is_some) → (let a = n.args in PastOf a.table.now a.txid a.fee a.weight a.cost a.parents.now 3) → (let a = n.args in PastOf a.table.now a.txid a.fee a.weight a.cost a.parents.now 4)
unfolding add_refusals
past_4 n past_3 = past past_3 (ap (is_in (pool_of n.args.table.now)) (sym n.from-id.ensures) ∙ sym (found_is _ _ _ n.find.ensures) ∙ sym n.is_some.ensures ∙ n.if-is_some.false)

-- ---- 7

pub returns-in_err-slot : goal.returns-in_err-slot
unfolding add_reply after_add add_refusals
returns-in_err-slot c = let at = goal.at.returns-in_err-slot c in
    let none : c.lowest_free.result ≡ None = grind arith in
    let p = err_from_is_err_and c.from_residual.result c.from_residual.ensures.1 in
    let told : p.0 ≡ NoSlotFree = grind arith in
    let r = refuses_keeps _ _ _ _
    (stop (past_4 at.Else-is_some (past_3 at.Else-not-in_range (past_2 at.Else-parents-ne0))) (full_past _ (below_none _ _ (sym c.lowest_free.ensures ∙ none))))
    (rw (p.1, told)) in
    record { value = r.0; table_after = r.1 }

lowest : (i : In_ok-slot) → let p = pool_of i.args.table.now in (lowest_free p ≡ i.in_ok-slot.slot) × (i.in_ok-slot.slot < slot_count p)
lowest i =
    let some : i.lowest_free.result ≡ Some i.in_ok-slot.slot = grind arith in
    below_some _ _ _ (sym i.lowest_free.ensures ∙ some)

room : (i : In_ok-slot) → let p = pool_of i.args.table.now in lowest_free p < slot_count p
room i = let l = lowest i in omega (arith, l.0, l.1)

past_5 : (i : In_ok-slot) → (let a = i.args in PastOf a.table.now a.txid a.fee a.weight a.cost a.parents.now 4) → (let a = i.args in PastOf a.table.now a.txid a.fee a.weight a.cost a.parents.now 5)
unfolding add_refusals
past_5 i past_4 = past past_4 (room_below _ (room i))

-- ---- 8 and 9

-- the entry's weight is in its range
light : (e : Else-not-in_range) → e.args.weight ≤ 4000000
light e = let a = e.args in entry_small (entry_of a.txid a.fee a.weight a.cost) (ranged e)

module _ (u : After-clusters_of-union) where
  abbrev parents : ℕ → Bool
  parents = let a = u.args in is_listed (pool_of a.table.now) (txid_at a.txid 0) a.parents.now

  linked_are : u.listed_slots-linked.result ≡ set_of parents
  linked_are =
      let a = u.args in
      u.listed_slots-linked.ensures ∙ ap (λ (x : Txid). set_of (is_listed (pool_of a.table.now) x a.parents.now)) u.from-id.ensures

  united : u.clusters_of-union.result ≡ clusters_of u.args.table.now (has_in (set_of parents))
  united = u.clusters_of-union.ensures ∙ ap (λ (ws : List ℕ). clusters_of u.args.table.now (has_in ws)) linked_are

  stands : well_formed u.args.table.now ≡ true
  stands = sym u.is_well_formed.ensures ∙ u.if-not-is_well_formed.false

pub returns-then-limits-union : goal.returns-then-limits-union
unfolding add_reply after_add add_refusals
returns-then-limits-union c = let at = goal.at.returns-then-limits-union c in
    let u = at.After-clusters_of-union in
    let r = refuses_keeps _ _ _ _
    (stop (past_5 at.In_ok-slot (past_4 at.Else-is_some (past_3 at.Else-not-in_range (past_2 at.Else-parents-ne0)))) (count_over _ (stands u) (parents u) _ (united u) _ c.of-limits.ensures c.if-limits-union.true))
    refl in
    record { value = r.0; table_after = r.1 }

pub overflow_add-together : goal.overflow_add-together
overflow_add-together c = let at = goal.at.overflow_add-together c in
    let u = at.After-clusters_of-union in
    record { fits = omega (arith, union_small _ (stands u) (parents u) _ (united u), light at.Else-not-in_range) }

pub returns-then-limits-virtual_size : goal.returns-then-limits-virtual_size
unfolding add_reply after_add add_refusals
returns-then-limits-virtual_size c = let at = goal.at.returns-then-limits-virtual_size c in
    let u = at.After-clusters_of-union in
    let r = refuses_keeps _ _ _ _
    (stop (past (past_5 at.In_ok-slot (past_4 at.Else-is_some (past_3 at.Else-not-in_range (past_2 at.Else-parents-ne0)))) (count_within _ (stands u) (parents u) _ (united u) _ c.of-limits.ensures c.if-limits-union.false))
    (size_over _ (stands u) (parents u) _ (united u) _ c.of-limits.ensures _ _ c.virtual_size.ensures c.if-limits-virtual_size.true))
    refl in
    record { value = r.0; table_after = r.1 }

-- ---- the entry is put in

pub put_in-requires : goal.put_in-requires
put_in-requires c = let at = goal.at.put_in-requires c in
    let u = at.After-clusters_of-union in
    let t = c.args.table.now in
    omega (arith, total_small (pool_of t) (well_sound t (stands u)) (few_slots t (well_legal t (stands u))), light at.Else-not-in_range)

pub returns : goal.returns
unfolding add_reply after_add add_refusals
returns c = let a = c.args in
    let at = goal.at.returns c in
    let u = at.After-clusters_of-union in
    let r = succeeds_writes _ _ _ _
    (all_past
    (past
    (past (past_5 at.In_ok-slot (past_4 at.Else-is_some (past_3 at.Else-not-in_range (past_2 at.Else-parents-ne0)))) (count_within _ (stands u) (parents u) _ (united u) _ c.of-limits.ensures c.if-limits-union.false))
    (size_within _ (stands u) (parents u) _ (united u) _ c.of-limits.ensures _ _ c.virtual_size.ensures c.if-limits-virtual_size.false))
    refl)
    (ap placed (sym (lowest at.In_ok-slot).0))
    (written _ (stands u) _ _ (room at.In_ok-slot) _ _ _ _ (sym (lowest at.In_ok-slot).0) (entry_is a.txid a.fee a.weight a.cost _ c.from-id.ensures) (linked_are u) c.put_in.ensures) in
    record { value = r.0; table_after = r.1 }
