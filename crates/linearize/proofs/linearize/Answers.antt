use Prim.Native.Nat.{ℕ, ◌≤◌}
use native.Mathlib.Omega.{arith}
use mathlib.Core.Path.{◌≡◌, refl, sym, ap, ◌∙◌}
use mathlib.Core.List.{List}
use mathlib.Core.Bool.{false}
use lib.IntN.{ℤ}
use lib.ListN.{length}
use borrow.Author.Tests.{lt-ltb, le-ltb}
use Rattle.txset.specs.Sets.{positions}
use Rattle.refusals.specs.Refusals.{any_outside, success}
use Rattle.refusals.proofs.Laws.{outside_found}
use Rattle.refusals.proofs.Lines.{Past, Takes, none_past, past, stop, all_past, refuses_keeps, succeeds_writes}
use Rattle.post_linearize.proofs.Checks.{sizes_differ, parents_differ, all_alike, others}
use Rattle.linearize.specs.Linearize.{refusals, reply, room_after}
use Rattle.linearize.proofs.Few.{few_acyclic, none_order, alone_order, none_room, alone_room}
use Rattle.linearize.proofs.linearize.Goals as goal

-- the tests that were passed
module _ (fs : List ℤ) (ss ps room : List ℕ) (s : length ss ≡ length fs) (p : length ps ≡ length fs) where
  past_1 : Past (refusals fs ss ps room) 1
  unfolding refusals
  past_1 = past (none_past refl) (all_alike _ _ _ s p)

  module _ (few : length fs ≤ positions) where
    past_2 : Past (refusals fs ss ps room) 2
    unfolding refusals
    past_2 = past past_1 (le-ltb positions _ few)

    module _ (wide : length fs ≤ length room) where
      past_3 : Past (refusals fs ss ps room) 3
      unfolding refusals
      past_3 = past past_2 (le-ltb _ _ wide)

      module _ (in-range : any_outside fs ≡ false) where
        past_4 : Past (refusals fs ss ps room) 4
        unfolding refusals
        past_4 = past past_3 in-range

        -- no cycle among one member or none: nothing is refused
        takes : length fs ≤ 1 → Takes (refusals fs ss ps room)
        unfolding refusals
        takes h = all_past (past past_4 (few_acyclic _ (omega arith))) refl

pub returns-then-sizes-n : goal.returns-then-sizes-n
unfolding reply room_after refusals
returns-then-sizes-n c =
    let h = refuses_keeps _ _ _ _ (stop (none_past refl) (sizes_differ _ _ _ c.if-sizes-n.true)) refl in
    record { value = h.0; room_after = h.1 }

pub returns-then-parents-n : goal.returns-then-parents-n
unfolding reply room_after refusals
returns-then-parents-n c =
    let h = refuses_keeps _ _ _ _ (stop (none_past refl) (parents_differ _ _ _ c.if-parents-n.true)) refl in
    record { value = h.0; room_after = h.1 }

pub returns-then-n-gt-POSITIONS : goal.returns-then-n-gt-POSITIONS
unfolding reply room_after refusals
returns-then-n-gt-POSITIONS c = let a = c.args in
    let h =
    refuses_keeps _ _ _ _
    (stop (past_1 a.fees.now a.sizes.now a.parents.now a.room.now c.if-sizes-n.false c.if-parents-n.false) (lt-ltb positions _ c.if-n-gt-POSITIONS.true))
    refl in
    record { value = h.0; room_after = h.1 }

pub returns-then-room-n : goal.returns-then-room-n
unfolding reply room_after refusals
returns-then-room-n c = let a = c.args in
    let h =
    refuses_keeps _ _ _ _
    (stop (past_2 a.fees.now a.sizes.now a.parents.now a.room.now c.if-sizes-n.false c.if-parents-n.false c.if-n-gt-POSITIONS.false) (lt-ltb _ _ c.if-room-n.true))
    refl in
    record { value = h.0; room_after = h.1 }

pub returns-then-is_some : goal.returns-then-is_some
unfolding reply room_after refusals
returns-then-is_some c = let a = c.args in
    let h =
    refuses_keeps _ _ _ _
    (stop (past_3 a.fees.now a.sizes.now a.parents.now a.room.now c.if-sizes-n.false c.if-parents-n.false c.if-n-gt-POSITIONS.false c.if-room-n.false)
    (outside_found _ c.first_outside.ensures ∙ sym c.is_some.ensures ∙ c.if-is_some.true))
    refl in
    record { value = h.0; room_after = h.1 }

pub returns-then-n-eq0 : goal.returns-then-n-eq0
unfolding reply room_after
returns-then-n-eq0 c = let a = c.args in
    let in-range = outside_found a.fees.now c.first_outside.ensures ∙ sym c.is_some.ensures ∙ c.if-is_some.false in
    let o = none_order a.fees.now a.sizes.now a.parents.now c.if-parents-n.false c.if-n-eq0.true in
    let h =
    succeeds_writes _ _ _ _
    (takes a.fees.now a.sizes.now a.parents.now a.room.now c.if-sizes-n.false c.if-parents-n.false c.if-n-gt-POSITIONS.false c.if-room-n.false in-range (omega (arith, c.if-n-eq0.true)))
    (ap (λ (l : List ℕ). success (length l)) (sym o))
    (none_room _ _ o) in
    record { value = h.0; room_after = h.1 }

pub returns-then-n-eq1 : goal.returns-then-n-eq1
unfolding reply room_after
returns-then-n-eq1 c = let a = c.args in
    let in-range = outside_found a.fees.now c.first_outside.ensures ∙ sym c.is_some.ensures ∙ c.if-is_some.false in
    let o = alone_order a.fees.now a.sizes.now a.parents.now c.if-parents-n.false c.if-n-eq1.true in
    let h =
    succeeds_writes _ _ _ _
    (takes a.fees.now a.sizes.now a.parents.now a.room.now c.if-sizes-n.false c.if-parents-n.false c.if-n-gt-POSITIONS.false c.if-room-n.false in-range (omega (arith, c.if-n-eq1.true)))
    (ap (λ (l : List ℕ). success (length l)) (sym o))
    (alone_room _ _ o (omega (arith, c.if-room-n.false, c.if-n-eq1.true))) in
    record { value = h.0; room_after = h.1 }

pub order_cluster-requires : goal.order_cluster-requires
order_cluster-requires c = record { same = c.if-parents-n.false; few = c.if-n-gt-POSITIONS.false; wide = c.if-room-n.false }

pub returns : goal.returns
unfolding reply room_after refusals
returns c = let a = c.args in
    let in-range = outside_found a.fees.now c.first_outside.ensures ∙ sym c.is_some.ensures ∙ c.if-is_some.false in
    let h = others (past_4 a.fees.now a.sizes.now a.parents.now a.room.now c.if-sizes-n.false c.if-parents-n.false c.if-n-gt-POSITIONS.false c.if-room-n.false in-range) _ _ _ _ c.order_cluster.ensures.value c.order_cluster.ensures.room_after in
    record { value = h.0; room_after = h.1 }
