use Prim.Native.Nat.{ℕ, ◌≤◌}
use mathlib.Core.Path.{◌≡◌, refl, sym, ◌∙◌}
use lib.ListN.{length}
use lib.IntN.{ℤ}
use mathlib.Core.List.{List}
use mathlib.Core.Bool.{false}
use borrow.Author.Tests.{lt-ltb, le-ltb}
use Rattle.txset.specs.Sets.{positions}
use Rattle.refusals.specs.Refusals.{any_outside}
use Rattle.refusals.proofs.Laws.{outside_found}
use Rattle.refusals.proofs.Lines.{Past, none_past, past, stop, refuses, keeps}
use Rattle.post_linearize.specs.PostLinearize.{refusals, reply, order_after}
use Rattle.post_linearize.proofs.Checks.{sizes_differ, parents_differ, all_alike, others}
use Rattle.post_linearize.proofs.post_linearize.Goals as goal

-- the tests that were passed
module _ (fs : List ℤ) (ss ps order : List ℕ) where
  past_0 : Past (refusals fs ss ps order) 0
  unfolding refusals
  past_0 = none_past refl

  module _ (sizes : length ss ≡ length fs) (parents : length ps ≡ length fs) where
    past_1 : Past (refusals fs ss ps order) 1
    unfolding refusals
    past_1 = past past_0 (all_alike _ _ _ sizes parents)

    module _ (few : length fs ≤ positions) where
      past_2 : Past (refusals fs ss ps order) 2
      unfolding refusals
      past_2 = past past_1 (le-ltb positions _ few)

      past_3 : any_outside fs ≡ false → Past (refusals fs ss ps order) 3
      unfolding refusals
      past_3 = past past_2

pub returns-then-sizes-n : goal.returns-then-sizes-n
unfolding reply order_after refusals
returns-then-sizes-n c =
    let a = c.args in
    let gives = stop (past_0 a.fees.now a.sizes.now a.parents.now a.order.now) (sizes_differ _ _ _ c.if-sizes-n.true) in
    record { value = refuses _ _ gives refl; order_after = keeps _ _ gives }

pub returns-then-parents-n : goal.returns-then-parents-n
unfolding reply order_after refusals
returns-then-parents-n c =
    let a = c.args in
    let gives = stop (past_0 a.fees.now a.sizes.now a.parents.now a.order.now) (parents_differ _ _ _ c.if-parents-n.true) in
    record { value = refuses _ _ gives refl; order_after = keeps _ _ gives }

pub returns-then-n-gt-POSITIONS : goal.returns-then-n-gt-POSITIONS
unfolding reply order_after refusals
returns-then-n-gt-POSITIONS c =
    let gives = stop (past_1 _ _ _ _ c.if-sizes-n.false c.if-parents-n.false) (lt-ltb positions _ c.if-n-gt-POSITIONS.true) in
    record { value = refuses _ _ gives refl; order_after = keeps _ _ gives }

pub returns-then-is_some : goal.returns-then-is_some
unfolding reply order_after refusals
returns-then-is_some c =
    let outside = outside_found _ c.first_outside.ensures ∙ sym c.is_some.ensures ∙ c.if-is_some.true in
    let gives = stop (past_2 _ _ _ _ c.if-sizes-n.false c.if-parents-n.false c.if-n-gt-POSITIONS.false) outside in
    record { value = refuses _ _ gives refl; order_after = keeps _ _ gives }

pub returns-then-n-le-FEW : goal.returns-then-n-le-FEW
unfolding reply order_after refusals
returns-then-n-le-FEW c =
    let inside = outside_found _ c.first_outside.ensures ∙ sym c.is_some.ensures ∙ c.if-is_some.false in
    let past = past_3 _ _ _ _ c.if-sizes-n.false c.if-parents-n.false c.if-n-gt-POSITIONS.false inside in
    let both = others past _ _ _ _ c.in_tables.ensures.value c.in_tables.ensures.order_after in
    record { value = both.0; order_after = both.1 }

pub returns : goal.returns
unfolding reply order_after refusals
returns c =
    let inside = outside_found _ c.first_outside.ensures ∙ sym c.is_some.ensures ∙ c.if-is_some.false in
    let past = past_3 _ _ _ _ c.if-sizes-n.false c.if-parents-n.false c.if-n-gt-POSITIONS.false inside in
    let both = others past _ _ _ _ c.in_tables-2.ensures.value c.in_tables-2.ensures.order_after in
    record { value = both.0; order_after = both.1 }
