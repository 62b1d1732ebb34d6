use mathlib.Core.Path.{refl, sym, ap, ◌∙◌}
use Rattle.feefrac.specs.Rate.{rate_at}
use mathlib.Core.Bool.{not}
use mathlib.Core.List.{List}
use borrow.Author.Tests.{eq-eqb, ne_eqb, lt-ltb, le-ltb}
use Rattle.txset.specs.Sets.{positions}
use Rattle.refusals.specs.Refusals.{success}
use Rattle.refusals.proofs.Laws.{outside_found}
use Prim.Native.Nat.{ℕ, ◌≤◌}
use mathlib.Core.Path.{◌≡◌}
use lib.ListN.{length}
use lib.IntN.{ℤ}
use Rattle.refusals.proofs.Lines.{refuses, keeps, succeeds, writes, Past, none_past, past, stop, all_past}
use borrow.Author.Rules.{rules}
use Rattle.chunking.proofs.Laws.{length_rates, rates_at}
use Rattle.chunking.specs.Chunks.{refusals, reply, room_after}
use Rattle.chunking.proofs.chunk_lengths.Goals as goal

-- the tests that were passed
module _ (fs : List ℤ) (ss room : List ℕ) where
  past_0 : Past (refusals fs ss room) 0
  unfolding refusals
  past_0 = none_past refl

  module _ (same : length fs ≡ length ss) where
    past_1 : Past (refusals fs ss room) 1
    unfolding refusals
    past_1 = past past_0 (ap not (eq-eqb _ _ same))

    module _ (few : length fs ≤ positions) where
      past_2 : Past (refusals fs ss room) 2
      unfolding refusals
      past_2 = past past_1 (le-ltb positions _ few)

      past_3 : length fs ≤ length room → Past (refusals fs ss room) 3
      unfolding refusals
      past_3 wide = past past_2 (le-ltb _ _ wide)

pub returns-then-fees-sizes : goal.returns-then-fees-sizes
unfolding reply room_after refusals
returns-then-fees-sizes c =
    let gives = stop (past_0 _ _ _) (ap not (ne_eqb _ _ c.if-fees-sizes.true)) in
    record { value = refuses _ _ gives refl; room_after = keeps _ _ gives }

pub returns-then-fees-gt-POSITIONS : goal.returns-then-fees-gt-POSITIONS
unfolding reply room_after refusals
returns-then-fees-gt-POSITIONS c =
    let gives = stop (past_1 _ _ _ c.if-fees-sizes.false) (lt-ltb positions _ c.if-fees-gt-POSITIONS.true) in
    record { value = refuses _ _ gives refl; room_after = keeps _ _ gives }

pub returns-then-room-fees : goal.returns-then-room-fees
unfolding reply room_after refusals
returns-then-room-fees c =
    let gives = stop (past_2 _ _ _ c.if-fees-sizes.false c.if-fees-gt-POSITIONS.false) (lt-ltb _ _ c.if-room-fees.true) in
    record { value = refuses _ _ gives refl; room_after = keeps _ _ gives }

pub returns-then-is_some : goal.returns-then-is_some
unfolding reply room_after refusals
returns-then-is_some c =
    let outside = outside_found _ c.first_outside.ensures ∙ sym c.is_some.ensures ∙ c.if-is_some.true in
    let gives = stop (past_3 _ _ _ c.if-fees-sizes.false c.if-fees-gt-POSITIONS.false c.if-room-fees.false) outside in
    record { value = refuses _ _ gives refl; room_after = keeps _ _ gives }

pub write_chunks-requires : goal.write_chunks-requires
write_chunks-requires c =
    let same = c.if-fees-sizes.false in
    λ k h. (
      search rules,
      (
        record {
          few = c.if-fees-gt-POSITIONS.false;
          many = length_rates _ _ same;
          may = λ i l. tt;
          each = λ i r l e. let is : r ≡ rate_at c.args.fees.now c.args.sizes.now i = search rules in is ∙ sym (rates_at _ _ i same l);
        },
        c.if-room-fees.false,
      ),
    )

pub returns : goal.returns
unfolding reply room_after refusals
returns c =
    let n = c.write_chunks.ensures.value in
    let inside = outside_found _ c.first_outside.ensures ∙ sym c.is_some.ensures ∙ c.if-is_some.false in
    let takes = all_past (past (past_3 _ _ _ c.if-fees-sizes.false c.if-fees-gt-POSITIONS.false c.if-room-fees.false) inside) refl in
    record {
      value = succeeds _ _ takes (ap success n);
      room_after = writes _ _ takes (rw n at c.write_chunks.ensures.room_after);
    }
