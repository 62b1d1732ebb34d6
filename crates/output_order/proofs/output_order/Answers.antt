use mathlib.Core.Path.{refl, sym, ap, ◌∙◌}
use Prim.Native.Nat.{◌<◌}
use native.Mathlib.Omega.{arith}
use lib.ListN.{length}
use Rattle.txset.specs.Sets.{positions}
use Rattle.output_order.specs.Steps.{All}
use Rattle.output_order.specs.Rounds.{chosen}
use Rattle.output_order.proofs.Rounds.{full_all, rounds_start, rounds_below, chosen_place, chosen_small, chosen_within, rounds_less, rounds_turn, rounds_stop}
use Rattle.output_order.proofs.Rounds.{refuses_members, refuses_order, refuses_room}
use Rattle.output_order.proofs.Surveying.{chunks_stay, chunk_rates}
use Rattle.output_order.proofs.output_order.Goals as goal
use Rattle.output_order.proofs.output_order.Goals.{After-full, In-Some}

pub returns-then-n-gt-POSITIONS : goal.returns-then-n-gt-POSITIONS
returns-then-n-gt-POSITIONS c = let h = refuses_members _ _ _ _ _ c.if-n-gt-POSITIONS.true in record { value = h.0; room_after = h.1 }

pub returns-then-n-order : goal.returns-then-n-order
returns-then-n-order c = let h = refuses_order _ _ _ _ _ c.if-n-gt-POSITIONS.false c.if-n-order.true in record { value = h.0; room_after = h.1 }

pub returns-then-room-n : goal.returns-then-room-n
returns-then-room-n c = let h = refuses_room _ _ _ _ _ c.if-n-gt-POSITIONS.false c.if-n-order.false c.if-room-n.true in
    record { value = h.0; room_after = h.1 }

-- `all` is the members
whole : (c : After-full)
    → All (length c.args.fees.now) c.full.result
whole c = full_all c.if-n-gt-POSITIONS.false c.full.ensures

pub cut-count-requires : goal.cut-count-requires
cut-count-requires c = record {
  all = whole (goal.at.cut-count-requires c).After-full;
  order_in_bounds = c.if-n-order.false;
  places = refl;
}

pub loop-k-init : goal.loop-k-init
loop-k-init c = let all = whole (goal.at.loop-k-init c).After-full in
    rounds_start _ _ _
    (record {
      whole = all;
      chunks = chunks_stay c.cut-count.ensures c.survey-drops.ensures.summed;
      rates = chunk_rates c.cut-count.ensures c.survey-drops.ensures.summed all.few;
      falling = c.survey-drops.ensures.drops;
      short = c.if-n-order.false;
      long = c.survey-drops.auto.pieces ∙ c.cut-count.auto.pieces;
    })
    c.if-room-n.false
    (full_all c.cut-count.ensures.few c.full-left.ensures)
    c.empty-3.ensures

-- there is a place for the one chosen
place : (c : In-Some) → c.in-Some.k < positions
place c = chosen_place c.loop-k.invariant _ (sym c.next_chunk.ensures ∙ ap chosen c.in-Some.is)

pub bounds-pieces-k : goal.bounds-pieces-k
bounds-pieces-k c = place (goal.at.bounds-pieces-k c).In-Some

pub offset_bounds-pieces-k : goal.offset_bounds-pieces-k
offset_bounds-pieces-k c = record { fits = omega (arith, place (goal.at.offset_bounds-pieces-k c).In-Some) }

pub put_out-out-requires : goal.put_out-out-requires
put_out-out-requires c = let inv = c.loop-k.invariant in
    let is = sym c.next_chunk.ensures ∙ ap chosen c.in-Some.is in record {
      all = inv.known.whole;
      by_index = chosen_small inv _ is;
      within = chosen_within inv _ is;
      standing = inv.stands;
    }

pub loop-k-smaller : goal.loop-k-smaller
loop-k-smaller c = rounds_less c.loop-k.invariant _ (sym c.next_chunk.ensures ∙ ap chosen c.in-Some.is) _ c.remove-left.ensures

pub loop-k-preserved : goal.loop-k-preserved
loop-k-preserved c =
    rounds_turn c.loop-k.invariant _ (sym c.next_chunk.ensures ∙ ap chosen c.in-Some.is) _ c.remove-left.ensures _ _ _
    c.put_out-out.ensures

pub survey-drops-requires : goal.survey-drops-requires
survey-drops-requires c = (c.cut-count.ensures.few, c.cut-count.auto.pieces)

pub next_chunk-requires : goal.next_chunk-requires
next_chunk-requires c = let inv = c.loop-k.invariant in record {
  places = inv.known.long;
  below = rounds_below inv;
}

pub shape_of-room : goal.shape_of-room
shape_of-room c = c.loop-k.invariant.placed.long

pub returns : goal.returns
returns c = let h = rounds_stop c.loop-k.invariant (sym c.next_chunk.ensures ∙ ap chosen c.in_default.is) in record { value = h.0; room_after = h.1 }
