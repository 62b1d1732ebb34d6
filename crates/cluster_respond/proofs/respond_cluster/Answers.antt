use Prim.Native.Nat.{ℕ, ◌≤◌}
use native.Mathlib.Omega.{arith}
use mathlib.Core.List.{List}
use mathlib.Core.Path.{◌≡◌, refl, ap, ◌∙◌}
use lib.IntN.{ℤ}
use lib.ListN.{length, take}
use Rattle.refusals.specs.declared.Reply.{Reply}
use Rattle.refusals.specs.Refusals.{number_of, success, refusal}
use Rattle.cluster_reader.proofs.Reading.{number_some}
use Rattle.cluster_writer.specs.Writing.{refusal_text}
use borrow.Author.Rules.{rules}
use Rattle.txset.specs.Sets.{positions}
use Rattle.linearize.specs.Linearize.{linear_order, reply, room_after}
use Rattle.chunking.specs.Orders.{order_lengths, lengths_written, lengths_filled}
use Rattle.chunking.proofs.Orders.{all_lengths}
use Rattle.cluster_respond.proofs.Answers.{Starts, starts, part_long, prints, refused_text, ordered, success_text_lem}
use Rattle.cluster_respond.proofs.respond_cluster.Goals as goal

pub returns-in-Err : goal.returns-in-Err
returns-in-Err c =
    let w = c.write_refusal.ensures in
    let t =
    refused_text c.args.fees.now c.args.sizes.now c.args.parents.now _ c.requires.0 c.requires.1 (refusal (number_of c.in-Err.refused)) c.in-Err.ensures.value
    (λ e. omega (arith, e, number_some c.in-Err.refused)) in
    let p = prints c.args.out.now (ap refusal_text c.number.ensures ∙ t) w.value w.out_after in
    record { value = p.0; out_after = p.1 }

-- linearize has succeeded, and the order stands at the array's start, which has 64 places
module _
    (fees : List ℤ)
    (sizes parents room new : List ℕ)
    (r : Reply)
    (wide : length fees ≤ length room)
    (long : length sizes ≡ length fees)
    (is : r ≡ reply fees sizes parents room)
    (none : r.answer ≡ 0)
    (after : new ≡ room_after fees sizes parents room)
    (kept : length new ≡ positions) where
  order : Starts (linear_order fees sizes parents) new r.written
  order = ordered fees sizes parents room wide long r is none new after

  few : length (take r.written new) ≤ positions
  few = omega (arith, order.within, part_long order, kept)

  -- and so do the lengths of its chunks
  lens : (k : ℕ) (room' new' : List ℕ) → k ≡ lengths_written fees sizes (take r.written new) room'
      → new' ≡ lengths_filled fees sizes (take r.written new) room' → length room' ≡ positions
      → Starts (order_lengths fees sizes (take r.written new)) new' k
  lens k room' new' e f l =
      let all = all_lengths fees sizes (take r.written new) room' new' k few (omega (arith, few, l)) e f in
      starts _ _ all.0 all.1

pub slice_bounds-order-end : goal.slice_bounds-order-end
slice_bounds-order-end c =
    let l = c.linearize.ensures in
    let kept : length c.linearize.new.room ≡ positions = search rules in
    let o =
    order c.args.fees.now c.args.sizes.now c.args.parents.now _ c.linearize.new.room (success c.in-Ok.n) c.requires.0 c.requires.1 c.in-Ok.ensures.value
    refl l.room_after kept in
    o.within

pub slice_bounds-order_lengths-end : goal.slice_bounds-order_lengths-end
slice_bounds-order_lengths-end c =
    let l = c.linearize.ensures in
    let kept : length c.linearize.new.room ≡ positions = search rules in
    let o =
    order c.args.fees.now c.args.sizes.now c.args.parents.now _ c.linearize.new.room (success c.in-Ok.n) c.requires.0 c.requires.1 c.in-Ok.ensures.value
    refl l.room_after kept in
    part_long o

pub slice_bounds-order-end-in-Ok : goal.slice_bounds-order-end-in-Ok
slice_bounds-order-end-in-Ok c =
    let l = c.linearize.ensures in
    let kept : length c.linearize.new.room ≡ positions = search rules in
    let o =
    order c.args.fees.now c.args.sizes.now c.args.parents.now _ c.linearize.new.room (success c.in-Ok.n) c.requires.0 c.requires.1 c.in-Ok.ensures.value
    refl l.room_after kept in
    o.within

pub slice_bounds-write_success-end : goal.slice_bounds-write_success-end
slice_bounds-write_success-end c =
    let l = c.linearize.ensures in
    let kept : length c.linearize.new.room ≡ positions = search rules in
    let o =
    order c.args.fees.now c.args.sizes.now c.args.parents.now _ c.linearize.new.room (success c.in-Ok.n) c.requires.0 c.requires.1 c.in-Ok.ensures.value
    refl l.room_after kept in
    part_long o

pub slice_bounds-lens-end : goal.slice_bounds-lens-end
slice_bounds-lens-end c =
    let l = c.linearize.ensures in
    let kept : length c.linearize.new.room ≡ positions = search rules in
    let ls =
    lens c.args.fees.now c.args.sizes.now c.args.parents.now _ c.linearize.new.room (success c.in-Ok.n) c.requires.0 c.requires.1 c.in-Ok.ensures.value
    refl l.room_after kept c.order_lengths-count.result _ c.order_lengths-count.new.lens c.order_lengths-count.ensures.value
    c.order_lengths-count.ensures.lens_after refl in
    ls.within

pub slice_bounds-write_success-end-in-Ok : goal.slice_bounds-write_success-end-in-Ok
slice_bounds-write_success-end-in-Ok c =
    let l = c.linearize.ensures in
    let kept : length c.linearize.new.room ≡ positions = search rules in
    let ls =
    lens c.args.fees.now c.args.sizes.now c.args.parents.now _ c.linearize.new.room (success c.in-Ok.n) c.requires.0 c.requires.1 c.in-Ok.ensures.value
    refl l.room_after kept c.order_lengths-count.result _ c.order_lengths-count.new.lens c.order_lengths-count.ensures.value
    c.order_lengths-count.ensures.lens_after refl in
    part_long ls

pub returns-in-Ok : goal.returns-in-Ok
returns-in-Ok c =
    let l = c.linearize.ensures in
    let kept : length c.linearize.new.room ≡ positions = search rules in
    let o =
    order c.args.fees.now c.args.sizes.now c.args.parents.now _ c.linearize.new.room (success c.in-Ok.n) c.requires.0 c.requires.1 c.in-Ok.ensures.value
    refl l.room_after kept in
    let ls =
    lens c.args.fees.now c.args.sizes.now c.args.parents.now _ c.linearize.new.room (success c.in-Ok.n) c.requires.0 c.requires.1 c.in-Ok.ensures.value
    refl l.room_after kept c.order_lengths-count.result _ c.order_lengths-count.new.lens c.order_lengths-count.ensures.value
    c.order_lengths-count.ensures.lens_after refl in
    let w = c.write_success.ensures in
    let size : length c.order_lengths-count.new.lens ≡ positions = search rules in
    let few_order = few c.args.fees.now c.args.sizes.now c.args.parents.now _ c.linearize.new.room (success c.in-Ok.n) c.requires.0 c.requires.1 c.in-Ok.ensures.value refl l.room_after kept in
    let p =
    success_text_lem c.args.fees.now c.args.sizes.now c.args.parents.now _ c.requires.0 c.requires.1 (success c.in-Ok.n) c.in-Ok.ensures.value refl
    (take c.in-Ok.n c.linearize.new.room) (take c.order_lengths-count.result c.order_lengths-count.new.lens) c.args.out.now _ _
    o.is ls.is few_order (omega (arith, ls.within, part_long ls, size)) w.value w.out_after in
    record { value = p.0; out_after = p.1 }
