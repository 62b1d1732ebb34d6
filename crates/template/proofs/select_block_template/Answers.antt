-- `select_block_template`: the refusals in their order, and then the chunks tried and what is selected written. Assumes nothing.
use mathlib.Core.Path.{◌≡◌, sym, ap, ◌∙◌}
use mathlib.Core.Bool.{Bool, true}
use mathlib.Core.List.{List, [], ◌∷◌, ◌++◌}
use Prim.Native.Nat.{ℕ, ◌≤◌, ◌<◌}
use native.Mathlib.Omega.{arith}
use lib.ListN.{length, take, drop, length-take}
use Rattle.lists.specs.Lists.{overwrite}
use Rattle.lists.proofs.Lists.{copied_whole}
use lib.Seq.{length-take-le}
use Rattle.std.proofs.Common.{Ok, Err}
use Rattle.std.proofs.lemmas.Result.{IfOk-at_ok, err_from_is_err_and}
use Rattle.refusals.specs.Refusals.{answer_of, answer_from}
use Rattle.refusals.proofs.Lines.{Takes}
use Rattle.pool_table.specs.Pool.{slot_count}
use Rattle.pool_table.specs.Words.{pool_of}
use Rattle.pool_table.specs.WellFormed.{well_formed}
use Rattle.pool_order.specs.Order.{roomy}
use Rattle.pool_order.proofs.Slots.{roomy_both}
use Rattle.pool_chunks.specs.Sorted.{delta_refusals, Arrays, arrays, Sorted}
use Rattle.template_rules.specs.Filling.{Settings, settings, template}
use Rattle.template_rules.specs.Calls.{template_refusals}
use Rattle.template.specs.Trying.{Filled}
use Rattle.template.proofs.Answers.{parts_of, stands_wide, fillable, template_fits, answered_refused, answered_filled}
use Rattle.template.proofs.select_block_template.Goals as goal
use Rattle.template.proofs.select_block_template.Goals.{After-checked}

-- the third and the fourth of some rooms
third_wide : {n c d : ℕ} (a b : ℕ) (rest : List ℕ) → roomy n (a ∷ b ∷ c ∷ d ∷ rest) ≡ true → (n < c) × (n < d)
third_wide {c = c} {d = d} a b rest e =
    let u = roomy_both (b ∷ c ∷ d ∷ rest) e in
    let v = roomy_both (c ∷ d ∷ rest) u.1 in
    let x = roomy_both (d ∷ rest) v.1 in
    (x.0, (roomy_both rest x.1).0)

-- ---- the table's and the deltas' own answer, and the call's

module _ (c : After-checked) where
  abbrev t : List ℕ
  t = c.args.table.now

  abbrev w : Settings
  w = settings c.args.deltas.now c.args.marks.now c.args.terms

  abbrev room : List ℕ
  room = c.args.room.now

  abbrev nine : List ℕ
  nine =
      length c.args.fees.now
      ∷ length c.args.members.now
      ∷ length c.args.bounds.now
      ∷ length c.args.firsts.now
      ∷ length c.args.listed.now
      ∷ length c.args.starts.now
      ∷ length c.args.order.now
      ∷ length c.args.ups.now
      ∷ length c.args.sizes.now
      ∷ []

  own : answer_from c.all_chunks-made.result ≡ answer_of (delta_refusals (well_formed t) t c.args.deltas.now)
  own =
      c.all_chunks-made.ensures.answer_value
      ∙ ap (λ (b : Bool). answer_of (delta_refusals b t c.args.deltas.now)) (stands_wide t nine c.requires)

  told : answer_from c.checked.result ≡ answer_of (template_refusals t w room)
  told = c.checked.ensures.told c.args.deltas.now c.args.terms own

  abbrev arrays_of : ℕ → Arrays
  arrays_of count =
      let new = c.all_chunks-made.new in
      arrays count new.listed new.starts new.fees new.sizes new.order new.members new.firsts new.ups

  -- ---- nothing is refused

  module _ {count : ℕ} (e : c.checked.result ≡ Ok count) where
    takes : Takes (template_refusals t w room)
    takes = record { answer = sym told ∙ ap answer_from e }

    well : well_formed t ≡ true
    well = (parts_of t w room takes).0

    made : c.all_chunks-made.result ≡ Ok count
    made = IfOk-at_ok (λ n. c.all_chunks-made.result ≡ Ok n) e c.checked.ensures.kept

    sorted : Sorted (pool_of t) c.args.deltas.now (arrays_of count)
    sorted = IfOk-at_ok (λ n. Sorted (pool_of t) c.args.deltas.now (arrays_of n)) made c.all_chunks-made.ensures.sorted

    rooms : (slot_count (pool_of t) < length c.args.bounds.now) × (slot_count (pool_of t) < length c.args.firsts.now)
    rooms = third_wide (length c.args.fees.now) (length c.args.members.now) _ (c.requires well)

    -- what is selected has its places in the room
    module _ {picked : List ℕ} {n : ℕ} (f : Filled (template (pool_of t) w) picked n) where
      fits : n ≤ length picked
      fits = omega (arith, f.count, ap length f.are, length-take n picked)

      room_fits : n ≤ length room
      room_fits = omega (arith, f.count, template_fits t well w, (parts_of t w room takes).2)

      places : length (take n room) ≡ length (take n picked)
      places = length-take-le n room room_fits ∙ sym (length-take-le n picked fits)

      copied : {new : List ℕ} → new ≡ take n picked → new ++ drop n room ≡ overwrite (take n picked) room
      copied e = rw (e, length-take-le n picked fits)

pub returns-in_err-count : goal.returns-in_err-count
returns-in_err-count c = let d = (goal.at.returns-in_err-count c).After-checked in
    let p = err_from_is_err_and c.from_residual.result c.from_residual.ensures.1 in
    let same : p.0 ≡ c.in_err-count.field-0.0 = grind arith in
    let was : c.checked.result ≡ Err c.in_err-count.field-0.0 = c.in_err-count.was in
    let refused = answered_refused (t d) (w d) (room d) c.in_err-count.field-0.0 (ap answer_from (sym was) ∙ told d) in
    record { value = rw (p.1, same) refused.0; room_after = refused.1 }

pub fill-n-requires : goal.fill-n-requires
fill-n-requires c = let d = (goal.at.fill-n-requires c).After-checked in
    let kept = c.all_chunks-made.auto in record {
      fillable = fillable (t d) (well d c.in_ok-count.was) c.args.deltas.now (arrays_of d c.in_ok-count.count)
          (omega (arith, (rooms d c.in_ok-count.was).1, kept.firsts)) (sorted d c.in_ok-count.was);
      table_in_bounds = omega (arith, (rooms d c.in_ok-count.was).0, kept.bounds);
    }

pub slice_bounds-copy-end : goal.slice_bounds-copy-end
slice_bounds-copy-end c = let d = (goal.at.slice_bounds-copy-end c).After-checked in
    fits d c.in_ok-count.was (c.fill-n.ensures c.args.deltas.now (sorted d c.in_ok-count.was))

pub slice_bounds-copy-end-2 : goal.slice_bounds-copy-end-2
slice_bounds-copy-end-2 c = let d = (goal.at.slice_bounds-copy-end-2 c).After-checked in
    sym (length-take-le _ _ (fits d c.in_ok-count.was (c.fill-n.ensures c.args.deltas.now (sorted d c.in_ok-count.was))))

pub slice_bounds-copy-end-3 : goal.slice_bounds-copy-end-3
slice_bounds-copy-end-3 c = let d = (goal.at.slice_bounds-copy-end-3 c).After-checked in
    room_fits d c.in_ok-count.was (c.fill-n.ensures c.args.deltas.now (sorted d c.in_ok-count.was))

pub slice_bounds-copy-end-4 : goal.slice_bounds-copy-end-4
slice_bounds-copy-end-4 c = let d = (goal.at.slice_bounds-copy-end-4 c).After-checked in
    sym (length-take-le _ _ (room_fits d c.in_ok-count.was (c.fill-n.ensures c.args.deltas.now (sorted d c.in_ok-count.was))))

pub returns : goal.returns
returns c = let d = (goal.at.returns c).After-checked in
    let filled = c.fill-n.ensures c.args.deltas.now (sorted d c.in_ok-count.was) in
    let answered = answered_filled (t d) (w d) (room d) (takes d c.in_ok-count.was) filled (copied d c.in_ok-count.was filled (c.copy.ensures ∙ copied_whole _ _ (places d c.in_ok-count.was filled))) in
    record { value = answered.0; room_after = answered.1 }

pub shape_of-bounds : goal.shape_of-bounds
shape_of-bounds c = c.fill-n.auto.picked ∙ c.all_chunks-made.auto.bounds
