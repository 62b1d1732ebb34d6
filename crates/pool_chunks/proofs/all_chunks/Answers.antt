-- `all_chunks`: the clusters laid out, the refusals, and then the chunks cut and their numbers sorted. Assumes nothing.
use mathlib.Core.Path.{◌≡◌, sym, ap, ◌∙◌, subst}
use mathlib.Core.Bool.{Bool, true}
use mathlib.Core.List.{List, [], ◌∷◌}
use Prim.Native.Nat.{ℕ, ◌≤◌, ◌<◌}
use native.Mathlib.Omega.{arith}
use lib.ListN.{length, take}
use lib.Seq.{length-take-le}
use Rattle.std.proofs.Common.{Option, Some, None, IfSome, is_some}
use Rattle.std.proofs.lemmas.Result.{err_from_is_err_and}
use Rattle.refusals.specs.declared.Refusal.TheVariants.{TableIllFormed}
use Rattle.refusals.specs.Refusals.{answer_of, answer_from}
use Rattle.pool_table.specs.Pool.{Pool, slot_count}
use Rattle.pool_table.specs.Words.{pool_of}
use Rattle.pool_table.specs.WellFormed.{well_formed}
use Rattle.pool_order.specs.Order.{roomy, stands_in}
use Rattle.pool_order.proofs.Slots.{roomy_not}
use Rattle.pool_members.specs.Layout.{LaidOut}
use Rattle.pool_members.proofs.Laid.{stands_short, stands_rest, stands_both}
use Rattle.pool_chunks.specs.Sorted.{delta_refusals}
use Rattle.pool_chunks.proofs.Laid.{Taken, taken, not_stood, one_wide, eight_wide}
use Rattle.pool_chunks.proofs.Whole.{rated, order_within, order_tried}
use Rattle.pool_chunks.proofs.all_chunks.Goals as goal
use Rattle.pool_chunks.proofs.all_chunks.Goals.{After-cut_all-count, After-lay_out, In_ok-clusters, In_ok-check_deltas}

-- ---- the rooms

pub returns-then-fees-slots-clause-answer_value : goal.returns-then-fees-slots-clause-answer_value
returns-then-fees-slots-clause-answer_value c = let args = c.args in
    let t = args.table.now in
    let one = length args.fees.now ∷ [] in
    let eight =
    length args.members.now
    ∷ length args.bounds.now
    ∷ length args.firsts.now
    ∷ length args.listed.now
    ∷ length args.starts.now
    ∷ length args.order.now
    ∷ length args.ups.now
    ∷ length args.sizes.now
    ∷ [] in
    let short : length args.fees.now ≤ slot_count (pool_of t) = omega (arith, c.if-fees-slots.true, c.slots.ensures) in
    not_stood (stands_in t (length args.fees.now ∷ eight)) t args.deltas.now (sym (stands_short t one eight (sym (roomy_not [] short))))

-- ---- the layout

module _ (c : After-lay_out) where
  abbrev table : List ℕ
  table = c.args.table.now

  abbrev eight : List ℕ
  eight =
      length c.args.members.now
      ∷ length c.args.bounds.now
      ∷ length c.args.firsts.now
      ∷ length c.args.listed.now
      ∷ length c.args.starts.now
      ∷ length c.args.order.now
      ∷ length c.args.ups.now
      ∷ length c.args.sizes.now
      ∷ []

  in_fees : slot_count (pool_of table) < length c.args.fees.now
  in_fees = omega (arith, c.if-fees-slots.false, c.slots.ensures)

  stands_is : stands_in table (length c.args.fees.now ∷ eight) ≡ is_some c.lay_out.result
  stands_is = stands_rest table (length c.args.fees.now ∷ []) eight (one_wide in_fees) ∙ sym c.lay_out.ensures.stands_value

pub returns-in_err-clusters-clause-answer_value : goal.returns-in_err-clusters-clause-answer_value
returns-in_err-clusters-clause-answer_value c =
    let none : c.lay_out.result ≡ None = grind arith in
    let p = err_from_is_err_and c.from_residual.result c.from_residual.ensures.1 in
    let told : p.0 ≡ TableIllFormed = grind arith in
    rw (p.1, told)
    (not_stood _ c.args.table.now c.args.deltas.now
    (stands_is (goal.at.returns-in_err-clusters-clause-answer_value c).After-lay_out ∙ ap is_some none))

-- ---- it stands

module _ (c : In_ok-clusters) where
  abbrev pool_in : Pool
  pool_in = pool_of c.args.table.now

  abbrev rooms_in : List ℕ
  rooms_in =
      length c.args.members.now
      ∷ length c.args.bounds.now
      ∷ length c.args.firsts.now
      ∷ length c.args.listed.now
      ∷ length c.args.starts.now
      ∷ length c.args.order.now
      ∷ length c.args.ups.now
      ∷ length c.args.sizes.now
      ∷ []

  some : c.lay_out.result ≡ Some c.in_ok-clusters.clusters
  some = grind arith

  stands : is_some c.lay_out.result ≡ true
  stands = ap is_some some

  both : (roomy (slot_count pool_in) rooms_in ≡ true) × (well_formed c.args.table.now ≡ true)
  both = stands_both c.args.table.now rooms_in (sym c.lay_out.ensures.stands_value ∙ stands)

  rooms : (slot_count pool_in < length c.args.members.now)
      × (slot_count pool_in < length c.args.bounds.now)
      × (slot_count pool_in < length c.args.firsts.now)
      × (slot_count pool_in < length c.args.listed.now)
      × (slot_count pool_in < length c.args.starts.now)
      × (slot_count pool_in < length c.args.order.now)
      × (slot_count pool_in < length c.args.ups.now)
      × (slot_count pool_in < length c.args.sizes.now)
  rooms = eight_wide both.0

  abbrev IsLaidOut : ℕ → Type 0
  IsLaidOut n = LaidOut pool_in n c.lay_out.new.members c.lay_out.new.bounds c.lay_out.new.firsts c.lay_out.new.ups

  out : IsLaidOut c.in_ok-clusters.clusters
  out = subst (λ (o : Option ℕ). IfSome o IsLaidOut) some c.lay_out.ensures.laid_out

pub returns-in_err-check_deltas-clause-answer_value : goal.returns-in_err-check_deltas-clause-answer_value
returns-in_err-check_deltas-clause-answer_value c =
    let at = goal.at.returns-in_err-check_deltas-clause-answer_value c in
    let p = err_from_is_err_and c.from_residual-in_err-check_deltas.result c.from_residual-in_err-check_deltas.ensures.1 in
    let told : p.0 ≡ c.in_err-check_deltas.field-0.0 = grind arith in
    let is : stands_in c.args.table.now (length c.args.fees.now ∷ eight at.After-lay_out) ≡ true = stands_is at.After-lay_out ∙ stands at.In_ok-clusters in
    rw (p.1, told)
    (sym (ap answer_from c.in_err-check_deltas.was) ∙ c.check_deltas.ensures
    ∙ sym (ap (λ (b : Bool). answer_of (delta_refusals b c.args.table.now c.args.deltas.now)) is))

-- ---- nothing is refused

module _ (c : In_ok-check_deltas) where
  fine : answer_of (delta_refusals true c.args.table.now c.args.deltas.now) ≡ 0
  fine = sym c.check_deltas.ensures ∙ ap answer_from c.in_ok-check_deltas.was

  sane : well_formed c.args.table.now ≡ true → Taken (pool_of c.args.table.now) c.args.deltas.now
  sane = taken true c.args.table.now c.args.deltas.now fine

pub cut_all-count-requires : goal.cut_all-count-requires
cut_all-count-requires c = let l = (goal.at.cut_all-count-requires c).In_ok-clusters in
    let kept = c.lay_out.auto in
    let t = c.args.table.now in
    let wide = rooms l in record {
      deltas_value =
          ap (λ (b : Bool). answer_of (delta_refusals b t c.args.deltas.now)) (both l).1
          ∙ fine (goal.at.cut_all-count-requires c).In_ok-check_deltas;
      laying = record {
        many = (out l).many;
        rows = (out l).rows;
        parents = (out l).places.parents;
        in_bounds = omega (arith, wide.1, kept.bounds);
        in_ups = omega (arith, wide.6, kept.ups);
      };
      rooms = record {
        in_listed = omega (arith, wide.3, kept.order);
        in_starts = omega (arith, wide.4, kept.ranks);
        in_fees = in_fees (goal.at.cut_all-count-requires c).After-lay_out;
        in_sizes = omega (arith, wide.7, kept.spare);
      };
    }

-- ---- the chunks are cut

module _ (c : After-cut_all-count) (wide : slot_count (pool_of c.args.table.now) < length c.args.order.now) where
  abbrev order : List ℕ
  order = c.lay_out.new.places

  -- as many places of the order are lent as there are chunks
  fits : c.cut_all-count.result ≤ length order
  fits = omega (arith, c.cut_all-count.ensures.few, wide, c.lay_out.auto.places)

  lent_long : length (take c.cut_all-count.result order) ≡ c.cut_all-count.result
  lent_long = length-take-le c.cut_all-count.result order fits

pub sort_chunks-requires : goal.sort_chunks-requires
sort_chunks-requires c = let at = goal.at.sort_chunks-requires c in
    let wide = rooms at.In_ok-clusters in
    rw (lent_long at.After-cut_all-count wide.5)
    (rated (sane at.In_ok-check_deltas (both at.In_ok-clusters).1) c.cut_all-count.ensures
    (omega (arith, in_fees at.After-lay_out, c.cut_all-count.auto.fees))
    (omega (arith, wide.7, c.lay_out.auto.spare, c.cut_all-count.auto.sizes)))

pub returns-clause-answer_value : goal.returns-clause-answer_value
returns-clause-answer_value c = let at = goal.at.returns-clause-answer_value c in
    let is : stands_in c.args.table.now (length c.args.fees.now ∷ eight at.After-lay_out) ≡ true = stands_is at.After-lay_out ∙ stands at.In_ok-clusters in
    sym
    (ap (λ (b : Bool). answer_of (delta_refusals b c.args.table.now c.args.deltas.now)) is ∙ fine at.In_ok-check_deltas)

pub returns-clause-sorted : goal.returns-clause-sorted
returns-clause-sorted c = let at = goal.at.returns-clause-sorted c in
    let l = at.In_ok-clusters in
    let wide = rooms l in
    let long = lent_long at.After-cut_all-count wide.5 in
    let cut = c.cut_all-count.ensures in
    let good = sane at.In_ok-check_deltas (both l).1 in record {
      count = cut.many;
      rows = cut.rows;
      ends = omega (arith, cut.few, wide.4, c.lay_out.auto.ranks, c.cut_all-count.auto.starts);
      rates = cut.rates;
      within = order_within good cut long c.sort_chunks.ensures _;
      sorted = order_tried good cut long c.sort_chunks.ensures _;
      places = (out l).places;
    }

pub slice_bounds-sort_chunks-end : goal.slice_bounds-sort_chunks-end
slice_bounds-sort_chunks-end c = let at = goal.at.slice_bounds-sort_chunks-end c in
    fits at.After-cut_all-count (rooms at.In_ok-clusters).5

pub slice_bounds-sort_chunks-end-2 : goal.slice_bounds-sort_chunks-end-2
slice_bounds-sort_chunks-end-2 c = let at = goal.at.slice_bounds-sort_chunks-end-2 c in
    sym (lent_long at.After-cut_all-count (rooms at.In_ok-clusters).5)
