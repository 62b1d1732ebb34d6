-- `lay_out`: nothing where the table does not stand or a room is too short; else the slots by txid, ranked, and then the clusters. Assumes
-- nothing.
use mathlib.Core.Path.{◌≡◌, sym, ap, ◌∙◌, subst}
use mathlib.Core.Bool.{Bool, true, ◌&&◌}
use mathlib.Core.List.{List, [], ◌∷◌, ◌++◌}
use Prim.Native.Nat.{ℕ, ◌≤◌, ◌<◌}
use native.Mathlib.Omega.{arith}
use lib.ListN.{length, get_or, length-take, length-set}
use lib.Seq.{length-take-le, get_or-set_same}
use Rattle.std.specs.Prelude.{is_some}
use Rattle.lists.specs.Lists.{distinct}
use Rattle.pool_table.specs.Pool.{slot_count}
use Rattle.pool_table.specs.Words.{pool_of}
use Rattle.pool_table.specs.WellFormed.{clusters_within}
use Rattle.pool_order.specs.Order.{roomy, stands_in}
use Rattle.pool_order.specs.Packed.{Standing}
use Rattle.pool_order.proofs.Slots.{roomy_both}
use Rattle.pool_order.proofs.Theorems.{slots_once}
use Rattle.pool_check.specs.Linked.{Linked}
use Rattle.pool_check.proofs.Parts.{stands_linked, linked_both}
use Rattle.pool_members.proofs.Laid.{six_wide, stands_short, stands_rest, slots_in, order_fits, order_is}
use Rattle.pool_members.proofs.lay_out.Goals as goal
use Rattle.pool_members.proofs.lay_out.Goals.{After-sort_linked, In_ok-n}

-- ---- the rooms

pub returns-then-not-are_wide-clause-stands_value : goal.returns-then-not-are_wide-clause-stands_value
returns-then-not-are_wide-clause-stands_value c = let args = c.args in
    let six =
    length args.members.now
    ∷ length args.bounds.now
    ∷ length args.firsts.now
    ∷ length args.order.now
    ∷ length args.ranks.now
    ∷ length args.places.now
    ∷ [] in
    let wide = c.are_wide.ensures ∙ ap (λ (n : ℕ). roomy n six) c.slots.ensures in
    stands_short args.table.now six (length args.ups.now ∷ length args.spare.now ∷ []) (sym wide ∙ c.if-not-are_wide.true)

-- ---- whether the table stands

module _ (c : After-sort_linked) where
  abbrev six : List ℕ
  six =
      length c.args.members.now
      ∷ length c.args.bounds.now
      ∷ length c.args.firsts.now
      ∷ length c.args.order.now
      ∷ length c.args.ranks.now
      ∷ length c.args.places.now
      ∷ []

  abbrev two : List ℕ
  two = length c.args.ups.now ∷ length c.args.spare.now ∷ []

  abbrev slots : ℕ
  slots = slot_count (pool_of c.args.table.now)

  six_are : roomy slots six ≡ true
  six_are = sym (c.are_wide.ensures ∙ ap (λ (n : ℕ). roomy n six) c.slots.ensures) ∙ c.if-not-are_wide.false

  stood : stands_in c.args.table.now (six ++ two) ≡ (is_some c.sort_linked.result && clusters_within (pool_of c.args.table.now))
  stood =
      let t = c.args.table.now in
      stands_rest t six two six_are
      ∙ stands_linked t two
      ∙ ap (λ (b : Bool). b && clusters_within (pool_of t)) (sym c.sort_linked.ensures.stands_value)

-- a table that stands
module _ (c : In_ok-n) where
  abbrev wide_slots : ℕ
  wide_slots = slot_count (pool_of c.args.table.now)

  both : (roomy wide_slots (length c.args.ups.now ∷ length c.args.spare.now ∷ []) ≡ true) × Linked c.args.table.now
  both =
      linked_both c.args.table.now (length c.args.ups.now ∷ length c.args.spare.now ∷ [])
      (sym c.sort_linked.ensures.stands_value ∙ ap is_some c.in_ok-n.was)

  linked : Linked c.args.table.now
  linked = both.1

  packed : Standing (pool_of c.args.table.now) c.in_ok-n.n c.args.ups.now c.sort_linked.new.keys
  packed = c.in_ok-n.ensures.standing

  rooms : (wide_slots < length c.args.members.now)
      × (wide_slots < length c.args.bounds.now)
      × (wide_slots < length c.args.firsts.now)
      × (wide_slots < length c.args.order.now)
      × (wide_slots < length c.args.ranks.now)
      × (wide_slots < length c.args.places.now)
  rooms =
      let six =
      length c.args.members.now
      ∷ length c.args.bounds.now
      ∷ length c.args.firsts.now
      ∷ length c.args.order.now
      ∷ length c.args.ranks.now
      ∷ length c.args.places.now
      ∷ [] in
      six_wide (sym (c.are_wide.ensures ∙ ap (λ (n : ℕ). roomy n six) c.slots.ensures) ∙ c.if-not-are_wide.false)

  in_ups : wide_slots < length c.sort_linked.new.keys
  in_ups = omega (arith, (roomy_both _ both.0).0, c.sort_linked.auto.keys)

  few : c.in_ok-n.n ≤ wide_slots
  few = order_fits c.args.table.now linked packed

pub returns-in_err-n-clause-stands_value : goal.returns-in_err-n-clause-stands_value
returns-in_err-n-clause-stands_value c = let p = pool_of c.args.table.now in
    ap is_some c.from_residual.ensures
    ∙ sym (stood (goal.at.returns-in_err-n-clause-stands_value c).After-sort_linked ∙ ap (λ (b : Bool). b && clusters_within p) (ap is_some c.in_err-n.was))

-- ---- the slots by txid

pub unpack_all-requires : goal.unpack_all-requires
unpack_all-requires c = let d = (goal.at.unpack_all-requires c).In_ok-n in
    simp length-take (omega (arith, few d, (rooms d).3))

pub rank_all-requires : goal.rank_all-requires
rank_all-requires c = let d = (goal.at.rank_all-requires c).In_ok-n in
    let t = c.args.table.now in
    let sorted = order_is t (linked d) (packed d) c.args.order.now c.unpack_all.ensures in record {
      slots_value = ap distinct sorted ∙ slots_once (pool_of t);
      by_index =
          λ k l.
          subst (λ (xs : List ℕ). get_or xs k 0 < length c.args.ranks.now) (sym sorted)
          (omega (arith, (rooms d).4, slots_in t (linked d) k (subst (λ (xs : List ℕ). k < length xs) sorted l)));
    }

-- ---- the clusters

pub lay_by_txid-requires : goal.lay_by_txid-requires
lay_by_txid-requires c = let d = (goal.at.lay_by_txid-requires c).In_ok-n in
    let t = c.args.table.now in
    let wide = rooms d in
    let bounds = c.args.bounds.now in record {
      linked = linked d;
      order_value = order_is t (linked d) (packed d) c.args.order.now c.unpack_all.ensures;
      table_in_bounds = ((omega (arith, wide.4, c.rank_all.auto.ranks)), c.rank_all.ensures.here);
      rooms = record {
        in_members = wide.0;
        in_bounds = omega (arith, wide.1, length-set bounds 0 0);
        in_firsts = wide.2;
        in_ups = in_ups d;
        in_places = wide.5;
        start = get_or-set_same bounds 0 0 0 (omega (arith, wide.1));
      };
    }

pub returns-clause-stands_value : goal.returns-clause-stands_value
returns-clause-stands_value c = let p = pool_of c.args.table.now in
    c.lay_by_txid.ensures.stands_value
    ∙ sym
    (stood (goal.at.returns-clause-stands_value c).After-sort_linked ∙ ap (λ (b : Bool). b && clusters_within p) (ap is_some c.in_ok-n.was))

-- ---- the bounds

pub slice_bounds-unpack_all-end : goal.slice_bounds-unpack_all-end
slice_bounds-unpack_all-end c = let d = (goal.at.slice_bounds-unpack_all-end c).In_ok-n in
    omega (arith, few d, in_ups d)

pub slice_bounds-unpack_all-end-2 : goal.slice_bounds-unpack_all-end-2
slice_bounds-unpack_all-end-2 c = let d = (goal.at.slice_bounds-unpack_all-end-2 c).In_ok-n in
    sym (length-take-le _ _ (omega (arith, few d, in_ups d)))

pub slice_bounds-rank_all-end : goal.slice_bounds-rank_all-end
slice_bounds-rank_all-end c = let d = (goal.at.slice_bounds-rank_all-end c).In_ok-n in
    omega (arith, few d, (rooms d).3, c.unpack_all.auto.order)

pub slice_bounds-rank_all-end-2 : goal.slice_bounds-rank_all-end-2
slice_bounds-rank_all-end-2 c = let d = (goal.at.slice_bounds-rank_all-end-2 c).In_ok-n in
    sym (length-take-le _ _ (omega (arith, few d, (rooms d).3, c.unpack_all.auto.order)))

pub bounds-bounds-0 : goal.bounds-bounds-0
bounds-bounds-0 c = omega (arith, (rooms (goal.at.bounds-bounds-0 c).In_ok-n).1)

pub slice_bounds-lay_by_txid-end : goal.slice_bounds-lay_by_txid-end
slice_bounds-lay_by_txid-end c = let d = (goal.at.slice_bounds-lay_by_txid-end c).In_ok-n in
    omega (arith, few d, (rooms d).3, c.unpack_all.auto.order)

pub slice_bounds-lay_by_txid-end-2 : goal.slice_bounds-lay_by_txid-end-2
slice_bounds-lay_by_txid-end-2 c = let d = (goal.at.slice_bounds-lay_by_txid-end-2 c).In_ok-n in
    sym (length-take-le _ _ (omega (arith, few d, (rooms d).3, c.unpack_all.auto.order)))
