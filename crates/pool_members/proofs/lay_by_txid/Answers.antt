-- `lay_by_txid`: the clusters of the slots passed are laid out. Assumes nothing.
use mathlib.Core.Path.{◌≡◌, refl, sym, ap, ◌∙◌, subst}
use mathlib.Core.Bool.{true, false}
use mathlib.Core.List.{List}
use Prim.Native.Nat.{ℕ, ◌+◌, ◌-◌, ◌≤◌, ◌<◌}
use native.Mathlib.Omega.{arith}
use lib.ListN.{length, get_or, take, drop}
use Rattle.std.specs.Prelude.{is_some}
use Rattle.txset.specs.Sets.{has_in}
use Rattle.txset.proofs.Words.{has_in_zeros}
use Rattle.slotsets.specs.SlotSets.{capacity}
use Rattle.pool_table.specs.Pool.{Pool, slot_count, occupied}
use Rattle.pool_table.specs.Words.{pool_of}
use Rattle.pool_table.specs.WellFormed.{links_mutual}
use Rattle.pool_table.proofs.Puts.{back}
use Rattle.pool_links.proofs.Mutual.{occupied_in}
use Rattle.pool_clusters.proofs.Limits.{walk_fails}
use Rattle.pool_order.specs.Order.{slots_by_txid}
use Rattle.pool_members.specs.Members.{members_of, parents_of}
use Rattle.pool_members.specs.Steps.{StoredAt, Closed}
use Rattle.pool_members.proofs.Members.{within_few}
use Rattle.pool_members.proofs.Rows.{row_lent, row_long, row_kept, row_here}
use Rattle.pool_members.proofs.Laid.{few}
use Rattle.pool_members.proofs.Laying.{members_closed, laying_start, laying_taken, laying_skip, laying_room, laying_few, laying_bound}
use Rattle.pool_members.proofs.Laying.{laying_more, laying_within, laying_done}
use Rattle.pool_members.proofs.lay_by_txid.Goals as goal
use Rattle.pool_members.proofs.lay_by_txid.Goals.{In_ok-k, In-loop-s}

-- ---- the next slot by txid

module _ (c : In-loop-s) where
  abbrev pool_at : Pool
  pool_at = pool_of c.args.table.now

  abbrev slot : ℕ
  slot = get_or c.args.order.now c.loop-s.s-index 0

  few' : slot_count pool_at ≤ capacity
  few' = few c.args.table.now c.requires.linked

  links : links_mutual pool_at ≡ true
  links = c.requires.linked.links

  in_order : c.loop-s.s-index < length (slots_by_txid pool_at)
  in_order = subst (λ (xs : List ℕ). c.loop-s.s-index < length xs) c.requires.order_value c.loop-s-test.true

  at_order : slot ≡ get_or (slots_by_txid pool_at) c.loop-s.s-index 0
  at_order = ap (λ (xs : List ℕ). get_or xs c.loop-s.s-index 0) c.requires.order_value

  taken : occupied pool_at slot ≡ true
  taken = laying_taken few' links c.loop-s.s-index in_order slot at_order c.loop-s.invariant.0

  -- that was not seen
  module _ (new : has_in c.loop-s.seen slot ≡ false) where
    room : c.loop-s.end + length (members_of pool_at slot) ≤ length c.loop-s.members
    room = laying_room few' links c.loop-s.s-index in_order slot at_order c.loop-s.invariant.0 new

    bound : (c.loop-s.count + 1 < length c.loop-s.bounds) × (c.loop-s.count + 1 ≤ capacity)
    bound = (
      laying_bound few' links c.loop-s.s-index in_order slot at_order c.loop-s.invariant.0 new,
      omega (arith, few', laying_few few' links c.loop-s.s-index in_order slot at_order c.loop-s.invariant.0 new),
    )

-- ---- its cluster, once it is listed and within the limits

module _ (c : In_ok-k) where
  abbrev members_at : List ℕ
  members_at = members_of (pool_of c.args.table.now) (get_or c.args.order.now c.loop-s.s-index 0)

  abbrev listed : List ℕ
  listed = back c.loop-s.end (length c.loop-s.members - c.loop-s.end) c.list_cluster.new.room c.loop-s.members

  many : c.in_ok-k.k ≡ length members_at
  many = c.in_ok-k.ensures.listed.many

  module _ (room : c.loop-s.end + length members_at ≤ length c.loop-s.members) where
    listed_long : length listed ≡ length c.loop-s.members
    listed_long = row_long _ members_at _ _ room c.in_ok-k.ensures.listed.here

    listed_here : take (length members_at) (drop c.loop-s.end listed) ≡ members_at
    listed_here = row_here _ members_at _ _ room c.in_ok-k.ensures.listed.here

    -- what is lent to be noted
    part_is : take (c.loop-s.end + c.in_ok-k.k - c.loop-s.end) (drop c.loop-s.end listed) ≡ members_at
    part_is =
        let e : c.loop-s.end + c.in_ok-k.k - c.loop-s.end ≡ length members_at = omega (arith, many) in
        ap (λ (n : ℕ). take n (drop c.loop-s.end listed)) e ∙ listed_here

-- ---- the needs

pub loop-s-init : goal.loop-s-init
loop-s-init c = (laying_start _ _ c.requires.rooms refl (has_in_zeros 16), refl)

pub loop-s-preserved-then-contains : goal.loop-s-preserved-then-contains
loop-s-preserved-then-contains c = let d = (goal.at.loop-s-preserved-then-contains c).In-loop-s in
    let inv = c.loop-s.invariant in
    (laying_skip (few' d) (links d) c.loop-s.s-index (in_order d) (slot d) (at_order d) inv.0 (sym c.contains.ensures ∙ c.if-contains.true), inv.1)

pub list_cluster-requires-clause-linked : goal.list_cluster-requires-clause-linked
list_cluster-requires-clause-linked c = (c.requires.linked, taken (goal.at.list_cluster-requires-clause-linked c).In-loop-s)

pub list_cluster-requires-clause-s_in_bounds : goal.list_cluster-requires-clause-s_in_bounds
list_cluster-requires-clause-s_in_bounds c = let d = (goal.at.list_cluster-requires-clause-s_in_bounds c).In-loop-s in
    row_lent c.loop-s.end (members_of (pool_at d) (slot d)) c.loop-s.members (room d (sym c.contains.ensures ∙ c.if-contains.false))

-- a cluster that passes a limit
pub returns-in_err-k-clause-stands_value : goal.returns-in_err-k-clause-stands_value
returns-in_err-k-clause-stands_value c = let d = (goal.at.returns-in_err-k-clause-stands_value c).In-loop-s in
    let p = pool_at d in
    ap is_some c.from_residual.ensures
    ∙ sym
    (walk_fails p (slot d) (occupied_in p (slot d) (taken d)) (taken d)
    (sym c.list_cluster.ensures.within_value ∙ ap is_some c.in_err-k.was))

pub note_all-requires-clause-closed : goal.note_all-requires-clause-closed
note_all-requires-clause-closed c = let e = (goal.at.note_all-requires-clause-closed c).In_ok-k in
    let d = (goal.at.note_all-requires-clause-closed c).In-loop-s in
    let short = within_few (pool_at d) (few' d) (links d) (slot d) (taken d) c.requires.linked.limits c.in_ok-k.ensures.listed.good in
    subst (Closed (pool_at d)) (sym (part_is e (room d (sym c.contains.ensures ∙ c.if-contains.false))))
    (members_closed (pool_at d) (few' d) (links d) (slot d) (taken d) short)

pub loop-s-preserved : goal.loop-s-preserved
loop-s-preserved c = let e = (goal.at.loop-s-preserved c).In_ok-k in
    let d = (goal.at.loop-s-preserved c).In-loop-s in
    let new = sym c.contains.ensures ∙ c.if-contains.false in
    let r = room d new in
    let p = pool_at d in
    let loop = c.loop-s in
    let inv = loop.invariant in
    let told = c.in_ok-k.ensures.listed in
    let firsts = c.note_all.new.firsts in
    let ups = c.note_all.new.ups in (
      laying_more (few' d) (links d) loop.s-index (in_order d) (slot d) (at_order d) inv.0 new
          (record {
            good = told.good;
            total = ap (λ (n : ℕ). loop.end + n) told.many;
            long = listed_long e r;
            kept = row_kept _ (members_at e) _ _ r told.here;
            here = listed_here e r;
            starts = subst (λ (xs : List ℕ). StoredAt xs (λ k. loop.end) loop.firsts firsts) (part_is e r) c.note_all.ensures.stored_at;
            parents =
                subst (λ (xs : List ℕ). StoredAt xs (λ k. parents_of p xs (get_or xs k 0)) loop.ups ups) (part_is e r) c.note_all.ensures.stored_at_2;
            places_long = c.note_all.auto.places;
            seen_long = told.seen_long;
            told = told.told;
          }),
      listed_long e r ∙ inv.1,
    )

pub returns : goal.returns
returns c = let t = c.args.table.now in
    let l : length (slots_by_txid (pool_of t)) ≤ c.loop-s.s-index =
    subst (λ (xs : List ℕ). length xs ≤ c.loop-s.s-index) c.requires.order_value c.loop-s-test.false in
    let f = few t c.requires.linked in
    let m = c.requires.linked.links in record {
      stands_value = sym (laying_within f m c.loop-s.s-index l c.loop-s.invariant.0);
      laid_out = laying_done f m c.loop-s.s-index l c.loop-s.invariant.0;
    }

-- ---- the bounds

pub overflow_add-count : goal.overflow_add-count
overflow_add-count c = omega (arith, (bound (goal.at.overflow_add-count c).In-loop-s (sym c.contains.ensures ∙ c.if-contains.false)).1)

pub offset_bounds-bounds-count : goal.offset_bounds-bounds-count
offset_bounds-bounds-count c =
    omega (arith, (bound (goal.at.offset_bounds-bounds-count c).In-loop-s (sym c.contains.ensures ∙ c.if-contains.false)).1)

pub bounds-bounds-count : goal.bounds-bounds-count
bounds-bounds-count c = (bound (goal.at.bounds-bounds-count c).In-loop-s (sym c.contains.ensures ∙ c.if-contains.false)).0
