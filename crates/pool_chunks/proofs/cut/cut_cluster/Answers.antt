use Prim.Native.Nat.{ℕ, ◌≤◌}
use native.Mathlib.Omega.{arith}
use mathlib.Core.Path.{◌≡◌, refl, sym, ap, ◌∙◌}
use mathlib.Core.List.{List, map}
use lib.ListN.{length, take, get_or, length-map}
use lib.IntN.{ℤ}
use Rattle.pool_table.specs.Pool.{Pool}
use Rattle.pool_table.specs.Words.{pool_of}
use Rattle.pool_chunks.specs.Chunks.{fees_of, sizes_of}
use Rattle.pool_chunks.proofs.OneCluster.{front_is, alone_written, answered, Ordered, ordered, ordered_long, ordered_many, ordered_few}
use Rattle.pool_chunks.proofs.OneCluster.{ordered_below, ordered_fits, ordered_whole, ordered_written}
use Rattle.pool_chunks.proofs.cut.cut_cluster.Goals as goal
use Rattle.pool_chunks.proofs.cut.cut_cluster.Goals.{After-pick, After-gather_rates, After-order_cluster-k}

-- ---- what was gathered

module _ (c : After-gather_rates) where
  abbrev members_in : List ℕ
  members_in = c.args.members.now

  abbrev pool_in : Pool
  pool_in = pool_of c.args.table.now

  abbrev deltas_in : List ℤ
  deltas_in = c.args.deltas.now

  -- the starts of both rooms, as they are lent
  abbrev fees_lent : List ℤ
  fees_lent = take (length c.args.members.now) c.gather_rates.new.fees

  abbrev sizes_lent : List ℕ
  sizes_lent = take (length c.args.members.now) c.gather_rates.new.sizes

  fees_are : fees_lent ≡ fees_of pool_in deltas_in members_in
  fees_are = front_is _ _ c.gather_rates.ensures.fees_after (length-map members_in _)

  fees_long : length fees_lent ≡ length members_in
  fees_long = ap length fees_are ∙ length-map members_in _

  fees_wide : length members_in ≤ length c.gather_rates.new.fees
  fees_wide = omega (arith, c.gather_rates.auto.fees, c.requires.cuttable.few)

  sizes_are : sizes_lent ≡ sizes_of pool_in members_in
  sizes_are = front_is _ _ c.gather_rates.ensures.sizes_after (length-map members_in _)

  sizes_long : length sizes_lent ≡ length members_in
  sizes_long = ap length sizes_are ∙ length-map members_in _

  sizes_wide : length members_in ≤ length c.gather_rates.new.sizes
  sizes_wide = omega (arith, c.gather_rates.auto.sizes, c.requires.cuttable.few)

module _ (c : After-pick) where
  abbrev ups_lent : List ℕ
  ups_lent = take (length c.args.members.now) c.pick.new.to

  ups_are : ups_lent ≡ map (λ s. get_or c.args.ups.now s 0) c.args.members.now
  ups_are = front_is _ _ (c.pick.ensures 0) (length-map c.args.members.now _)

  ups_long : length ups_lent ≡ length c.args.members.now
  ups_long = ap length ups_are ∙ length-map c.args.members.now _

-- ---- what was ordered

module _ (c : After-order_cluster-k) where
  abbrev order_lent : List ℕ
  order_lent = take (length c.args.members.now) c.order_cluster-k.new.order

  abbrev lens_lent : List ℕ
  lens_lent = take c.order_cluster-k.result c.order_cluster-k.new.lens

  -- the cluster, gathered as it was lent, came back ordered
  ready : Ordered c.requires.cuttable (take (length c.args.members.now) c.gather_rates.new.fees)
      (take (length c.args.members.now) c.gather_rates.new.sizes) order_lent lens_lent c.order_cluster-k.result
  ready =
      let told = c.order_cluster-k.ensures in
      ordered c.requires.cuttable _ _ _ _ _
      (front_is _ _ c.gather_rates.ensures.fees_after (length-map c.args.members.now _))
      (front_is _ _ c.gather_rates.ensures.sizes_after (length-map c.args.members.now _))
      (front_is _ _ (c.pick.ensures 0) (length-map c.args.members.now _))
      told.value told.order_after told.lens_after

  order_long : length order_lent ≡ length c.args.members.now
  order_long = ordered_long c.requires.cuttable ready

  order_wide : length c.args.members.now ≤ length c.order_cluster-k.new.order
  order_wide = omega (arith, c.order_cluster-k.auto.order, c.requires.cuttable.few)

  lens_long : length lens_lent ≡ c.order_cluster-k.result
  lens_long = ordered_many c.requires.cuttable ready

  lens_few : c.order_cluster-k.result ≤ length c.args.members.now
  lens_few = ordered_few c.requires.cuttable ready

  lens_wide : c.order_cluster-k.result ≤ length c.order_cluster-k.new.lens
  lens_wide = omega (arith, c.order_cluster-k.auto.lens, c.requires.cuttable.few, lens_few)

-- ---- the needs

pub slot_rate-requires : goal.slot_rate-requires
slot_rate-requires c = c.requires.cuttable.pay 0 (omega (arith, c.if-n-eq1.true))

pub returns-then-n-eq1 : goal.returns-then-n-eq1
returns-then-n-eq1 c = let put = c.put.ensures in
    let wide = c.requires.members_in_bounds in
    let wide_rates = c.requires.members_in_bounds_2 in
    let one = c.if-n-eq1.true in
    let all = alone_written c.requires.cuttable one _ _ _ _ _
    (omega (arith, wide.0)) (omega (arith, wide.1)) (omega (arith, wide_rates.0)) (omega (arith, wide_rates.1))
    c.slot_rate.ensures put.fees_after put.sizes_after in record {
      value = all.0;
      listed_after = all.1.0;
      ends_after = all.1.1.0;
      fees_after = all.1.1.1.0;
      sizes_after = all.1.1.1.1;
    }

pub order_cluster-k-requires : goal.order_cluster-k-requires
order_cluster-k-requires c = let g = (goal.at.order_cluster-k-requires c).After-gather_rates in
    answered c.requires.cuttable _ _ _ (fees_are g) (sizes_are g) (ups_are (goal.at.order_cluster-k-requires c).After-pick) refl refl

pub pick-requires-2 : goal.pick-requires-2
pick-requires-2 c = let o = (goal.at.pick-requires-2 c).After-order_cluster-k in record {
  by_index = ordered_below c.requires.cuttable (ready o);
  places_in_bounds = omega (arith, order_long o, c.requires.members_in_bounds.0);
}

pub put_ends-requires : goal.put_ends-requires
put_ends-requires c = let o = (goal.at.put_ends-requires c).After-order_cluster-k in record {
  lens_bound = ordered_fits c.requires.cuttable (ready o);
  lens_in_bounds = omega (arith, lens_long o, lens_few o, c.requires.members_in_bounds.1);
}

pub put_rates-requires : goal.put_rates-requires
put_rates-requires c = let o = (goal.at.put_rates-requires c).After-order_cluster-k in
    let wide = c.requires.members_in_bounds_2 in record {
      lens_in_bounds = ordered_whole c.requires.cuttable (ready o);
      lens_in_bounds_2 = omega (arith, lens_long o, lens_few o, wide.0);
      lens_in_bounds_3 = omega (arith, lens_long o, lens_few o, wide.1);
    }

pub returns : goal.returns
returns c = let o = (goal.at.returns c).After-order_cluster-k in
    let all = ordered_written c.requires.cuttable (ready o) _ _ _ _ (c.pick-2.ensures 0) c.put_ends.ensures c.put_rates.ensures.fees_after
    c.put_rates.ensures.sizes_after in record {
      value = all.0;
      listed_after = all.1.0;
      ends_after = all.1.1.0;
      fees_after = all.1.1.1.0;
      sizes_after = all.1.1.1.1;
    }

-- ---- the bounds

pub slice_bounds-order_cluster-end : goal.slice_bounds-order_cluster-end
slice_bounds-order_cluster-end c = sym (fees_long (goal.at.slice_bounds-order_cluster-end c).After-gather_rates)

pub slice_bounds-order_cluster-end-2 : goal.slice_bounds-order_cluster-end-2
slice_bounds-order_cluster-end-2 c = sym (sizes_long (goal.at.slice_bounds-order_cluster-end-2 c).After-gather_rates)

pub slice_bounds-order_cluster-end-3 : goal.slice_bounds-order_cluster-end-3
slice_bounds-order_cluster-end-3 c = sym (ups_long (goal.at.slice_bounds-order_cluster-end-3 c).After-pick)

pub slice_bounds-pick-end-2 : goal.slice_bounds-pick-end-2
slice_bounds-pick-end-2 c = sym (order_long (goal.at.slice_bounds-pick-end-2 c).After-order_cluster-k)

pub slice_bounds-lens-end : goal.slice_bounds-lens-end
slice_bounds-lens-end c = lens_wide (goal.at.slice_bounds-lens-end c).After-order_cluster-k

pub slice_bounds-put_ends-end : goal.slice_bounds-put_ends-end
slice_bounds-put_ends-end c = sym (lens_long (goal.at.slice_bounds-put_ends-end c).After-order_cluster-k)

pub slice_bounds-in_fees-end-2 : goal.slice_bounds-in_fees-end-2
slice_bounds-in_fees-end-2 c = fees_wide (goal.at.slice_bounds-in_fees-end-2 c).After-gather_rates

pub slice_bounds-put_rates-end : goal.slice_bounds-put_rates-end
slice_bounds-put_rates-end c = sym (fees_long (goal.at.slice_bounds-put_rates-end c).After-gather_rates)

pub slice_bounds-in_sizes-end-2 : goal.slice_bounds-in_sizes-end-2
slice_bounds-in_sizes-end-2 c = sizes_wide (goal.at.slice_bounds-in_sizes-end-2 c).After-gather_rates

pub slice_bounds-put_rates-end-2 : goal.slice_bounds-put_rates-end-2
slice_bounds-put_rates-end-2 c = sym (sizes_long (goal.at.slice_bounds-put_rates-end-2 c).After-gather_rates)

pub slice_bounds-order-end-2 : goal.slice_bounds-order-end-2
slice_bounds-order-end-2 c = order_wide (goal.at.slice_bounds-order-end-2 c).After-order_cluster-k

pub slice_bounds-put_rates-end-3 : goal.slice_bounds-put_rates-end-3
slice_bounds-put_rates-end-3 c = sym (order_long (goal.at.slice_bounds-put_rates-end-3 c).After-order_cluster-k)

pub slice_bounds-lens-end-2 : goal.slice_bounds-lens-end-2
slice_bounds-lens-end-2 c = lens_wide (goal.at.slice_bounds-lens-end-2 c).After-order_cluster-k

pub slice_bounds-put_rates-end-4 : goal.slice_bounds-put_rates-end-4
slice_bounds-put_rates-end-4 c = sym (lens_long (goal.at.slice_bounds-put_rates-end-4 c).After-order_cluster-k)
