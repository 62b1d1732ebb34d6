use Prim.Native.Nat.{ℕ, ◌+◌, ◌≤◌, ◌<◌}
use native.Mathlib.Omega.{arith}
use mathlib.Core.Path.{◌≡◌, ◌∙◌}
use mathlib.Core.Bool.{false}
use mathlib.Core.List.{List, map}
use lib.ListN.{length, get_or, length-set}
use lib.IntN.{ℤ}
use Rattle.depgraph.specs.Graph.{is_cyclic}
use Rattle.pool_table.specs.Pool.{Pool, slot_count}
use Rattle.pool_table.specs.Words.{pool_of}
use Rattle.pool_table.specs.WellFormed.{well_formed}
use Rattle.pool_members.specs.Members.{parents_of, clusters}
use Rattle.pool_members.proofs.Rows.{start_within}
use Rattle.pool_chunks.specs.Chunks.{parts_of}
use Rattle.refusals.specs.Refusals.{answer_of}
use Rattle.pool_chunks.specs.Sorted.{delta_refusals}
use Rattle.pool_chunks.proofs.Clusters.{cluster_acyclic, parts_few}
use Rattle.pool_chunks.proofs.Laid as laid
use Rattle.pool_chunks.proofs.Laid.{Taken, stood, taken, clusters_fit, bound_fit, lent, lent_cluster, lent_cuttable}
use Rattle.pool_chunks.proofs.Cutting as cutting
use Rattle.pool_chunks.proofs.Cutting.{Cutting, cutting_start, cutting_turn, cutting_done, tail_long}
use Rattle.pool_chunks.proofs.cut.cut_all.Goals as goal
use Rattle.pool_chunks.proofs.cut.cut_all.Goals.{At-loop-c, In-loop-c}

-- ---- what is known of the pool

sane : (t : List ℕ) (ds : List ℤ) → answer_of (delta_refusals (well_formed t) t ds) ≡ 0 → Taken (pool_of t) ds
sane t ds e = taken (well_formed t) t ds e (stood (well_formed t) t ds e)

-- ---- at the loop's head: where the next cluster starts, and the rooms

module _ (c : At-loop-c) where
  abbrev from_at : ℕ
  from_at = get_or c.args.bounds.now c.loop-c.c 0

  safe : Taken (pool_of c.args.table.now) c.args.deltas.now
  safe = sane c.args.table.now c.args.deltas.now c.requires.deltas_value

  from_fits : from_at ≤ slot_count (pool_of c.args.table.now)
  from_fits = bound_fit safe c.requires.laying.rows c.loop-c.c c.loop-c.invariant.up

  count_fits : c.loop-c.count ≤ slot_count (pool_of c.args.table.now)
  count_fits = omega (arith, from_fits, c.loop-c.invariant.few)

  -- numbers that a word holds
  from_few : from_at ≤ 1024
  from_few = omega (arith, from_fits, safe.few)

  count_few : c.loop-c.count ≤ 1024
  count_few = omega (arith, count_fits, safe.few)

  listed_long : length c.loop-c.listed ≡ length c.args.listed.now
  listed_long = cutting.listed_long c.loop-c.invariant (omega (arith, from_fits, c.requires.rooms.in_listed))

  starts_long : length c.loop-c.starts ≡ length c.args.starts.now
  starts_long =
      let z = length-set c.args.starts.now 0 0 in
      cutting.starts_long c.loop-c.invariant (omega (arith, from_fits, c.requires.rooms.in_starts, z)) ∙ z

  fees_long : length c.loop-c.fees ≡ length c.args.fees.now
  fees_long = cutting.fees_long c.loop-c.invariant (omega (arith, from_fits, c.requires.rooms.in_fees))

  sizes_long : length c.loop-c.sizes ≡ length c.args.sizes.now
  sizes_long = cutting.sizes_long c.loop-c.invariant (omega (arith, from_fits, c.requires.rooms.in_sizes))

  -- what is written has a place in each room
  in_listed : from_at ≤ length c.loop-c.listed
  in_listed = omega (arith, from_fits, listed_long, c.requires.rooms.in_listed)

  in_starts : c.loop-c.count + 1 ≤ length c.loop-c.starts
  in_starts = omega (arith, count_fits, starts_long, c.requires.rooms.in_starts)

  in_fees : c.loop-c.count ≤ length c.loop-c.fees
  in_fees = omega (arith, count_fits, fees_long, c.requires.rooms.in_fees)

  in_sizes : c.loop-c.count ≤ length c.loop-c.sizes
  in_sizes = omega (arith, count_fits, sizes_long, c.requires.rooms.in_sizes)

-- ---- in a turn: the cluster that is lent

module _ (c : In-loop-c) where
  abbrev pool_in : Pool
  pool_in = pool_of c.args.table.now

  abbrev deltas_in : List ℤ
  deltas_in = c.args.deltas.now

  safe_here : Taken pool_in deltas_in
  safe_here = sane c.args.table.now deltas_in c.requires.deltas_value

  below : c.loop-c.c < length (clusters pool_in)
  below = omega (arith, c.loop-c-test.true, c.requires.laying.many)

  abbrev to_at : ℕ
  to_at = get_or c.args.bounds.now (c.loop-c.c + 1) 0

  abbrev ms : List ℕ
  ms = lent safe_here c.requires.laying.rows c.loop-c.c below

  c_fits : c.loop-c.c + 1 < length c.args.bounds.now
  c_fits = omega (arith, below, clusters_fit safe_here, c.requires.laying.in_bounds)

  c_few : c.loop-c.c < 1024
  c_few = omega (arith, below, clusters_fit safe_here, safe_here.few)

  to_fits : to_at ≤ slot_count pool_in
  to_fits = bound_fit safe_here c.requires.laying.rows (c.loop-c.c + 1) (omega (arith, below))

  to_is : to_at ≡ get_or c.args.bounds.now c.loop-c.c 0 + length ms
  to_is = laid.next_bound safe_here c.requires.laying.rows c.loop-c.c below

  acyclic : is_cyclic (map (parents_of pool_in ms) ms) ≡ false
  acyclic = cluster_acyclic pool_in safe_here.few safe_here.sound (lent_cluster safe_here c.requires.laying.rows c.loop-c.c below)

  count_more : {k : ℕ} → k ≡ length (parts_of pool_in deltas_in ms) → c.loop-c.count + k ≤ slot_count pool_in
  count_more e = omega (arith, e, parts_few pool_in deltas_in ms acyclic, c.loop-c.invariant.few, to_is, to_fits)

-- ---- the needs

pub loop-c-init : goal.loop-c-init
loop-c-init c =
    cutting_start (pool_of c.args.table.now) c.args.deltas.now c.args.starts.now c.requires.laying.rows.first
    (omega (arith, c.requires.rooms.in_starts))

pub slice_bounds-cut_cluster-end : goal.slice_bounds-cut_cluster-end
slice_bounds-cut_cluster-end c = let w = (goal.at.slice_bounds-cut_cluster-end c).In-loop-c in
    let r = c.requires.laying.rows in
    omega (arith, start_within r (c.loop-c.c + 1) (omega (arith, below w)), r.within)

pub cut_cluster-count-requires : goal.cut_cluster-count-requires
cut_cluster-count-requires c = let w = (goal.at.cut_cluster-count-requires c).In-loop-c in
    let a = (goal.at.cut_cluster-count-requires c).At-loop-c in
    let n = to_is w in
    let f = to_fits w in
    let few = c.loop-c.invariant.few in
    let k = c.loop-c.count in
    let wide = c.requires.rooms in
    let out = c.requires.laying in record {
      cuttable = lent_cuttable (safe a) out.rows c.loop-c.c (below w) out.parents out.in_ups;
      members_in_bounds = (
        omega (arith, tail_long (from_at a) c.loop-c.listed, listed_long a, wide.in_listed),
        omega (arith, tail_long (k + 1) c.loop-c.starts, starts_long a, wide.in_starts),
      );
      members_in_bounds_2 = (
        omega (arith, tail_long k c.loop-c.fees, fees_long a, wide.in_fees),
        omega (arith, tail_long k c.loop-c.sizes, sizes_long a, wide.in_sizes),
      );
    }

pub overflow_add-count : goal.overflow_add-count
overflow_add-count c = let w = (goal.at.overflow_add-count c).In-loop-c in
    omega (arith, count_more w c.cut_cluster-count.ensures.value, (safe_here w).few)

pub loop-c-preserved : goal.loop-c-preserved
loop-c-preserved c = let w = (goal.at.loop-c-preserved c).In-loop-c in
    let told = c.cut_cluster-count.ensures in
    cutting_turn c.loop-c.invariant (below w) (ms w) (laid.lent_is (safe_here w) c.requires.laying.rows c.loop-c.c (below w)) (acyclic w) (to_is w)
    told.value told.listed_after told.ends_after told.fees_after told.sizes_after

pub bounds-starts-0 : goal.bounds-starts-0
bounds-starts-0 c = omega (arith, c.requires.rooms.in_starts)

pub offset_bounds-bounds-c : goal.offset_bounds-bounds-c
offset_bounds-bounds-c c = omega (arith, c_few (goal.at.offset_bounds-bounds-c c).In-loop-c)

pub bounds-bounds-c : goal.bounds-bounds-c
bounds-bounds-c c = omega (arith, c_fits (goal.at.bounds-bounds-c c).In-loop-c)

pub overflow_add-to : goal.overflow_add-to
overflow_add-to c = omega (arith, c_few (goal.at.overflow_add-to c).In-loop-c)

pub offset_bounds-bounds-c-in-loop-c : goal.offset_bounds-bounds-c-in-loop-c
offset_bounds-bounds-c-in-loop-c c = omega (arith, c_few (goal.at.offset_bounds-bounds-c-in-loop-c c).In-loop-c)

pub bounds-bounds-c-in-loop-c : goal.bounds-bounds-c-in-loop-c
bounds-bounds-c-in-loop-c c = c_fits (goal.at.bounds-bounds-c-in-loop-c c).In-loop-c

pub overflow_add-next : goal.overflow_add-next
overflow_add-next c = omega (arith, count_few (goal.at.overflow_add-next c).At-loop-c)

pub offset_bounds-members-from : goal.offset_bounds-members-from
offset_bounds-members-from c = omega (arith, from_few (goal.at.offset_bounds-members-from c).At-loop-c)

pub slice_bounds-cut_cluster-count : goal.slice_bounds-cut_cluster-count
slice_bounds-cut_cluster-count c = omega (arith, to_is (goal.at.slice_bounds-cut_cluster-count c).In-loop-c)

pub slice_bounds-cut_cluster-start : goal.slice_bounds-cut_cluster-start
slice_bounds-cut_cluster-start c = omega (arith, to_is (goal.at.slice_bounds-cut_cluster-start c).In-loop-c)

pub offset_bounds-listed-from : goal.offset_bounds-listed-from
offset_bounds-listed-from c = omega (arith, from_few (goal.at.offset_bounds-listed-from c).At-loop-c)

pub slice_bounds-cut_cluster-count-in-loop-c : goal.slice_bounds-cut_cluster-count-in-loop-c
slice_bounds-cut_cluster-count-in-loop-c c = omega (arith, in_listed (goal.at.slice_bounds-cut_cluster-count-in-loop-c c).At-loop-c)

pub slice_bounds-cut_cluster-start-in-loop-c : goal.slice_bounds-cut_cluster-start-in-loop-c
slice_bounds-cut_cluster-start-in-loop-c c = omega (arith, in_listed (goal.at.slice_bounds-cut_cluster-start-in-loop-c c).At-loop-c)

pub offset_bounds-starts-next : goal.offset_bounds-starts-next
offset_bounds-starts-next c = omega (arith, count_few (goal.at.offset_bounds-starts-next c).At-loop-c)

pub slice_bounds-cut_cluster-count-in-loop-c-2 : goal.slice_bounds-cut_cluster-count-in-loop-c-2
slice_bounds-cut_cluster-count-in-loop-c-2 c = omega (arith, in_starts (goal.at.slice_bounds-cut_cluster-count-in-loop-c-2 c).At-loop-c)

pub slice_bounds-cut_cluster-start-in-loop-c-2 : goal.slice_bounds-cut_cluster-start-in-loop-c-2
slice_bounds-cut_cluster-start-in-loop-c-2 c = omega (arith, in_starts (goal.at.slice_bounds-cut_cluster-start-in-loop-c-2 c).At-loop-c)

pub offset_bounds-fees-count : goal.offset_bounds-fees-count
offset_bounds-fees-count c = omega (arith, count_few (goal.at.offset_bounds-fees-count c).At-loop-c)

pub slice_bounds-cut_cluster-count-in-loop-c-3 : goal.slice_bounds-cut_cluster-count-in-loop-c-3
slice_bounds-cut_cluster-count-in-loop-c-3 c = omega (arith, in_fees (goal.at.slice_bounds-cut_cluster-count-in-loop-c-3 c).At-loop-c)

pub slice_bounds-cut_cluster-start-in-loop-c-3 : goal.slice_bounds-cut_cluster-start-in-loop-c-3
slice_bounds-cut_cluster-start-in-loop-c-3 c = omega (arith, in_fees (goal.at.slice_bounds-cut_cluster-start-in-loop-c-3 c).At-loop-c)

pub offset_bounds-sizes-count : goal.offset_bounds-sizes-count
offset_bounds-sizes-count c = omega (arith, count_few (goal.at.offset_bounds-sizes-count c).At-loop-c)

pub slice_bounds-cut_cluster-count-in-loop-c-4 : goal.slice_bounds-cut_cluster-count-in-loop-c-4
slice_bounds-cut_cluster-count-in-loop-c-4 c = omega (arith, in_sizes (goal.at.slice_bounds-cut_cluster-count-in-loop-c-4 c).At-loop-c)

pub slice_bounds-cut_cluster-start-in-loop-c-4 : goal.slice_bounds-cut_cluster-start-in-loop-c-4
slice_bounds-cut_cluster-start-in-loop-c-4 c = omega (arith, in_sizes (goal.at.slice_bounds-cut_cluster-start-in-loop-c-4 c).At-loop-c)

pub returns : goal.returns
returns c = cutting_done c.loop-c.invariant (omega (arith, c.loop-c-test.false, c.requires.laying.many)) (count_fits (goal.at.returns c).At-loop-c)
