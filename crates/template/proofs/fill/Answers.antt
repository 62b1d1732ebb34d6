-- `fill`: the chunks passed were tried, and what is selected stands in the arrays and in sums. Assumes nothing.
use mathlib.Core.Path.{refl, sym, ◌∙◌}
use Prim.Native.Nat.{ℕ, ◌+◌, ◌≤◌, ◌<◌}
use native.Mathlib.Omega.{arith}
use lib.ListN.{length, get_or, length-take}
use lib.Seq.{length-take-le}
use Rattle.pool_table.specs.Pool.{Pool, slot_count}
use Rattle.pool_table.specs.Words.{pool_of}
use Rattle.pool_chunks.specs.Sorted.{Arrays, arrays}
use Rattle.template.proofs.Going.{number_at, numbers_long, number_few, starts_rise, starts_within, starts_few, slots_held}
use Rattle.template.proofs.Going.{going_start, going_taken, going_passed, going_done}
use Rattle.template.proofs.fill.Goals as goal
use Rattle.template.proofs.fill.Goals.{In-loop-c}

-- ---- in a turn

module _ (c : In-loop-c) where
  abbrev pool_in : Pool
  pool_in = pool_of c.args.table.now

  abbrev chunks : Arrays
  chunks =
      let a = c.args in
      arrays a.count a.listed.now a.starts.now a.fees.now a.sizes.now a.order.now a.members.now a.firsts.now a.ups.now

  turn : c.loop-c.c-index < c.args.count
  turn = omega (arith, c.loop-c-test.true, length-take c.args.count c.args.order.now)

  -- its number, and where its slots start and end
  abbrev number : ℕ
  number = number_at chunks c.loop-c.c-index

  few : number + 1 < length c.args.starts.now
  few =
      let given = c.requires.fillable in
      omega (arith, number_few pool_in given.deltas given.sorted c.loop-c.c-index turn, given.sorted.ends)

  rise : get_or c.args.starts.now number 0 ≤ get_or c.args.starts.now (number + 1) 0
  rise = starts_rise pool_in c.requires.fillable.deltas c.requires.fillable.sorted c.loop-c.c-index turn

  within : get_or c.args.starts.now (number + 1) 0 ≤ length c.args.listed.now
  within = starts_within pool_in c.requires.fillable.deltas c.requires.fillable.sorted c.loop-c.c-index turn

  from_few : get_or c.args.starts.now number 0 ≤ 1024
  from_few =
      let given = c.requires.fillable in
      let h : get_or c.args.starts.now (number + 1) 0 ≤ slot_count pool_in =
      starts_few pool_in given.deltas given.sorted c.loop-c.c-index turn given.few given.stands in
      omega (arith, rise, given.few)

pub loop-c-init : goal.loop-c-init
loop-c-init c = let args = c.args in
    let chunks =
    arrays args.count args.listed.now args.starts.now args.fees.now args.sizes.now args.order.now args.members.now args.firsts.now args.ups.now in (
      rw c.nothing-used.ensures
          (going_start (pool_of args.table.now) args.marks.now args.terms chunks args.picked.now c.requires.table_in_bounds),
      refl,
    )

pub slice_bounds-c-items-end : goal.slice_bounds-c-items-end
slice_bounds-c-items-end c = let given = c.requires.fillable in
    sym (length-take-le c.args.count c.args.order.now (numbers_long (pool_of c.args.table.now) given.deltas given.sorted))

pub try_chunk-outcome-requires : goal.try_chunk-outcome-requires
try_chunk-outcome-requires c = let l = turn (goal.at.try_chunk-outcome-requires c).In-loop-c in
    let given = c.requires.fillable in record {
      laid = record { stands = given.stands; few = given.few; places = given.sorted.places; wide = given.wide };
      occupied = slots_held (pool_of c.args.table.now) given.deltas given.sorted c.loop-c.c-index l;
      stands = c.loop-c.invariant.0.held;
    }

pub loop-c-preserved-in_default : goal.loop-c-preserved-in_default
loop-c-preserved-in_default c = let l = turn (goal.at.loop-c-preserved-in_default c).In-loop-c in
    let long = c.try_chunk-outcome.auto.picked in (
      going_passed c.loop-c.invariant.0 l c.at-rate.ensures c.try_chunk-outcome.ensures c.in_default.is long,
      long ∙ c.loop-c.invariant.1,
    )

pub loop-c-preserved : goal.loop-c-preserved
loop-c-preserved c = let l = turn (goal.at.loop-c-preserved c).In-loop-c in (
  going_taken c.loop-c.invariant.0 l c.at-rate.ensures c.try_chunk-outcome.ensures c.in-Taken.is,
  c.try_chunk-outcome.auto.picked ∙ c.loop-c.invariant.1,
)

pub offset_bounds-starts-c : goal.offset_bounds-starts-c
offset_bounds-starts-c c = omega (arith, few (goal.at.offset_bounds-starts-c c).In-loop-c)

pub bounds-starts-c : goal.bounds-starts-c
bounds-starts-c c = omega (arith, few (goal.at.bounds-starts-c c).In-loop-c)

pub overflow_add-to : goal.overflow_add-to
overflow_add-to c = omega (arith, few (goal.at.overflow_add-to c).In-loop-c)

pub offset_bounds-starts-c-in-loop-c : goal.offset_bounds-starts-c-in-loop-c
offset_bounds-starts-c-in-loop-c c = omega (arith, few (goal.at.offset_bounds-starts-c-in-loop-c c).In-loop-c)

pub bounds-starts-c-in-loop-c : goal.bounds-starts-c-in-loop-c
bounds-starts-c-in-loop-c c = omega (arith, few (goal.at.bounds-starts-c-in-loop-c c).In-loop-c)

pub offset_bounds-listed-from : goal.offset_bounds-listed-from
offset_bounds-listed-from c = omega (arith, from_few (goal.at.offset_bounds-listed-from c).In-loop-c)

pub slice_bounds-try_chunk-count : goal.slice_bounds-try_chunk-count
slice_bounds-try_chunk-count c = rise (goal.at.slice_bounds-try_chunk-count c).In-loop-c

pub slice_bounds-try_chunk-start : goal.slice_bounds-try_chunk-start
slice_bounds-try_chunk-start c = rise (goal.at.slice_bounds-try_chunk-start c).In-loop-c

pub slice_bounds-try_chunk-end : goal.slice_bounds-try_chunk-end
slice_bounds-try_chunk-end c = within (goal.at.slice_bounds-try_chunk-end c).In-loop-c

pub slice_bounds-try_chunk-end-in-loop-c : goal.slice_bounds-try_chunk-end-in-loop-c
slice_bounds-try_chunk-end-in-loop-c c = sym c.loop-c.invariant.0.held.selected.words

pub shape_of-picked : goal.shape_of-picked
shape_of-picked c = c.loop-c.invariant.1

pub returns : goal.returns
returns c = let given = c.requires.fillable in
    let long = numbers_long (pool_of c.args.table.now) given.deltas given.sorted in
    going_done {r = let a = c.args in arrays a.count a.listed.now a.starts.now a.fees.now a.sizes.now a.order.now a.members.now a.firsts.now a.ups.now} c.loop-c.invariant.0 (omega (arith, c.loop-c-test.false, length-take-le c.args.count c.args.order.now long))
