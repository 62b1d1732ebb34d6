-- `note_all`: the members passed have their notes. Assumes nothing.
use mathlib.Core.Path.{refl}
use Prim.Native.Nat.{ℕ, ◌<◌}
use native.Mathlib.Omega.{arith}
use lib.ListN.{length, get_or}
use Rattle.lists.proofs.Lists.{elem_at}
use Rattle.pool_table.specs.Pool.{slot_count}
use Rattle.pool_table.specs.Words.{pool_of}
use Rattle.pool_members.proofs.Stored.{storing_start, storing_within, storing_more, storing_done}
use Rattle.pool_members.proofs.Laid.{parent_in, parents_word}
use Rattle.pool_members.proofs.parents.note_all.Goals as goal
use Rattle.pool_members.proofs.parents.note_all.Goals.{Start}

-- each member is below the rooms' lengths
below : (c : Start) (n : ℕ) → slot_count (pool_of c.args.table.now) < n → (k : ℕ) → k < length c.args.members.now
    → get_or c.args.members.now k 0 < n
below c n e k l = omega (arith, c.requires.closed.below (get_or c.args.members.now k 0) (elem_at c.args.members.now k l))

pub rank_all-requires-clause-by_index : goal.rank_all-requires-clause-by_index
rank_all-requires-clause-by_index c = below (goal.at.rank_all-requires-clause-by_index c).Start _ c.requires.table_in_bounds

pub loop-s-init : goal.loop-s-init
loop-s-init c = let st = (goal.at.loop-s-init c).Start in
    let closed = c.requires.closed in
    let long = c.requires.table_in_bounds_2 in
    (storing_start _ _ _ closed.once (below st _ long.0), storing_start _ _ _ closed.once (below st _ long.1))

pub parents_at-above-requires : goal.parents_at-above-requires
parents_at-above-requires c =
    λ a e. omega (arith, c.rank_all.ensures.long, c.requires.table_in_bounds, parent_in c.args.table.now c.requires.linked _ a e)

-- the member is one of the slots
pub bounds-firsts-s : goal.bounds-firsts-s
bounds-firsts-s c = storing_within c.loop-s.invariant.0 c.loop-s-test.true

pub bounds-ups-s : goal.bounds-ups-s
bounds-ups-s c = storing_within c.loop-s.invariant.1 c.loop-s-test.true

pub loop-s-preserved : goal.loop-s-preserved
loop-s-preserved c = let ms = c.args.members.now in
    let k = c.loop-s.s-index in
    let l = c.loop-s-test.true in
    let word = c.parents_at-above.result.word in (
      storing_more c.loop-s.invariant.0 c.args.first l refl,
      storing_more c.loop-s.invariant.1 word l
          (parents_word c.args.table.now c.requires.linked ms c.rank_all.new.ranks (get_or ms k 0) word c.requires.closed
          c.rank_all.ensures.here
          (elem_at ms k l) (omega (arith, c.parents_at-above.type_inv)) c.parents_at-above.ensures),
    )

pub returns : goal.returns
returns c = record {
  stored_at = storing_done c.loop-s.invariant.0 c.loop-s-test.false;
  stored_at_2 = storing_done c.loop-s.invariant.1 c.loop-s-test.false;
}
