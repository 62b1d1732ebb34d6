use mathlib.Core.Path.{◌≡◌, refl, ap, ◌∙◌}
use Prim.Native.Nat.{ℕ, ◌+◌, ◌*◌, ◌<◌}
use native.Mathlib.Omega.{arith}
use lib.ListN.{get_or}
use Rattle.lists.specs.Below.{count_from}
use Rattle.lists.proofs.Ranges.{count_le}
use Rattle.txset.specs.Sets.{has_in, size}
use Rattle.txset.proofs.Walk.{Turn, walk_turn, walk_end}
use Rattle.slotsets.specs.SlotSets.{set_words}
use Rattle.pool_links.proofs.Gaps.{gap_count, ahead_start, ahead_end, ahead_up, ahead_below, ahead_gap, ahead_next}
use Rattle.pool_links.proofs.Walking.{count_word}
use Rattle.pool_links.proofs.count.Goals as goal
use Rattle.pool_links.proofs.count.Goals.{In-Some}

pub loop-j-init : goal.loop-j-init
unfolding count_from
loop-j-init c = rw (c.into_iter-j-iterator.ensures.into_iter_gives, c.iter-j-items.ensures) (0, ahead_start c.requires c.filled.ensures, refl)

turn : (c : In-Some) → Turn c.loop-j.j-iterator.rest c.next.new.self.rest c.in-Some.j
turn c = walk_turn _ _ _ c.in-Some.ensures.steps

below : (c : In-Some) → c.in-Some.j < set_words
below c = ahead_below c.loop-j.invariant.1 (turn c)

-- with one word more
together : (c : In-Some)
    → c.loop-j.members + size (record { word = get_or c.args.set.now c.in-Some.j 0 })
    ≡ count_from (has_in c.args.set.now) (64 * (c.in-Some.j + 1)) 0
together c =
    let l = c.loop-j in
    let set = c.args.set.now in
    let j = c.in-Some.j in
    let a = l.invariant.1 in
    ap (λ (n : ℕ). n + size (record { word = get_or set j 0 }))
    (l.invariant.2 ∙ gap_count set l.invariant.0 j (ahead_up a (turn c)) (ahead_gap a (turn c)))
    ∙ count_word set j (get_or set j 0) refl

pub overflow_add-members : goal.overflow_add-members
overflow_add-members c =
    let k = (goal.at.overflow_add-members c).In-Some in
    omega (arith, together k, c.count-members.ensures, below k, count_le (has_in c.args.set.now) (64 * (c.in-Some.j + 1)) 0)

pub loop-j-preserved : goal.loop-j-preserved
loop-j-preserved c =
    let k = (goal.at.loop-j-preserved c).In-Some in (
      c.in-Some.j + 1,
      ahead_next c.loop-j.invariant.1 (turn k),
      ap (λ (n : ℕ). c.loop-j.members + n) c.count-members.ensures ∙ together k,
    )

pub returns : goal.returns
returns c =
    let a = c.loop-j.invariant.1 in
    c.loop-j.invariant.2 ∙ gap_count c.args.set.now c.loop-j.invariant.0 set_words a.within (ahead_end a (walk_end _ c.in-None.ensures.steps.0))

pub bounds-set-j : goal.bounds-set-j
bounds-set-j c = omega (arith, below (goal.at.bounds-set-j c).In-Some, c.requires)

pub offset_bounds-set-j : goal.offset_bounds-set-j
offset_bounds-set-j c = omega (arith, below (goal.at.offset_bounds-set-j c).In-Some)
