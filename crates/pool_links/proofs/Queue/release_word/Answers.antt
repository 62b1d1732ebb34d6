use mathlib.Core.Path.{◌≡◌, sym, ◌∙◌}
use mathlib.Core.Bool.{true, false, ◌||◌}
use Prim.Native.Nat.{ℕ, ◌+◌, ◌*◌, ◌<◌}
use native.Mathlib.Omega.{arith}
use lib.Dec.{eqb}
use Rattle.txset.specs.Sets.{has_in, positions}
use Rattle.txset.proofs.Walk.{Turn, walk_turn, walk_end}
use Rattle.slotsets.specs.SlotSets.{capacity}
use Rattle.pool_table.specs.Pool.{Pool, slot_at}
use Rattle.pool_table.specs.Words.{pool_of}
use Rattle.pool_links.specs.Steps.{is_tied, Walking}
use Rattle.pool_links.proofs.Ends.{tied_fails}
use Rattle.pool_links.proofs.Walking.{children_past, Left, there, walking_ext, walking_some, walking_room, walking_step, walking_push, word_left, start_same, done_same}
use Rattle.pool_links.proofs.Walking.{lowest_below, lowest_child, lowest_new, next_left, next_more}
use Rattle.pool_links.proofs.Queue.release_word.Goals as goal
use Rattle.pool_links.proofs.Queue.release_word.Goals.{In-Some, Else-not-is_tied}

pub loop-i-init : goal.loop-i-init
loop-i-init c =
    let a = c.args in
    let p = pool_of a.table.now in
    let e = c.requires.j_lt_set_words.1 in
    rw (c.into_iter-i-iterator.ensures.into_iter_gives, c.iter-i-items.ensures)
    (walking_ext (start_same p a.a a.j a.word.word e) c.requires.walking, word_left p a.a a.j a.word.word e)

module _ (c : In-Some) where
  -- the child at hand
  abbrev child_of : ℕ
  child_of = 64 * c.args.j + c.in-Some.i

  abbrev p : Pool
  p = pool_of c.args.table.now

  turn : Turn c.loop-i.i-iterator.rest c.next.new.self.rest c.in-Some.i
  turn = walk_turn _ _ _ c.in-Some.ensures.steps

  inv : Walking p c.args.at c.args.a (children_past p c.args.a c.args.j c.loop-i.i-iterator.rest) c.loop-i.self.needs c.loop-i.self.slots c.loop-i.self.end
  inv = c.loop-i.invariant.0

  within : c.in-Some.i < positions
  within = lowest_below p c.args.a c.args.j turn c.loop-i.invariant.1

  below : child_of < capacity
  below = omega (arith, c.requires.j_lt_set_words.0, within)

  child : has_in (slot_at p c.args.a).children child_of ≡ true
  child = lowest_child p c.args.a c.args.j turn c.loop-i.invariant.1

  new : children_past p c.args.a c.args.j c.loop-i.i-iterator.rest child_of ≡ false
  new = lowest_new p c.args.a c.args.j turn c.loop-i.invariant.1

  more : (k : ℕ) → children_past p c.args.a c.args.j c.next.new.self.rest k
      ≡ (children_past p c.args.a c.args.j c.loop-i.i-iterator.rest k || eqb k child_of)
  more = next_more p c.args.a c.args.j turn c.loop-i.invariant.1

  still : Left p c.args.a c.args.j c.next.new.self.rest
  still = next_left p c.args.a c.args.j turn c.loop-i.invariant.1

pub overflow_add-c : goal.overflow_add-c
overflow_add-c c = omega (arith, below (goal.at.overflow_add-c c).In-Some)

-- the link fails

pub returns-then-not-is_tied : goal.returns-then-not-is_tied
returns-then-not-is_tied c =
    let k = (goal.at.returns-then-not-is_tied c).In-Some in
    tied_fails c.args.table.now c.args.a (child_of k) ((inv k).walk.below c.args.a (there (inv k))) (child k) (sym c.is_tied.ensures ∙ c.if-not-is_tied.true)

-- it holds

module _ (c : Else-not-is_tied) where
  abbrev at_child : In-Some
  at_child = (goal.at.offset_bounds-self-c c).In-Some

  tied : is_tied (pool_of c.args.table.now) c.args.a (child_of at_child) ≡ true
  tied = sym c.is_tied.ensures ∙ c.if-not-is_tied.false

  room : c.loop-i.self.end < capacity
  room = walking_room (inv at_child) (child at_child) tied (new at_child) (more at_child)

pub overflow_sub-left : goal.overflow_sub-left
overflow_sub-left c =
    let e = (goal.at.overflow_sub-left c).Else-not-is_tied in
    let k = at_child e in
    walking_some (inv k) (child k) (tied e) (new k) (more k)

pub loop-i-preserved-then-left-ne0 : goal.loop-i-preserved-then-left-ne0
loop-i-preserved-then-left-ne0 c =
    let e = (goal.at.loop-i-preserved-then-left-ne0 c).Else-not-is_tied in
    let k = at_child e in
    (walking_step (inv k) (child k) (tied e) (new k) (more k) (λ z. omega (arith, c.if-left-ne0.true, z)), still k)

pub loop-i-preserved : goal.loop-i-preserved
loop-i-preserved c =
    let e = (goal.at.loop-i-preserved c).Else-not-is_tied in
    let k = at_child e in
    (walking_push (inv k) (child k) (tied e) (new k) (more k) (omega (arith, c.if-left-ne0.false)), still k)

pub returns : goal.returns
returns c =
    let a = c.args in
    walking_ext (done_same (pool_of a.table.now) a.a a.j c.loop-i.i-iterator.rest (walk_end _ c.in-None.ensures.steps.0)) c.loop-i.invariant.0

pub offset_bounds-self-c : goal.offset_bounds-self-c
offset_bounds-self-c c = omega (arith, below (goal.at.offset_bounds-self-c c).In-Some)

pub bounds-self-c : goal.bounds-self-c
bounds-self-c c = below (goal.at.bounds-self-c c).In-Some

pub offset_bounds-self-c-in-loop-i : goal.offset_bounds-self-c-in-loop-i
offset_bounds-self-c-in-loop-i c = omega (arith, below (goal.at.offset_bounds-self-c-in-loop-i c).In-Some)

pub bounds-self-c-in-loop-i : goal.bounds-self-c-in-loop-i
bounds-self-c-in-loop-i c = below (goal.at.bounds-self-c-in-loop-i c).In-Some

pub overflow_cast-self : goal.overflow_cast-self
overflow_cast-self c = omega (arith, below (goal.at.overflow_cast-self c).In-Some)

pub bounds-self-self : goal.bounds-self-self
bounds-self-self c = omega (arith, room (goal.at.bounds-self-self c).Else-not-is_tied)
