use mathlib.Core.Path.{◌≡◌, sym, ap, ◌∙◌}
use mathlib.Core.List.{List}
use Prim.Native.Nat.{ℕ, ◌+◌, ◌*◌, ◌<◌}
use native.Mathlib.Omega.{arith}
use lib.ListN.{length, get_or}
use Rattle.txset.proofs.Walk.{Turn, walk_turn, walk_end}
use Rattle.slotsets.specs.SlotSets.{set_words}
use Rattle.pool_table.specs.declared.Side.TheVariants.{Children}
use Rattle.pool_table.specs.Pool.{slot_at}
use Rattle.pool_table.specs.Words.{pool_of}
use Rattle.pool_table.proofs.Rows.{whole_slot}
use Rattle.pool_links.specs.Steps.{children_to, Walking}
use Rattle.pool_links.proofs.Gaps.{ahead_start, ahead_end, ahead_up, ahead_below, ahead_gap, ahead_next}
use Rattle.pool_links.proofs.Walking.{there, links_own, walking_gap, release_start, release_done}
use Rattle.pool_links.proofs.Queue.release.Goals as goal
use Rattle.pool_links.proofs.Queue.release.Goals.{After-links-words, In-Some}

-- the slot whose children are walked to
abbrev own : After-links-words → ℕ
own c = c.from-a.result

begun : (c : After-links-words) → let s = c.args in
    Walking (pool_of s.table.now) s.at (own c) (children_to (pool_of s.table.now) (own c) (64 * 0)) s.self.now.needs s.self.now.slots s.self.now.end
begun c = release_start c.args.table.now (own c) (sym c.from-a.ensures) c.requires.1 c.requires.0

children : (c : After-links-words) → c.links-words.result.now ≡ (slot_at (pool_of c.args.table.now) (own c)).children
children c = c.links-words.ensures ∙ links_own (pool_of c.args.table.now) Children (own c) ((begun c).walk.below (own c) (there (begun c)))

whole : (c : After-links-words) → length c.links-words.result.now ≡ set_words
whole c = ap length (children c) ∙ (whole_slot c.args.table.now (own c)).children

pub filled-requires : goal.filled-requires
filled-requires c = whole (goal.at.filled-requires c).After-links-words

pub loop-j-init : goal.loop-j-init
loop-j-init c =
    let k = (goal.at.loop-j-init c).After-links-words in
    rw (c.into_iter-j-iterator.ensures.into_iter_gives, c.iter-j-items.ensures) (0, ahead_start (whole k) c.filled.ensures, begun k)

-- ---- a word that has children

turn : (c : In-Some) → Turn c.loop-j.j-iterator.rest c.next.new.self.rest c.in-Some.j
turn c = walk_turn _ _ _ c.in-Some.ensures.steps

below : (c : In-Some) → c.in-Some.j < set_words
below c = ahead_below c.loop-j.invariant.1 (turn c)

pub offset_bounds-words-j : goal.offset_bounds-words-j
offset_bounds-words-j c = omega (arith, below (goal.at.offset_bounds-words-j c).In-Some)

pub bounds-words-j : goal.bounds-words-j
bounds-words-j c = omega (arith, below (goal.at.bounds-words-j c).In-Some, whole (goal.at.bounds-words-j c).After-links-words)

pub release_word-requires-clause-j_lt_set_words : goal.release_word-requires-clause-j_lt_set_words
release_word-requires-clause-j_lt_set_words c =
    let at = goal.at.release_word-requires-clause-j_lt_set_words c in
    (below at.In-Some, ap (λ (ws : List ℕ). get_or ws c.in-Some.j 0) (children at.After-links-words))

pub release_word-requires-clause-walking : goal.release_word-requires-clause-walking
release_word-requires-clause-walking c =
    let at = goal.at.release_word-requires-clause-walking c in
    let l = c.loop-j in
    walking_gap (children at.After-links-words) (ahead_up l.invariant.1 (turn at.In-Some)) (ahead_gap l.invariant.1 (turn at.In-Some)) l.invariant.2

pub loop-j-preserved : goal.loop-j-preserved
loop-j-preserved c = (c.in-Some.j + 1, ahead_next c.loop-j.invariant.1 (turn (goal.at.loop-j-preserved c).In-Some), c.if-not-release_word.ensures)

-- ---- no word is left

pub returns : goal.returns
returns c =
    let a = c.loop-j.invariant.1 in
    let w = c.loop-j.invariant.2 in
    let gap = ahead_end a (walk_end _ c.in-None.ensures.steps.0) in
    (release_done c.args.table.now (walking_gap (children (goal.at.returns c).After-links-words) a.within gap w), w.here)
