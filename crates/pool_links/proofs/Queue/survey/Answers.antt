use mathlib.Core.Path.{◌≡◌, sym, ap, ◌∙◌, subst}
use mathlib.Core.Bool.{true}
use mathlib.Core.List.{List}
use Prim.Native.Nat.{ℕ, ◌<◌}
use native.Mathlib.Omega.{arith}
use lib.ListN.{length}
use borrow.Author.Rules.{rules}
use Rattle.lists.specs.Below.{count_from}
use Rattle.lists.proofs.Ranges.{count_le}
use Rattle.txset.specs.Sets.{has_in}
use Rattle.slotsets.specs.SlotSets.{capacity}
use Rattle.pool_table.specs.declared.Side.TheVariants.{Parents}
use Rattle.pool_table.specs.Pool.{slot_at, slot_count}
use Rattle.pool_table.specs.Words.{pool_of}
use Rattle.pool_table.specs.Links.{has_links}
use Rattle.pool_table.proofs.Legal.{few_slots}
use Rattle.pool_table.proofs.Rows.{whole_slot}
use Rattle.pool_links.proofs.Walking.{links_own}
use Rattle.pool_links.proofs.Surveyed.{Surveyed, survey_start, survey_free, survey_child, survey_room, survey_root, survey_done}
use Rattle.pool_links.proofs.Queue.survey.Goals as goal
use Rattle.pool_links.proofs.Queue.survey.Goals.{After-count-parents, After-links, Else-parents-ne0, In-loop-s}

pub loop-s-init : goal.loop-s-init
loop-s-init c =
    let t = c.args.table.now in
    let queue = c.args.self.now in
    let long : length queue.slots ≡ capacity = search rules in
    subst (λ (n : ℕ). Surveyed (pool_of t) 0 queue.needs queue.slots 0 n) (sym c.requires.2)
    (subst (λ (l : List ℕ). Surveyed (pool_of t) 0 l queue.slots 0 0) (sym c.requires.1)
    (survey_start (pool_of t) queue.slots (few_slots t c.requires.0) long))

-- the slot at hand
slot : (c : In-loop-s) → c.loop-s.s < slot_count (pool_of c.args.table.now)
slot c = rw c.slots-s-end.ensures at c.loop-s-test.true

pub loop-s-preserved-then-not-is_linked : goal.loop-s-preserved-then-not-is_linked
loop-s-preserved-then-not-is_linked c =
    survey_free c.loop-s.invariant (slot (goal.at.loop-s-preserved-then-not-is_linked c).In-loop-s) (sym c.is_linked.ensures ∙ c.if-not-is_linked.true)

-- it has links

linked : (c : After-links) → has_links (slot_at (pool_of c.args.table.now) c.loop-s.s) ≡ true
linked c = sym c.is_linked.ensures ∙ c.if-not-is_linked.false

parents : (c : After-links) → c.links.result.now ≡ (slot_at (pool_of c.args.table.now) c.loop-s.s).parents
parents c = c.links.ensures ∙ links_own (pool_of c.args.table.now) Parents c.loop-s.s (slot (goal.at.count-parents-requires c).In-loop-s)

pub count-parents-requires : goal.count-parents-requires
count-parents-requires c = ap length (parents (goal.at.count-parents-requires c).After-links) ∙ (whole_slot c.args.table.now c.loop-s.s).parents

counted : (c : After-count-parents)
    → c.count-parents.result ≡ count_from (has_in (slot_at (pool_of c.args.table.now) c.loop-s.s).parents) capacity 0
counted c = c.count-parents.ensures ∙ ap (λ (ws : List ℕ). count_from (has_in ws) capacity 0) (parents (goal.at.overflow_cast-self c).After-links)

pub overflow_cast-self : goal.overflow_cast-self
overflow_cast-self c =
    omega (arith, counted c, count_le (has_in (slot_at (pool_of c.args.table.now) c.loop-s.s).parents) capacity 0)

-- the slot fits every list
below : (c : After-count-parents) → c.loop-s.s < capacity
below c = omega (arith, slot (goal.at.overflow_cast-self c).In-loop-s, c.loop-s.invariant.few)

pub overflow_add-linked : goal.overflow_add-linked
overflow_add-linked c =
    omega (arith, below (goal.at.overflow_add-linked c).After-count-parents, c.loop-s.invariant.count, count_le (λ s. has_links (slot_at (pool_of c.args.table.now) s)) c.loop-s.s 0)

pub loop-s-preserved-then-parents-ne0 : goal.loop-s-preserved-then-parents-ne0
loop-s-preserved-then-parents-ne0 c = let at = goal.at.loop-s-preserved-then-parents-ne0 c in let k = at.After-count-parents in
    survey_child c.loop-s.invariant (slot at.In-loop-s) (linked at.After-links) c.count-parents.result (counted k) (λ z. omega (arith, c.if-parents-ne0.true, z))

room : (c : Else-parents-ne0) → c.loop-s.self.end < capacity
room c = let k = (goal.at.overflow_cast-self-in-loop-s c).After-count-parents in
    survey_room c.loop-s.invariant (slot (goal.at.overflow_cast-self-in-loop-s c).In-loop-s) (linked (goal.at.overflow_cast-self-in-loop-s c).After-links) c.count-parents.result (counted k)

pub loop-s-preserved : goal.loop-s-preserved
loop-s-preserved c = let at = goal.at.loop-s-preserved c in let k = at.After-count-parents in
    survey_root c.loop-s.invariant (slot at.In-loop-s) (linked at.After-links) c.count-parents.result (counted k) (omega (arith, c.if-parents-ne0.false))

pub returns : goal.returns
returns c = survey_done c.loop-s.invariant (rw c.slots-s-end.ensures at c.loop-s-test.false)

pub overflow_cast-self-in-loop-s : goal.overflow_cast-self-in-loop-s
overflow_cast-self-in-loop-s c = omega (arith, below (goal.at.overflow_cast-self-in-loop-s c).After-count-parents)
