use mathlib.Core.Path.{◌≡◌, sym, ap, ◌∙◌}
use mathlib.Core.Bool.{Bool, not, ◌&&◌, ◌||◌}
use Prim.Native.Nat.{◌+◌, ◌<◌, min}
use native.Mathlib.Omega.{arith}
use borrow.Author.Rules.{rules}
use Rattle.lists.proofs.Found.{below_some, below_none}
use Rattle.txset.specs.Sets.{has_in}
use Rattle.slotsets.specs.SlotSets.{capacity, lowest_in}
use Rattle.slotsets.proofs.Words.{lowest_has}
use Rattle.weights.specs.Weights.{most}
use Rattle.weights.specs.declared.RawWeight.{RawWeight}
use Rattle.pool_table.specs.Words.{pool_of}
use Rattle.pool_table.specs.Links.{is_linked}
use Rattle.pool_clusters.proofs.Gathering.{Turned, gather_start, gather_turn, gather_less, gather_all, gather_more, slots_few}
use Rattle.pool_clusters.proofs.Slots.gather.Goals as goal
use Rattle.pool_clusters.proofs.Slots.gather.Goals.{After-spread}

turned : (c : After-spread)
    → Turned (pool_of c.args.self.now.table.now) c.in-Some.a c.loop-a.members c.loop-a.todo c.spread.new.found c.spread.new.todo
turned c =
    let e = c.spread.ensures in
    let low : (lowest_in c.loop-a.todo ≡ c.in-Some.a) × (c.in-Some.a < capacity) = below_some _ _ _ (sym c.in-Some.ensures) in
    record {
      here = ap (has_in c.loop-a.todo) (sym low.0) ∙ lowest_has c.loop-a.todo (omega arith);
      wide = c.type_inv.members;
      long = c.type_inv.todo;
      grown = e.by_index;
      left =
          let p = pool_of c.args.self.now.table.now in
          λ i. e.by_index_2 i ∙ ap (λ (b : Bool). b || (is_linked p c.in-Some.a i && not (has_in c.loop-a.members i))) (c.remove.ensures.by_index i);
    }

pub loop-a-init : goal.loop-a-init
loop-a-init c = let args = c.args in
    gather_start (pool_of args.self.now.table.now) args.seeds.now args.limit c.chosen-members.result (search rules)
    (λ i. c.chosen-members.ensures i ∙ ap (λ (b : Bool). b && has_in args.seeds.now i) (c.args.self.now.all_slots.are i))

pub returns-then-limit-count : goal.returns-then-limit-count
returns-then-limit-count c =
    let low : (lowest_in c.loop-a.todo ≡ c.in-Some.a) × (c.in-Some.a < capacity) = below_some _ _ _ (sym c.in-Some.ensures) in
    gather_more c.loop-a.invariant (omega arith) c.if-limit-count.true

pub loop-a-smaller : goal.loop-a-smaller
loop-a-smaller c =
    omega (
      arith,
      gather_less c.loop-a.invariant (turned (goal.at.loop-a-smaller c).After-spread)
          (slots_few (pool_of c.args.self.now.table.now) c.args.self.now.all c.args.self.now.all_slots),
    )

pub loop-a-preserved : goal.loop-a-preserved
loop-a-preserved c =
    gather_turn c.loop-a.invariant (turned (goal.at.loop-a-preserved c).After-spread) c.if-limit-count.false c.saturating_add-weight.result
    (c.saturating_add-weight.ensures ∙ ap (λ (w : RawWeight). min (c.loop-a.weight + w.0) most) c.weight.ensures)

pub returns : goal.returns
returns c = gather_all c.loop-a.invariant (below_none _ _ (sym c.in_default.ensures))
