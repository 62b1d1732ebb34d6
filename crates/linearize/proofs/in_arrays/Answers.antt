use Prim.Native.Nat.{◌≤◌}
use native.Mathlib.Omega.{arith}
use mathlib.Core.Path.{refl, sym, ap, ◌∙◌}
use lib.ListN.{length, replicate, length-replicate}
use lib.Seq.{length-take-le}
use Rattle.depgraph.specs.Closed.{Closed}
use Rattle.depgraph.proofs.Theorems.{graph_whole}
use Rattle.refusals.specs.Refusals.{success}
use Rattle.refusals.proofs.Lines.{none_past, past, stop, all_past, refuses_keeps, succeeds_writes}
use Rattle.post_linearize.proofs.Checks.{new_room}
use Rattle.linearize.proofs.Order.{ready, linear_done}
use Rattle.linearize.proofs.in_arrays.Given.{Over}
use Rattle.linearize.proofs.in_arrays.Goals as goal
use Rattle.linearize.proofs.in_arrays.Goals.{After-new-graph}

-- the graph is that of the parents
graph : (g : Over) (d : After-new-graph g) → Closed d.args.parents.now d.new-graph.new.ancestors d.new-graph.new.descendants d.new-graph.result
graph g d =
    let fits : length d.args.parents.now ≤ g.row.N = omega (arith, d.requires.checked.same, d.requires.few) in
    graph_whole (new_room g.row.N (omega (arith, d.requires.small)) fits) d.new-graph.ensures

pub returns-then-graph : goal.returns-then-graph
returns-then-graph g c =
    let d = (goal.at.returns-then-graph g c).After-new-graph in
    let h = refuses_keeps _ _ _ _ (stop (none_past refl) (sym (graph g d).cyclic ∙ c.if-graph.true)) refl in
    record { value = h.0; room_after = h.1 }

pub order_members-requires : goal.order_members-requires
order_members-requires g c =
    let d = (goal.at.order_members-requires g c).After-new-graph in
    let long : length c.args.fees.now ≤ length (replicate g.row.N 0) = rw length-replicate c.requires.few in
    ready _ (graph g d) c.requires.checked (length-take-le _ _ long)

pub returns : goal.returns
returns g c =
    let d = graph g (goal.at.returns g c).After-new-graph in
    let l = linear_done _ d _ _ _ _ c.order_members.ensures.value c.order_members.ensures.room_after in
    let h = succeeds_writes _ _ _ _ (all_past (past (none_past refl) (sym d.cyclic ∙ c.if-graph.false)) refl) (ap success l.0) l.1 in
    record { value = h.0; room_after = h.1 }
