use Prim.Native.Nat.{◌≤◌}
use native.Mathlib.Omega.{arith}
use mathlib.Core.Path.{◌≡◌, refl, sym, ap, ◌∙◌}
use mathlib.Core.Bool.{not}
use lib.ListN.{length}
use Rattle.depgraph.specs.Closed.{Closed}
use Rattle.depgraph.proofs.Theorems.{graph_whole}
use Rattle.refusals.specs.Refusals.{is_order}
use Rattle.refusals.proofs.Lines.{Past, none_past, past, stop, all_past, refuses, keeps, succeeds, writes}
use Rattle.refusals.proofs.Orders.{order_length, small_order}
use Rattle.post_linearize.specs.PostLinearize.{last_refusals}
use Rattle.post_linearize.proofs.Checks.{new_room, ancestors_are, descendants_are}
use Rattle.post_linearize.proofs.Post.{passes}
use Rattle.post_linearize.proofs.in_tables.Given.{Over}
use Rattle.post_linearize.proofs.in_tables.Goals as goal
use Rattle.post_linearize.proofs.in_tables.Goals.{After-is_order, After-new-graph}

module _ (g : Over) (d : After-new-graph g) where
  -- the graph is that of the parents
  graph : Closed d.args.parents.now d.new-graph.new.ancestors d.new-graph.new.descendants d.new-graph.result
  graph =
      let fits : length d.args.parents.now ≤ g.row.N = omega (arith, d.requires.parents_len, d.requires.few) in
      graph_whole (new_room g.row.N (omega (arith, d.requires.small)) fits) d.new-graph.ensures

  past_0 : Past (last_refusals d.args.fees.now d.args.parents.now d.args.order.now) 0
  past_0 = none_past refl

pub returns-then-graph : goal.returns-then-graph
returns-then-graph g c =
    let new = (goal.at.returns-then-graph g c).After-new-graph in
    let gives = stop (past_0 g new) (sym (graph g new).cyclic ∙ c.if-graph.true) in
    record { value = refuses _ _ gives refl; order_after = keeps _ _ gives }

-- what the test of the order says, for at most 64 members
tested : (g : Over) (o : After-is_order g) → o.is_order.result ≡ is_order (length o.args.fees.now) o.args.order.now
tested g o = o.is_order.ensures ∙ small_order _ _ (omega (arith, o.requires.parents_len, o.requires.few, o.requires.small))

pub returns-then-not-is_order : goal.returns-then-not-is_order
returns-then-not-is_order g c =
    let at = goal.at.returns-then-not-is_order g c in
    let new = at.After-new-graph in
    let past_1 = past (past_0 g new) (sym (graph g new).cyclic ∙ c.if-graph.false) in
    let gives = stop past_1 (ap not (sym (tested g at.After-is_order) ∙ c.if-not-is_order.true)) in
    record { value = refuses _ _ gives refl; order_after = keeps _ _ gives }

pub returns : goal.returns
returns g c =
    let at = goal.at.returns g c in
    let new = at.After-new-graph in
    let is = sym (tested g at.After-is_order) ∙ c.if-not-is_order.false in
    let past_1 = past (past_0 g new) (sym (graph g new).cyclic ∙ c.if-graph.false) in
    let takes = all_past (past past_1 (ap not is)) refl in
    record {
      value = succeeds _ _ takes refl;
      order_after =
          writes _ _ takes
          (passes _ _ _ _ _ _ (omega (arith, c.requires.parents_len, c.requires.few, c.requires.small, order_length _ _ is)) (ancestors_are (graph g new)) (descendants_are (graph g new))
          _ _ c.back_pass.ensures c.forward_pass.ensures);
    }
