use mathlib.Core.Path.{◌∙◌}
use lib.ListN.{take}
use Rattle.ways.specs.Ways.{reach}
use Rattle.depgraph.specs.Graph.{is_parent}
use Rattle.depgraph.proofs.Closure.{room_as, zeros_empty, hold_nothing, closed_by}
use Rattle.depgraph.proofs.DepGraph.new.Goals as goal

pub link-requires : goal.link-requires
link-requires c = record {
  n_in_bounds = c.places-n.ensures.there;
  room = room_as c.places-n.ensures.room c.fill.ensures.len c.fill-2.ensures.len;
  holds = hold_nothing (zeros_empty _ (c.fill.ensures.after (λ y e. e))) (zeros_empty _ (c.fill-2.ensures.after (λ y e. e)));
}

pub close-requires : goal.close-requires
close-requires c = (_, c.link.ensures)

pub include_self-cyclic-requires : goal.include_self-cyclic-requires
include_self-cyclic-requires c =
    room_as
    c.places-n.ensures.room
    (c.close.auto.ancestors ∙ c.link.auto.ancestors ∙ c.fill.ensures.len)
    (c.close.auto.descendants ∙ c.link.auto.descendants ∙ c.fill-2.ensures.len)

pub returns : goal.returns
returns c =
    let f = is_parent (take c.places-n.result c.args.parents.now) in
    closed_by c.places-n.ensures
    (c.include_self-cyclic.ensures (reach f c.places-n.result) (c.close.ensures f c.link.ensures))
