use mathlib.Core.Path.{ap, ap₂, ◌∙◌}
use Rattle.feefrac.specs.Rate.{then_by, is_greater}
use Rattle.feefrac.proofs.Order.{size_cmp}
use Rattle.output_order.specs.Rounds.{piece_above}
use Rattle.output_order.proofs.chunk_above.Goals as goal

pub returns : goal.returns
unfolding piece_above
returns c =
    c.is_gt.ensures ∙ ap is_greater (c.then.ensures ∙ ap₂ then_by c.rank-by_rank.ensures (c.cmp-by_top.ensures ∙ size_cmp _ _))
