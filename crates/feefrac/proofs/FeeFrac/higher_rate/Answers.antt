use mathlib.Core.Path.{sym, ap, ◌∙◌}
use Rattle.feefrac.specs.Rate.{is_greater}
use Rattle.feefrac.proofs.Order.{higher_greater}
use Rattle.feefrac.proofs.FeeFrac.higher_rate.Goals as goal

pub returns : goal.returns
returns c = c.is_gt.ensures ∙ ap is_greater c.compare_rates.ensures ∙ sym (higher_greater _ _)
