use mathlib.Core.Bool.{Bool, ◌||◌}
use mathlib.Core.Path.{ap, ◌∙◌}
use Rattle.txset.specs.Sets.{mem}
use Rattle.txset.proofs.TxSet.insert.Goals as goal

pub returns : goal.returns
returns c = λ i. c.union.ensures i ∙ ap (λ (b : Bool). mem c.args.self i || b) (c.singleton.ensures i)
