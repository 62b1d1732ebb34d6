use mathlib.Core.Bool.{Bool, not, ◌&&◌}
use mathlib.Core.Path.{ap, ◌∙◌}
use lib.Dec.{eqb}
use Rattle.txset.specs.Sets.{mem}
use Rattle.txset.proofs.Sets.{mem_without}
use Rattle.txset.proofs.TxSet.remove.Goals as goal

pub returns : goal.returns
returns c = let s = c.args.self in
    let k = c.args.k in
    λ i. c.subtract.ensures i ∙ ap (λ (b : Bool). mem s i && not b) (c.singleton.ensures i) ∙ mem_without s i (eqb i k)
