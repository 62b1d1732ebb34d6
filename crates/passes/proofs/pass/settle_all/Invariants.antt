use Rattle.passes.proofs.Groups.{nth}
use Rattle.passes.proofs.Scan.{Outer, Inner}
use Rattle.passes.proofs.pass.settle_all.Given as goal

abbrev pub invariant-loop-count : goal.invariant-loop-count
invariant-loop-count g l =
    Inner l.places g.rates l.deps l.initial.order (nth l.initial.groups) l.count l.k l.t l.order (nth l.groups) l.cur l.way.below l.way.from l.way.ahead l.way.over

abbrev pub decreases-loop-count : goal.decreases-loop-count
decreases-loop-count g l = l.way.below

abbrev pub invariant-loop-k : goal.invariant-loop-k
invariant-loop-k g l = Outer l.places g.rates l.deps l.initial.order l.order (nth l.groups) l.count l.k
