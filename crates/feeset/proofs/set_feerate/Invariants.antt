use Rattle.std.proofs.Common.{◌≡◌}
use Rattle.txset.specs.Sets.{members}
use Rattle.feeset.specs.Total.{total, total_from}
use Rattle.feeset.proofs.set_feerate.Given as goal

abbrev pub invariant-loop-i : goal.invariant-loop-i
invariant-loop-i l = total_from l.fees l.sizes l.sum (members l.i-iterator.rest) ≡ total l.fees l.sizes (members l.fn.set)
