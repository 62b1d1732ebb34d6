use Rattle.std.proofs.Common.{◌≡◌, drop}
use Rattle.feeset.specs.Total.{total, total_from}
use Rattle.feeset.proofs.list_feerate.Given as goal

abbrev pub invariant-loop-t : goal.invariant-loop-t
invariant-loop-t l = total_from l.fees l.sizes l.sum (drop l.t-index l.list) ≡ total l.fees l.sizes l.list
