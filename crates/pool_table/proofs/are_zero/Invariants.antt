use mathlib.Core.Path.{◌≡◌}
use mathlib.Core.Bool.{◌&&◌}
use lib.Dec.{eqb}
use lib.ListN.{drop}
use Rattle.lists.specs.Lists.{all_of}
use Rattle.pool_table.proofs.are_zero.Given as goal

abbrev pub invariant-loop-word : goal.invariant-loop-word
invariant-loop-word l = all_of (eqb 0) l.words ≡ (eqb l.digits 0 && all_of (eqb 0) (drop l.word-index l.words))
