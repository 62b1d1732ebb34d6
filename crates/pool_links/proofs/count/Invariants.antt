use mathlib.Core.Path.{◌≡◌}
use Prim.Native.Nat.{ℕ, ◌*◌}
use Rattle.lists.specs.Below.{count_from}
use Rattle.txset.specs.Sets.{has_in}
use Rattle.pool_links.proofs.Gaps.{Ahead}
use Rattle.pool_links.proofs.count.Given as goal

-- the members of the words before x were counted, and what is left are the filled ones from there on
abbrev pub invariant-loop-j : goal.invariant-loop-j
invariant-loop-j l = (x : ℕ) × Ahead l.set x l.j-iterator.rest × (l.members ≡ count_from (has_in l.set) (64 * x) 0)
