use mathlib.Core.Path.{◌≡◌}
use mathlib.Core.Bool.{◌&&◌}
use Prim.Native.Nat.{ℕ}
use lib.Dec.{ltb}
use Rattle.txset.specs.Sets.{mem}
use Rattle.pool_links.proofs.Gaps.{is_filled}
use Rattle.pool_links.proofs.filled.Given as goal

abbrev pub invariant-loop-k : goal.invariant-loop-k
invariant-loop-k l = (i : ℕ) → mem l.some i ≡ (ltb i l.k && is_filled l.words i)
