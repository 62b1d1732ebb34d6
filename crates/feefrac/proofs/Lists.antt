-- Reading a feerate of two lists after one was written there. Assumes nothing.
use Prim.Native.Nat.{ℕ, ◌<◌}
use mathlib.Core.Path.{◌≡◌}
use mathlib.Core.List.{List}
use lib.ListN.{length, set}
use lib.Seq.{get_or-set_same, get_or-set_other}
use lib.IntN.{ℤ, pos}
use Rattle.feefrac.specs.declared.FeeFrac.{FeeFrac}
use Rattle.feefrac.specs.Rate.{rate_at}

pub put_same : (fs : List ℤ) (ss : List ℕ) (i : ℕ) (r : FeeFrac) → i < length fs → i < length ss → rate_at (set fs i r.fee) (set ss i r.size) i ≡ r
unfolding rate_at
put_same fs ss i r h k = rw (get_or-set_same fs i r.fee (pos 0) h, get_or-set_same ss i r.size 0 k)

pub put_other : (fs : List ℤ) (ss : List ℕ) (i j : ℕ) (r : FeeFrac) → (j ≡ i → ⊥) → rate_at (set fs i r.fee) (set ss i r.size) j ≡ rate_at fs ss j
unfolding rate_at
put_other fs ss i j r h = rw (get_or-set_other fs i j r.fee (pos 0) h, get_or-set_other ss i j r.size 0 h)
