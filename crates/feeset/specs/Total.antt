-- The feerate sum of some members of a cluster, taken in one after the other. Assumes nothing.
use Rattle.std.specs.Prelude.{ℕ, List, [], ◌∷◌, ℤ}
use Rattle.feefrac.specs.declared.FeeFrac.{FeeFrac}
use Rattle.feefrac.specs.Rate.{zero_rate, sum, rate_at}

unfoldable pub total_from : List ℤ → List ℕ → FeeFrac → List ℕ → FeeFrac
total_from fs ss acc [] = acc
total_from fs ss acc (i ∷ is) = total_from fs ss (sum acc (rate_at fs ss i)) is

abbrev pub total : List ℤ → List ℕ → List ℕ → FeeFrac
total fs ss is = total_from fs ss zero_rate is
