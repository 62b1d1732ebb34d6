-- Document 01, module 1: "every "highest" below is one scan upwards (positions, or the chunk list), the held one yielding only
-- to one strictly above". Assumes nothing.
use Rattle.std.specs.Prelude.{ℕ, Bool, cond, List, [], ◌∷◌}
use Rattle.feefrac.specs.declared.FeeFrac.{FeeFrac}
use Rattle.feefrac.specs.Rate.{rank_order, is_greater}

-- what a scan has found at its end, the document's "held one"; `above x y` says that x is strictly above y
unfoldable pub scan : (ℕ → ℕ → Bool) → ℕ → List ℕ → ℕ
scan above found [] = found
scan above found (x ∷ xs) = scan above (cond (above x found) x found) xs

-- the best of some candidates, as a list of one; of none, none
unfoldable pub best : (ℕ → ℕ → Bool) → List ℕ → List ℕ
best above [] = []
best above (x ∷ xs) = scan above x xs ∷ []

-- x ranks strictly above y
unfoldable pub ranks_above : (ℕ → FeeFrac) → ℕ → ℕ → Bool
ranks_above rate x y = is_greater (rank_order (rate x) (rate y))
