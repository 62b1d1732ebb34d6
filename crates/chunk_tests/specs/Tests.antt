-- Document 01, "How a template is filled": what is asked of a chunk's numbers. Which of two is tried first by what it pays, and the tests
-- against the minimum, the budget and the sigop limit. Assumes nothing.
use Rattle.std.specs.Prelude.{ℕ, ◌+◌, ◌*◌, Bool, cond, not, ◌&&◌, eqb, ltb, ℤ, pos, ◌*ℤ◌}
use Rattle.std.specs.Int.Signed.{lt_z}
use Rattle.feefrac.specs.declared.FeeFrac.{FeeFrac}
use Rattle.std.specs.declared.cmp.Ordering.{Ordering}
use Rattle.std.specs.declared.cmp.Ordering.TheVariants.{Less, Equal, Greater}
use Rattle.feefrac.specs.Rate.{rate_order, then_by}
use Rattle.weights.specs.Weights.{virtual_size}

unfoldable pub fee_order : ℤ → ℤ → Ordering
fee_order f g = cond (lt_z g f) Greater (cond (lt_z f g) Less Equal)

-- "by exact feerate, then larger fee"
unfoldable pub pays_order : FeeFrac → FeeFrac → Ordering
pays_order a b = then_by (rate_order a b) (fee_order a.fee b.fee)

-- "if its fee is negative"
unfoldable pub is_negative : FeeFrac → Bool
is_negative r = lt_z r.fee (pos 0)

-- "if fee × 1,000 is below minimum × virtual size of its adjusted weight (minimum 0 passes all)"
unfoldable pub is_below : ℕ → FeeFrac → Bool
is_below minimum r = not (eqb minimum 0) && lt_z (r.fee *ℤ pos 1000) (pos (minimum * virtual_size r.size))

-- "if used raw weight plus the addition exceeds the budget"
unfoldable pub over_budget : ℕ → ℕ → ℕ → Bool
over_budget budget used added = ltb budget (used + added)

-- "if reserve plus used plus added sigop cost exceeds 80,000"
unfoldable pub over_sigops : ℕ → ℕ → ℕ → Bool
over_sigops reserve used added = ltb 80000 (reserve + (used + added))
