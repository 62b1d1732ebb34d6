-- What a number of two words is, and how a sum that wraps tells that it did. Assumes nothing.
use Rattle.std.specs.Prelude.{◌≡◌, ℕ, ◌+◌, ◌*◌, ◌<◌, ◌≤◌}
use Rattle.wide.specs.declared.Wide.{Wide}

-- the number of two words
abbrev pub value : Wide → ℕ
value w = 18446744073709551616 * w.hi + w.lo

-- "a sum below its addend means carry"
abbrev pub Carry : ℕ → ℕ → ℕ → Type 0
Carry s a r = ((s < a → r ≡ 1) × (a ≤ s → r ≡ 0))
