-- Document 01, "Raw weight and adjusted weight are separate measures", and virtual size, which BIP 141 decides. Assumes nothing.
use Rattle.std.specs.Prelude.{ℕ, ◌+◌, ◌*◌, ◌/◌, max, min}
use Rattle.weights.specs.declared.RawWeight.{RawWeight}
use Rattle.weights.specs.declared.AdjustedWeight.{AdjustedWeight}

-- "BIP 141 decides virtual size: weight / 4, rounded up." The law that pins it: 4 v ≥ w, and w > 4 (v - 1) where w is not 0
-- (proofs/Theorems.antt)
unfoldable pub virtual_size : ℕ → ℕ
virtual_size w = (w + 3) / 4

-- 2^64 - 1
abbrev pub most : ℕ
most = 18446744073709551615

-- "the adjusted one is the larger of raw weight and sigop cost × bytes per sigop (held at 2^64 - 1)"
unfoldable pub adjusted : RawWeight → ℕ → ℕ → AdjustedWeight
adjusted w cost bytes = record { 0 = max w.0 (min (cost * bytes) most) }
