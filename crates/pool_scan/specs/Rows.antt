-- What the scan of refusal 12 asks of one row: no contract outside this crate cites it. Assumes nothing.
use Rattle.std.specs.Prelude.{ℕ, Bool, not, ◌&&◌, ◌||◌, eqb}
use Rattle.lists.specs.Lists.{all_of}
use Rattle.pool_table.specs.Pool.{Pool, slot_at, occupied}
use Rattle.pool_table.specs.Words.{slot_words}
use Rattle.pool_table.specs.Ranges.{entry_in_range}

-- an occupied slot's numbers are in their ranges; a free slot's words are 0
abbrev pub in_ranges : Pool → ℕ → Bool
in_ranges p s = not (occupied p s) || entry_in_range (slot_at p s).entry

abbrev pub zeroed : Pool → ℕ → Bool
zeroed p s = occupied p s || all_of (eqb 0) (slot_words (slot_at p s))

unfoldable pub row_stands : Pool → ℕ → Bool
row_stands p s = in_ranges p s && zeroed p s
