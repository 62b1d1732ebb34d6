-- The chunks of members that stand in an order, by their positions in the slices. Assumes nothing.
use Rattle.std.specs.Prelude.{ℕ, Bool, cond, ◌&&◌, List, [], ◌∷◌, map, length, take, drop, get_or, leb, ℤ}
use Rattle.feefrac.specs.Rate.{rate_at}
use Rattle.lists.specs.Lists.{overwrite}
use Rattle.txset.specs.Sets.{positions}
use Rattle.chunking.specs.Chunks.{chunk_lengths}

-- the lengths of the chunks of an order
abbrev pub order_lengths : List ℤ → List ℕ → List ℕ → List ℕ
order_lengths fs ss order = chunk_lengths (map (rate_at fs ss) order)

-- a list cut into parts of these lengths
unfoldable pub cut : List ℕ → List ℕ → List (List ℕ)
cut [] xs = []
cut (l ∷ ls) xs = take l xs ∷ cut ls (drop l xs)

-- module 7: "Cut into chunks."
unfoldable pub chunks_of : List ℤ → List ℕ → List ℕ → List (List ℕ)
chunks_of fs ss order = cut (order_lengths fs ss order) order

abbrev pub chunk_at : List (List ℕ) → ℕ → List ℕ
chunk_at cs k = get_or cs k []

-- ---- what the function between crates promises for any input

-- whether there are at most 64 members in the order, and a place for each
unfoldable pub cuts : List ℕ → List ℕ → Bool
cuts order room = leb (length order) positions && leb (length order) (length room)

unfoldable pub lengths_written : List ℤ → List ℕ → List ℕ → List ℕ → ℕ
lengths_written fs ss order room = cond (cuts order room) (length (order_lengths fs ss order)) 0

unfoldable pub lengths_filled : List ℤ → List ℕ → List ℕ → List ℕ → List ℕ
lengths_filled fs ss order room =
    cond (cuts order room) (overwrite (order_lengths fs ss order) room) room
