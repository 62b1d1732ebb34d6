-- What the functions of this crate answer and leave, by what was read. Assumes nothing.
use Rattle.std.specs.Prelude.{◌≡◌, Bool, true, false, not, ◌&&◌, List, ◌++◌, ℕ, length, drop, eqb, ℤ}
use Rattle.cluster_reader.specs.Steps.{has_end}
use Rattle.cluster_reader.specs.Reading.{Read, refused, cluster, read, first_told}

abbrev pub fees_after : Read → List ℤ → List ℤ
fees_after (refused k) old = old
fees_after (cluster fs ss ps) old = fs ++ drop (length fs) old

abbrev pub sizes_after : Read → List ℕ → List ℕ
sizes_after (refused k) old = old
sizes_after (cluster fs ss ps) old = ss ++ drop (length fs) old

abbrev pub parents_after : Read → List ℕ → List ℕ
parents_after (refused k) old = old
parents_after (cluster fs ss ps) old = ps ++ drop (length fs) old

-- "An n above 64 gives 2 without reading on": what is decided by a start is the same for every text that starts so
abbrev pub Decided : List ℕ → Bool → Type 0
Decided start true = (rest : List ℕ) → read (start ++ rest) ≡ read start
Decided start false = Unit {0}

-- the answer is certain exactly where the first line is whole, or longer than a line may be, and gives a refusal
unfoldable pub is_decided : List ℕ → Bool
is_decided start = has_end start && not (eqb (first_told start).number 0)
