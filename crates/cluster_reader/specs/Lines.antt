-- Document 01, "The cluster program": its lines. Assumes nothing.
use Rattle.std.specs.Prelude.{ℕ, ◌+◌, ◌*◌, Bool, true, false, ◌&&◌, List, [], ◌∷◌, length, drop, eqb, ltb, leb}
use Rattle.texts.specs.Places.{before}
use Rattle.txset.specs.Sets.{positions}

-- "each line ended by a newline and at most 1,024 bytes before it"
unfoldable pub is_line : List ℕ → Bool
is_line xs = ltb (length (before 10 xs)) (length xs) && leb (length (before 10 xs)) 1024

-- "each line ended by a newline and at most 1,024 bytes before it": so many bytes a line has at most, with its newline
abbrev pub longest_line : ℕ
longest_line = 1025

-- and so many the lines of the largest cluster: that of n, and three for each of its members
abbrev pub longest_text : ℕ
longest_text = longest_line + positions * (3 * longest_line)

-- whether the list starts with the key
unfoldable pub starts : List ℕ → List ℕ → Bool
starts [] xs = true
starts (k ∷ ks) [] = false
starts (k ∷ ks) (x ∷ xs) = eqb x k && starts ks xs

-- whether the text starts with a line of this key
unfoldable pub is_field : List ℕ → List ℕ → Bool
is_field key xs = is_line xs && starts key (before 10 xs)

-- what the line has behind its key
unfoldable pub value_of : List ℕ → List ℕ → List ℕ
value_of key xs = drop (length key) (before 10 xs)
