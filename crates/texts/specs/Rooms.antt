-- A text that is written at a place of a room: whole, or not at all. Assumes nothing.
use Rattle.std.specs.Prelude.{ℕ, ◌+◌, ◌≤◌, ◌≡◌, Bool, cond, List, ◌++◌, leb, length, take, drop}

-- a text in a room from a place on, the rest of the room as it was
abbrev pub placed : ℕ → List ℕ → List ℕ → List ℕ
placed at text room = take at room ++ (text ++ drop (at + length text) room)

-- whether there is room for it from that place on
unfoldable pub fits : List ℕ → ℕ → List ℕ → Bool
fits text at room = leb (at + length text) (length room)

-- the place behind it, where it fits, and what the room then has
unfoldable pub end_of : List ℕ → ℕ → List ℕ → ℕ
end_of text at room = cond (fits text at room) (at + length text) at

unfoldable pub written_at : List ℕ → ℕ → List ℕ → List ℕ
written_at text at room = cond (fits text at room) (placed at text room) room

-- ---- the same for functions that write a text piece by piece, and know that it fits

-- there is room for the text from `at` on
pub record Room (text : List ℕ) (at : ℕ) (room : List ℕ) : Type 0 where
  pub fits : at + length text ≤ length room

-- the text was written from `at` on, and `end` is the place behind it
pub record Wrote (text : List ℕ) (at : ℕ) (old new : List ℕ) (end : ℕ) : Type 0 where
  pub ends : end ≡ at + length text
  pub are : new ≡ placed at text old

-- it was, if there is room for it
abbrev pub Writes : List ℕ → ℕ → List ℕ → List ℕ → ℕ → Type 0
Writes text at old new end = Room text at old → Wrote text at old new end
