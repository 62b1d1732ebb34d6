-- Bytes as hex digits: "0" to "9" and "a" to "f", two a byte, the first the high one. Assumes nothing.
use Rattle.std.specs.Prelude.{ℕ, ◌+◌, ◌-◌, ◌*◌, ◌/◌, ◌%◌, Bool, cond, ◌&&◌, ◌||◌, List, [], ◌∷◌, eqb, ltb, leb, length}
use Rattle.lists.specs.Lists.{all_of}

abbrev pub is_hex_digit : ℕ → Bool
is_hex_digit b = (leb 48 b && leb b 57) || (leb 97 b && leb b 102)

-- what a digit stands for; 16 for a byte that is none
unfoldable pub hex_value : ℕ → ℕ
hex_value b = cond (is_hex_digit b) (cond (leb b 57) (b - 48) (b - 87)) 16

-- the digit of a number below 16
unfoldable pub hex_digit : ℕ → ℕ
hex_digit n = cond (ltb n 10) (48 + n) (87 + n)

-- the bytes that digits spell
unfoldable pub hex_bytes : List ℕ → List ℕ
hex_bytes [] = []
hex_bytes (h ∷ []) = []
hex_bytes (h ∷ l ∷ ds) = (16 * hex_value h + hex_value l) ∷ hex_bytes ds

-- whether a text is 64 digits, those of 32 bytes
unfoldable pub is_hex64 : List ℕ → Bool
is_hex64 text = eqb (length text) 64 && all_of is_hex_digit text

-- the digits that spell bytes
unfoldable pub hex_text : List ℕ → List ℕ
hex_text [] = []
hex_text (b ∷ bs) = hex_digit (b / 16) ∷ hex_digit (b % 16) ∷ hex_text bs
