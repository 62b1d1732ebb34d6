-- What the crate's own functions answer, at a place of the line: no contract outside this crate cites these. Assumes nothing.
use Rattle.std.specs.Prelude.{ℕ, zero, suc, ◌+◌, ◌≤◌, ◌≡◌, Bool, true, false, cond, ◌&&◌, List, [], ◌∷◌, ◌++◌, leb, length, take, drop, Option, Some, None}
use Rattle.texts.specs.Numerals.{number_of, is_number, are_numbers}
use Rattle.texts.specs.Places.{split}
use Rattle.texts.specs.Rooms.{Wrote}
use Rattle.texts.specs.Hex.{is_hex64, hex_bytes}
use Rattle.pool_reader.specs.Requests.{numbers_in, are_txids, bytes_in, longest_line}

-- the words from there on; none past the end
unfoldable pub words_at : List ℕ → ℕ → List (List ℕ)
words_at text from = cond (leb from (length text)) (split 32 (drop from text)) []

-- a place of a line that is not too long, or the one past its end
pub record Place (text : List ℕ) (at : ℕ) : Type 0 where
  pub short : length text ≤ longest_line
  pub within : at ≤ length text + 1

-- whether so many words come first that are numbers, and whether a txid does
unfoldable pub start_numbers : ℕ → List (List ℕ) → Bool
start_numbers zero ws = true
start_numbers (suc k) [] = false
start_numbers (suc k) (w ∷ ws) = is_number (number_of w) && start_numbers k ws

abbrev pub starts_txid : List (List ℕ) → Bool
starts_txid [] = false
starts_txid (w ∷ ws) = is_hex64 w

-- the words between two places are numbers, and these
pub record Numbers (text : List ℕ) (from to : ℕ) (values : List ℕ) : Type 0 where
  pub place : Place text to
  pub read : List (List ℕ)
  pub words : words_at text from ≡ read ++ words_at text to
  pub numbers : are_numbers read ≡ true
  pub are : values ≡ numbers_in read

abbrev pub NumbersRead : ℕ → List ℕ → ℕ → Option (List ℕ × ℕ) → Type 0
NumbersRead count text from (Some r) = (length r.0 ≡ count) × Numbers text from r.1 r.0
NumbersRead count text from None = start_numbers count (words_at text from) ≡ false

-- the word between two places is a txid, and its bytes were written
pub record TxidTo (text : List ℕ) (from to at : ℕ) (old new : List ℕ) : Type 0 where
  pub place : Place text to
  pub far : from + 65 ≤ to
  pub word : List ℕ
  pub words : words_at text from ≡ word ∷ words_at text to
  pub hex : is_hex64 word ≡ true
  pub wrote : Wrote (hex_bytes word) at old new (at + 32)

abbrev pub TxidRead : List ℕ → ℕ → ℕ → List ℕ → List ℕ → Option ℕ → Type 0
TxidRead text from at old new (Some to) = TxidTo text from to at old new
TxidRead text from at old new None = starts_txid (words_at text from) ≡ false

-- all words from there on are txids, and their bytes stand at the room's start
pub record Txids (text : List ℕ) (from len : ℕ) (new : List ℕ) : Type 0 where
  pub are : are_txids (words_at text from) ≡ true
  pub bytes : take len new ≡ bytes_in (words_at text from)

abbrev pub TxidsRead : List ℕ → ℕ → List ℕ → Option ℕ → Type 0
TxidsRead text from new (Some len) = Txids text from len new
TxidsRead text from new None = are_txids (words_at text from) ≡ false
