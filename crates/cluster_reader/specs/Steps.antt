-- What the crate's own functions answer, at a place of the text. Of these only `has_end` is cited by a public contract
-- (specs/Calls.antt). Assumes nothing.
use Rattle.std.specs.Prelude.{ℕ, ◌+◌, Bool, cond, ◌||◌, List, ltb, length, drop, Option, Some, None}
use Rattle.texts.specs.Places.{before, place_of}
use Rattle.txset.specs.declared.TxSet.{TxSet}
use Rattle.cluster_reader.specs.declared.lines.Span.{Span}
use Rattle.cluster_reader.specs.declared.MemberLines.{MemberLines}
use Rattle.cluster_reader.specs.Lines.{is_line, is_field, value_of}
use Rattle.texts.specs.Numerals.{number_of, are_numbers}
use Rattle.cluster_reader.specs.Reading.{n_key, parts, word_of, is_member, member_fee, member_size, member_parents}

-- where the line that starts there ends, and where the one behind it starts
unfoldable pub line_at : List ℕ → ℕ → Option ℕ
line_at text from = cond (is_line (drop from text)) (Some (place_of 10 text from)) None

abbrev pub next_line : List ℕ → ℕ → ℕ
next_line text from = place_of 10 text from + 1

-- where the value of the line with this key stands
unfoldable pub field_at : List ℕ → List ℕ → ℕ → Option Span
field_at key text from =
    cond (is_field key (drop from text)) (Some (record { start = from + length key; end = place_of 10 text from })) None

-- the number of the first line
unfoldable pub number_at : List ℕ → Option ℕ
number_at text = cond (is_field n_key text) (number_of (value_of n_key text)) None

-- whether the first line is whole, or longer than a line may be
abbrev pub has_end : List ℕ → Bool
has_end text = ltb (length (before 10 text)) (length text) || ltb 1024 (length text)

-- the set that a list of positions names
unfoldable pub parents_in : List ℕ → Option TxSet
parents_in xs = cond (are_numbers (parts xs)) (Some (record { word = word_of 0 (parts xs) })) None

-- the member whose lines start there
unfoldable pub member_at : List ℕ → ℕ → Option MemberLines
member_at text from =
    cond (is_member (drop from text))
    (Some
    (record {
      fee = member_fee (drop from text);
      size = member_size (drop from text);
      parents = record { word = member_parents (drop from text) };
      next = next_line text (next_line text (next_line text from));
    }))
    None
