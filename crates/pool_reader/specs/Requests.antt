-- The pool program's lines: what each of them asks for (README, "The pool program"). "Words with one space between them; txids as 64 hex
-- digits of the stored bytes, numbers in plain decimals". Assumes nothing.
use Rattle.std.specs.Prelude.{ℕ, Bool, cond, ◌&&◌, List, [], ◌∷◌, ◌++◌, map, eqb, leb, length, get_or, take, drop, ℤ}
use Rattle.lists.specs.Lists.{all_of, same}
use Rattle.texts.specs.Numerals.{number_of, signed_of, number_in, are_numbers, is_signed, signed_in}
use Rattle.texts.specs.Places.{split}
use Rattle.texts.specs.Hex.{is_hex64, hex_bytes}
use Rattle.txids.specs.declared.Txid.{Txid}
use Rattle.txids.specs.Txids.{txid_at}
use Rattle.pool_table.specs.declared.Limits.{Limits}
use Rattle.pool_table.specs.declared.Entry.{Entry}
use Rattle.pool_rules.specs.Calls.{entry_of}
use Rattle.template_rules.specs.declared.Terms.{Terms}

-- a pool of so many slots with its limits; an entry with the bytes of its parents' txids; a txid, and with a cost; a delta or a mark for a
-- slot; a template's terms; or a line that is none of these
pub data Request : Type 0 where
  make : ℕ → Limits → Request
  add : Entry → List ℕ → Request
  remove : Txid → Request
  set_cost : Txid → ℕ → Request
  clear : Request
  totals : Request
  delta : ℕ → ℤ → Request
  mark : ℕ → ℕ → Request
  template : Terms → Request
  malformed : Request

-- ---- words

-- the first words, as bytes: "make", "add", "remove", "set-cost", "clear", "totals", "delta", "mark", "template"
abbrev pub make_word : List ℕ
make_word = 109 ∷ 97 ∷ 107 ∷ 101 ∷ []

abbrev pub add_word : List ℕ
add_word = 97 ∷ 100 ∷ 100 ∷ []

abbrev pub remove_word : List ℕ
remove_word = 114 ∷ 101 ∷ 109 ∷ 111 ∷ 118 ∷ 101 ∷ []

abbrev pub set_cost_word : List ℕ
set_cost_word = 115 ∷ 101 ∷ 116 ∷ 45 ∷ 99 ∷ 111 ∷ 115 ∷ 116 ∷ []

abbrev pub clear_word : List ℕ
clear_word = 99 ∷ 108 ∷ 101 ∷ 97 ∷ 114 ∷ []

abbrev pub totals_word : List ℕ
totals_word = 116 ∷ 111 ∷ 116 ∷ 97 ∷ 108 ∷ 115 ∷ []

abbrev pub delta_word : List ℕ
delta_word = 100 ∷ 101 ∷ 108 ∷ 116 ∷ 97 ∷ []

abbrev pub mark_word : List ℕ
mark_word = 109 ∷ 97 ∷ 114 ∷ 107 ∷ []

abbrev pub template_word : List ℕ
template_word = 116 ∷ 101 ∷ 109 ∷ 112 ∷ 108 ∷ 97 ∷ 116 ∷ 101 ∷ []

-- a word of a list, and what words say as numbers, and as txids one after the other
abbrev pub word_at : List (List ℕ) → ℕ → List ℕ
word_at ws k = get_or ws k []

unfoldable pub numbers_in : List (List ℕ) → List ℕ
numbers_in ws = map (λ w. number_in (number_of w)) ws

abbrev pub number_at : List (List ℕ) → ℕ → ℕ
number_at ws k = get_or (numbers_in ws) k 0

unfoldable pub are_txids : List (List ℕ) → Bool
are_txids ws = all_of is_hex64 ws

unfoldable pub bytes_in : List (List ℕ) → List ℕ
bytes_in [] = []
bytes_in (w ∷ ws) = hex_bytes w ++ bytes_in ws

-- ---- a line by its first word. `ws` are the words behind it

-- add TXID FEE WEIGHT COST PARENT ..
unfoldable pub as_add : List (List ℕ) → Request
as_add ws =
    cond (leb 4 (length ws) && (is_hex64 (word_at ws 0) && (are_numbers (take 3 (drop 1 ws)) && are_txids (drop 4 ws))))
    (add (entry_of (hex_bytes (word_at ws 0)) (number_at ws 1) (number_at ws 2) (number_at ws 3)) (bytes_in (drop 4 ws)))
    malformed

-- remove TXID
unfoldable pub as_remove : List (List ℕ) → Request
as_remove ws = cond (eqb (length ws) 1 && is_hex64 (word_at ws 0)) (remove (txid_at (hex_bytes (word_at ws 0)) 0)) malformed

-- set-cost TXID COST
unfoldable pub as_set_cost : List (List ℕ) → Request
as_set_cost ws =
    cond (eqb (length ws) 2 && (is_hex64 (word_at ws 0) && are_numbers (drop 1 ws)))
    (set_cost (txid_at (hex_bytes (word_at ws 0)) 0) (number_at ws 1))
    malformed

-- make SLOTS COUNT SIZE BYTES
unfoldable pub as_make : List (List ℕ) → Request
as_make ws =
    cond (eqb (length ws) 4 && are_numbers ws)
    (make (number_at ws 0) (record { count = number_at ws 1; size = number_at ws 2; bytes_per_sigop = number_at ws 3 }))
    malformed

-- clear, totals
unfoldable pub as_alone : Request → List (List ℕ) → Request
as_alone r ws = cond (eqb (length ws) 0) r malformed

-- delta SLOT SATS
unfoldable pub as_delta : List (List ℕ) → Request
as_delta ws =
    cond (eqb (length ws) 2 && (are_numbers (take 1 ws) && is_signed (signed_of (word_at ws 1))))
    (delta (number_at ws 0) (signed_in (signed_of (word_at ws 1))))
    malformed

-- mark SLOT MARK
unfoldable pub as_mark : List (List ℕ) → Request
as_mark ws = cond (eqb (length ws) 2 && are_numbers ws) (mark (number_at ws 0) (number_at ws 1)) malformed

-- template BUDGET RESERVE MINIMUM
unfoldable pub as_template : List (List ℕ) → Request
as_template ws =
    cond (eqb (length ws) 3 && are_numbers ws)
    (template (record { budget = record { 0 = number_at ws 0 }; reserve = number_at ws 1; minimum = number_at ws 2 }))
    malformed

-- the lines without a txid
unfoldable pub by_plain_word : List ℕ → List (List ℕ) → Request
by_plain_word k ws =
    cond (same k make_word) (as_make ws)
    (cond (same k clear_word) (as_alone clear ws)
    (cond (same k totals_word) (as_alone totals ws)
    (cond (same k delta_word) (as_delta ws)
    (cond (same k mark_word) (as_mark ws)
    (cond (same k template_word) (as_template ws) malformed)))))

unfoldable pub by_word : List ℕ → List (List ℕ) → Request
by_word k ws =
    cond (same k add_word) (as_add ws)
    (cond (same k remove_word) (as_remove ws)
    (cond (same k set_cost_word) (as_set_cost ws) (by_plain_word k ws)))

-- so many bytes a line has at most before its newline: an add with 64 parents has fewer than 4,400
abbrev pub longest_line : ℕ
longest_line = 8192

-- what a line asks for. (It has no newline in it, which would be a byte of a word like any other)
unfoldable pub request_of : List ℕ → Request
request_of line = cond (leb (length line) longest_line) (by_word (word_at (split 32 line) 0) (drop 1 (split 32 line))) malformed
