-- What the pool program prints: "the number first, then what the call answers by name". Assumes nothing.
use Rattle.std.specs.Prelude.{ℕ, cond, List, [], ◌∷◌, ◌++◌, eqb}
use Rattle.texts.specs.Writing.{decimal, joined, commas, text_line}
use Rattle.pool_rules.specs.declared.Placed.{Placed}
use Rattle.pool_rules.specs.declared.Totals.{Totals}
use Rattle.pool_writer.specs.Texts.{slot_text}

-- the names, as bytes: "0 slot=", "0 entries=", " weight=", "0 selected=", a newline and "txids=", "13 line="
abbrev pub slot_name : List ℕ
slot_name = 48 ∷ 32 ∷ 115 ∷ 108 ∷ 111 ∷ 116 ∷ 61 ∷ []

abbrev pub entries_name : List ℕ
entries_name = 48 ∷ 32 ∷ 101 ∷ 110 ∷ 116 ∷ 114 ∷ 105 ∷ 101 ∷ 115 ∷ 61 ∷ []

abbrev pub weight_name : List ℕ
weight_name = 32 ∷ 119 ∷ 101 ∷ 105 ∷ 103 ∷ 104 ∷ 116 ∷ 61 ∷ []

abbrev pub selected_name : List ℕ
selected_name = 48 ∷ 32 ∷ 115 ∷ 101 ∷ 108 ∷ 101 ∷ 99 ∷ 116 ∷ 101 ∷ 100 ∷ 61 ∷ []

abbrev pub txids_name : List ℕ
txids_name = 10 ∷ 116 ∷ 120 ∷ 105 ∷ 100 ∷ 115 ∷ 61 ∷ []

abbrev pub line_name : List ℕ
line_name = 49 ∷ 51 ∷ 32 ∷ 108 ∷ 105 ∷ 110 ∷ 101 ∷ 61 ∷ []

-- a number alone
unfoldable pub number_text : ℕ → List ℕ
number_text k = decimal k ++ (10 ∷ [])

unfoldable pub placed_text : Placed → List ℕ
placed_text r = cond (eqb r.answer 0) (text_line slot_name (decimal r.slot)) (number_text r.answer)

unfoldable pub totals_text : Totals → List ℕ
totals_text r =
    cond (eqb r.answer 0)
    (entries_name ++ (decimal r.entries ++ text_line weight_name (decimal r.weight)))
    (number_text r.answer)

-- "the selected slots, and in a second line their txids"
unfoldable pub selected_text : List ℕ → List ℕ → List ℕ
selected_text t slots = selected_name ++ (commas slots ++ (txids_name ++ (joined (slot_text t) slots ++ (10 ∷ []))))

-- "A line that is not of the form is answered with 13 and its line number"
unfoldable pub malformed_text : ℕ → List ℕ
malformed_text n = text_line line_name (decimal n)

-- the longest of these, and more
abbrev pub room_length : ℕ
room_length = 90112
