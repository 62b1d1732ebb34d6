-- Document 01, "The cluster program": what it prints. "It prints the answer, the order (bare `order=` for n 0), and per chunk its member
-- count and its rate in sat per kvB". Assumes nothing.
use Rattle.std.specs.Prelude.{ℕ, cond, List, [], ◌∷◌, ◌++◌, take, drop, eqb, ℤ, pos, ◌*ℤ◌}
use Rattle.std.specs.Int.Signed.{quot_z}
use Rattle.texts.specs.Writing.{decimal, signed, commas, text_line}
use Rattle.feefrac.specs.declared.FeeFrac.{FeeFrac}
use Rattle.feefrac.specs.Rate.{held_fee}
use Rattle.feeset.specs.Total.{total}

-- "answer="
abbrev pub answer_key : List ℕ
answer_key = 97 ∷ 110 ∷ 115 ∷ 119 ∷ 101 ∷ 114 ∷ 61 ∷ []

-- "order="
abbrev pub order_key : List ℕ
order_key = 111 ∷ 114 ∷ 100 ∷ 101 ∷ 114 ∷ 61 ∷ []

-- "chunk="
abbrev pub chunk_key : List ℕ
chunk_key = 99 ∷ 104 ∷ 117 ∷ 110 ∷ 107 ∷ 61 ∷ []

-- "rate="
abbrev pub rate_key : List ℕ
rate_key = 114 ∷ 97 ∷ 116 ∷ 101 ∷ 61 ∷ []

-- "fee × 4,000 / size rounded towards zero, 0 for size 0, held to the i64 range"
unfoldable pub shown_rate : FeeFrac → ℤ
shown_rate r = cond (eqb r.size 0) (pos 0) (held_fee (quot_z (r.fee *ℤ pos 4000) (pos r.size)))

-- a chunk's two lines
unfoldable pub chunk_lines : ℕ → FeeFrac → List ℕ
chunk_lines len r = text_line chunk_key (decimal len) ++ text_line rate_key (signed (shown_rate r))

-- the lines of the chunks of these lengths of an order
unfoldable pub all_chunk_lines : List ℤ → List ℕ → List ℕ → List ℕ → List ℕ
all_chunk_lines fs ss [] order = []
all_chunk_lines fs ss (l ∷ ls) order = chunk_lines l (total fs ss (take l order)) ++ all_chunk_lines fs ss ls (drop l order)

-- "A refusal prints its answer line alone."
unfoldable pub refusal_text : ℕ → List ℕ
refusal_text k = text_line answer_key (decimal k)

unfoldable pub success_text : List ℤ → List ℕ → List ℕ → List ℕ → List ℕ
success_text fs ss order lens = refusal_text 0 ++ (text_line order_key (commas order) ++ all_chunk_lines fs ss lens order)
