-- The pool program from the bytes read to the bytes printed. Assumes nothing.
use Rattle.std.specs.Prelude.{ℕ, suc, min, List, [], ◌∷◌, ◌++◌}
use Rattle.texts.specs.Places.{split}
use Rattle.pool_reader.specs.Requests.{request_of}
use Rattle.pool_session.specs.Session.{Session, no_pool, after}
use Rattle.pool_writer.specs.Answers.{malformed_text}
use Rattle.pool_session.specs.Answers.{text_of}

-- what stands behind the last newline: nothing, or a line that was cut off, which is 13
abbrev pub last_text : ℕ → List ℕ → List ℕ
last_text n [] = []
last_text n (b ∷ bs) = malformed_text n

-- README: "13 with the line's number behind it, from 1". The number of the line behind line n. (The last number of a u64 stays: no run has so
-- many lines)
abbrev pub last_number : ℕ
last_number = 18446744073709551615

abbrev pub number_behind : ℕ → ℕ
number_behind n = min (suc n) last_number

-- lines from number n on, each but the last with its newline
unfoldable pub answers_from : Session → ℕ → List (List ℕ) → List ℕ
answers_from s n [] = []
answers_from s n (l ∷ []) = last_text n l
answers_from s n (l ∷ m ∷ ls) = text_of s n (request_of l) ++ answers_from (after s (request_of l)) (number_behind n) (m ∷ ls)

-- the first line is number 1
unfoldable pub responses : List ℕ → List ℕ
responses input = answers_from no_pool 1 (split 10 input)

-- the session behind some whole lines
unfoldable pub behind_lines : Session → List (List ℕ) → Session
behind_lines s [] = s
behind_lines s (l ∷ ls) = behind_lines (after s (request_of l)) ls
