-- For readers: however the input comes, in one read or in many, the program's answers are one and the same. `Stands` says where it is behind
-- some of the input; what it has printed then and what is still to come are all that `responses` of pool_session prints. No proof of a
-- function cites these. Assumes nothing.
use mathlib.Core.Path.{◌≡◌, ap, ◌∙◌}
use mathlib.Core.Bool.{Bool, true, false, cond}
use mathlib.Core.List.{List, [], ◌∷◌, ◌++◌}
use Prim.Native.Nat.{ℕ}
use native.Mathlib.Omega.{arith}
use lib.Dec.{eqb}
use Rattle.texts.specs.Places.{split_from}
use Rattle.pool_session.specs.Session.{no_pool}
use Rattle.pool_session.specs.Memory.{lends, session_in}
use Rattle.pool_session.specs.Program.{answers_from, responses, behind_lines}
use Rattle.pool_run.specs.declared.Desk.{Desk}
use Rattle.pool_run.specs.Standing.{printed_of, Stands}
use Rattle.pool_run.proofs.Answers.{lines_first}

-- there is a part, however a text is cut
data Parts : List (List ℕ) → Type 0 where
  parts : (l : List ℕ) (ls : List (List ℕ)) → Parts (l ∷ ls)

some_part : (b : ℕ) (part xs : List ℕ) → Parts (split_from b part xs)
unfolding split_from
some_part b part [] = parts part []
some_part b part (x ∷ xs) = go (eqb x b) (some_part b (part ++ (x ∷ [])) xs)
  where
    go : (t : Bool) → Parts (split_from b (part ++ (x ∷ [])) xs) → Parts (cond t (part ∷ split_from b [] xs) (split_from b (part ++ (x ∷ [])) xs))
    go true p = parts part (split_from b [] xs)
    go false p = p

module _ {input : List ℕ} {d : Desk} (st : Stands input d) where
  more : {rest : List (List ℕ)} → Parts rest
      → answers_from no_pool 1 (st.lines ++ rest) ≡ printed_of st.lines ++ answers_from (behind_lines no_pool st.lines) d.printed.number rest
  more (parts l ls) = lines_first no_pool 1 d.printed.number st.lines l ls (omega arith) (omega (arith, st.shown.number))

  -- all that it prints of an input: the answers of the lines so far, and what the session in its memory answers to the pending line and
  -- the rest, as numbered
  pub in_two : (rest : List ℕ)
      → responses (input ++ rest)
      ≡ printed_of st.lines
      ++ answers_from (session_in d.memory.slots (lends d.memory [])) d.printed.number (split_from 10 st.pending rest)
  unfolding responses
  in_two rest = ap (answers_from no_pool 1) (st.cut rest) ∙ more (some_part 10 st.pending rest) ∙ rw st.session
