-- What is printed of lines is what is printed of the first of them, and then of the rest. Assumes nothing.
use mathlib.Core.Path.{◌≡◌, sym, ap, ◌∙◌}
use mathlib.Core.List.{List, [], ◌∷◌, ◌++◌, append_assoc, append-nil}
use Prim.Native.Nat.{ℕ, ◌+◌, ◌≤◌}
use native.Mathlib.Omega.{arith}
use lib.ListN.{length, length-append}
use Rattle.texts.specs.Places.{split, split_from}
use Rattle.pool_reader.specs.Requests.{request_of}
use Rattle.pool_session.specs.Session.{Session, no_pool, after}
use Rattle.pool_session.specs.Answers.{text_of}
use Rattle.pool_session.specs.Program.{last_text, last_number, number_behind, answers_from, responses, behind_lines}
use Rattle.pool_run.specs.Reads.{held}
use Rattle.pool_run.specs.Standing.{printed_of, Cut}

pub lines_first : (s : Session) (n m : ℕ) (ls : List (List ℕ)) (l : List ℕ) (rest : List (List ℕ)) → n ≤ last_number → m ≡ held (length ls + n)
    → answers_from s n (ls ++ (l ∷ rest)) ≡ answers_from s n (ls ++ ([] ∷ [])) ++ answers_from (behind_lines s ls) m (l ∷ rest)
unfolding answers_from behind_lines
lines_first s n m [] l rest h e =
    let same : n ≡ m = omega (arith, e) in
    ap (λ (k : ℕ). answers_from s k (l ∷ rest)) same
lines_first s n m (k ∷ []) l rest h e =
    let same : number_behind n ≡ m = omega (arith, e) in
    rw (append-nil (text_of s n (request_of k)), same)
lines_first s n m (k ∷ j ∷ ls) l rest h e =
    let q = request_of k in
    ap (λ (t : List ℕ). text_of s n q ++ t) (lines_first (after s q) (number_behind n) m (j ∷ ls) l rest (omega arith) (omega (arith, e)))
    ∙ sym (append_assoc (text_of s n q) (answers_from (after s q) (number_behind n) (j ∷ ls ++ ([] ∷ []))) _)

module _ (lines : List (List ℕ)) where
  from_one : (m : ℕ) → m ≡ number_behind (length lines) → m ≡ held (length lines + 1)
  from_one m e = omega (arith, e)

  -- one line more
  pub printed_more : (pending : List ℕ) (m : ℕ) → m ≡ number_behind (length lines)
      → printed_of (lines ++ (pending ∷ [])) ≡ printed_of lines ++ text_of (behind_lines no_pool lines) m (request_of pending)
  unfolding answers_from
  printed_more pending m e =
      ap (answers_from no_pool 1) (append_assoc lines (pending ∷ []) ([] ∷ []))
      ∙ lines_first no_pool 1 m lines pending ([] ∷ []) (omega arith) (from_one m e)
      ∙ ap (λ (t : List ℕ). printed_of lines ++ t) (append-nil (text_of (behind_lines no_pool lines) m (request_of pending)))

  -- the input ends
  pub printed_whole : (input pending : List ℕ) (m : ℕ) → Cut input lines pending → m ≡ number_behind (length lines)
      → responses input ≡ printed_of lines ++ last_text m pending
  unfolding responses split_from answers_from
  printed_whole input pending m cut e =
      ap (λ (t : List ℕ). answers_from no_pool 1 (split 10 t)) (sym (append-nil input))
      ∙ ap (answers_from no_pool 1) (cut [])
      ∙ lines_first no_pool 1 m lines pending [] (omega arith) (from_one m e)

-- ---- how many bytes

pub more_bytes : (before after text : List ℕ) {b c n : ℕ} → b ≡ held (length before) → after ≡ before ++ text → n ≡ length text
    → c ≡ held (b + n) → c ≡ held (length after)
more_bytes before after text h e k g = omega (arith, h, ap length e ∙ length-append before text, k, g)
