-- Laws of specs/Standing.antt: a line takes one byte more; the input goes on by one byte. Assumes nothing.
use mathlib.Core.Path.{◌≡◌, refl, sym, ap, ◌∙◌}
use mathlib.Core.Logic.{⊎_elim}
use mathlib.Core.List.{List, [], ◌∷◌, ◌++◌, append_assoc}
use Prim.Native.Nat.{ℕ, ◌+◌, ◌≤◌, ◌<◌}
use native.Mathlib.Numerals.{add-one}
use native.Mathlib.Omega.{arith}
use lib.ListN.{length, get_or, take, set, length-append, length-take}
use lib.Seq.{take_all, take-append-le, take-suc, take-suc-set}
use borrow.Author.Tests.{eq-eqb, ne_eqb}
use Rattle.lists.proofs.Numbers.{lt_or_ge}
use Rattle.texts.specs.Places.{split, split_from}
use Rattle.pool_reader.specs.Requests.{request_of}
use Rattle.pool_reader.proofs.Asking.{too_long}
use Rattle.pool_session.specs.Program.{number_behind}
use Rattle.pool_run.specs.Standing.{kept_length, Gathered, Cut}

-- ---- the line that is gathered

pub nothing_gathered : (line : List ℕ) → Gathered [] line 0
nothing_gathered line = record { many = refl; held = refl }

module _ {pending line : List ℕ} {len : ℕ} (g : Gathered pending line len) where
  one_more : (b : ℕ) → length (pending ++ (b ∷ [])) ≡ length pending + 1
  one_more b = length-append pending (b ∷ [])

  -- there is a place for a byte, and there is none
  pub byte_kept : (b : ℕ) → len < kept_length → len < length line → Gathered (pending ++ (b ∷ [])) (set line len b) (len + 1)
  byte_kept b l h =
      let e : length pending ≡ len = omega (arith, g.many) in
      record {
        many = omega (arith, one_more b);
        held =
            rw (add-one len) (take-suc-set line len b h)
            ∙ ap (λ (l : List ℕ). l ++ (b ∷ [])) (g.held ∙ take_all kept_length pending (omega arith))
            ∙ sym (take_all kept_length (pending ++ (b ∷ [])) (omega (arith, one_more b)));
      }

  pub byte_dropped : (b : ℕ) → kept_length ≤ len → Gathered (pending ++ (b ∷ [])) line len
  byte_dropped b l = record {
    many = omega (arith, one_more b, g.many);
    held = g.held ∙ sym (take-append-le kept_length pending (b ∷ []) (omega (arith, g.many)));
  }

  -- what is kept asks for what the line asks for
  pub asks_same : request_of (take len line) ≡ request_of pending
  asks_same =
      ap request_of g.held
      ∙ ⊎_elim
      (λ l. ap request_of (take_all kept_length pending (omega arith)))
      (λ l.
      too_long (take kept_length pending) (omega (arith, length-take kept_length pending, l))
      ∙ sym (too_long pending (omega arith)))
      (lt_or_ge (length pending) kept_length)

-- ---- the input goes on by one byte

module _ (input : List ℕ) (lines : List (List ℕ)) (pending : List ℕ) (b : ℕ)
    (cut : Cut input lines pending) where
  further : (rest : List ℕ) → split 10 ((input ++ (b ∷ [])) ++ rest) ≡ lines ++ split_from 10 pending (b ∷ rest)
  further rest = ap (split 10) (append_assoc input (b ∷ []) rest) ∙ cut (b ∷ rest)

  pub cut_within : (b ≡ 10 → ⊥) → Cut (input ++ (b ∷ [])) lines (pending ++ (b ∷ []))
  unfolding split_from
  cut_within n rest = further rest ∙ rw (ne_eqb b 10 n)

  pub cut_behind : b ≡ 10 → Cut (input ++ (b ∷ [])) (lines ++ (pending ∷ [])) []
  unfolding split_from
  cut_behind e rest = further rest ∙ rw (eq-eqb b 10 e) (sym (append_assoc lines (pending ∷ []) (split_from 10 [] rest)))

-- the next byte of what was read
pub next_byte : (input chunk : List ℕ) (i : ℕ) → i < length chunk → input ++ take (i + 1) chunk ≡ (input ++ take i chunk) ++ (get_or chunk i 0 ∷ [])
next_byte input chunk i h = rw (add-one i, take-suc chunk i 0 h) (sym (append_assoc input (take i chunk) (get_or chunk i 0 ∷ [])))

-- ---- the next line's number

pub next_number : (k n : ℕ) → k ≡ number_behind n → number_behind k ≡ number_behind (n + 1)
next_number k n e = omega (arith, e)
