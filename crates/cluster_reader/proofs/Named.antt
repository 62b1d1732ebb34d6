-- Laws of a list of positions between commas: the parts one after the other, and the word of the set that they name. Assumes nothing.
use mathlib.Core.Path.{◌≡◌, refl, sym, ap, ap₂, ◌∙◌}
use mathlib.Core.Bool.{Bool, false, cond, ◌&&◌, ◌||◌, or-false}
use mathlib.Core.Logic.{⊎_elim}
use mathlib.Core.List.{List, [], ◌∷◌}
use Prim.Native.Nat.{ℕ, ◌+◌, ◌^◌, ◌≤◌, ◌<◌}
use native.Mathlib.Omega.{arith}
use lib.Dec.{eqb, ltb}
use lib.Bits.{bit_or, or_lt}
use lib.Pow.{pow-lt}
use lib.ListN.{length, drop}
use borrow.Author.Tests.{lt-ltb, le-ltb, ne_eqb}
use Rattle.std.proofs.Common.{Option, Some, None}
use Rattle.lists.specs.Lists.{all_of}
use Rattle.txset.specs.Sets.{has, mem, positions, is_position}
use Rattle.txset.specs.declared.TxSet.{TxSet}
use Rattle.lists.proofs.Numbers.{lt_or_ge}
use Rattle.txset.proofs.Bits.{has_ext, has_or, has_pow, has_nil}
use Rattle.txset.proofs.Words.{has_in_low}
use Rattle.texts.specs.Numerals.{number_of, number_in, are_numbers}
use Rattle.texts.specs.Places.{before, place_of, split}
use Rattle.texts.proofs.Places.{split_first, split_last, split_more}
use Rattle.cluster_reader.specs.Reading.{parts, word_of}
use Rattle.cluster_reader.specs.Steps.{parents_in}

-- ---- the word of a set

-- the word with position p in it, if a set can hold p
abbrev pub word_with : ℕ → ℕ → ℕ
word_with w p = cond (ltb p positions) (bit_or w (2 ^ p)) w

pub word_empty : (s : TxSet) → s.word < 2 ^ 64 → ((i : ℕ) → mem s i ≡ false) → s.word ≡ 0
unfolding mem
word_empty s h e = has_ext 64 s.word 0 h (omega arith) (λ i l. sym (has_in_low s.word [] i l) ∙ e i ∙ sym (has_nil i))

pub word_insert : (s t : TxSet) (p : ℕ) → s.word < 2 ^ 64 → t.word < 2 ^ 64
    → ((i : ℕ) → mem t i ≡ (mem s i || (is_position i && eqb i p))) → t.word ≡ word_with s.word p
unfolding mem
word_insert s t p hs ht e = ⊎_elim held left_out (lt_or_ge p positions)
  where
    at : (i : ℕ) → i < 64 → has t.word i ≡ (has s.word i || eqb i p)
    at i l =
        sym (has_in_low t.word [] i l) ∙ e i
        ∙ ap₂ (λ (a b : Bool). a || (b && eqb i p)) (has_in_low s.word [] i l) (lt-ltb i positions l)

    held : p < positions → t.word ≡ word_with s.word p
    held l =
        rw (lt-ltb p positions l)
        (has_ext 64 t.word (bit_or s.word (2 ^ p)) ht (or_lt 64 s.word (2 ^ p) hs (pow-lt l))
        (λ i k. at i k ∙ ap (λ (b : Bool). has s.word i || b) (sym (has_pow p i)) ∙ sym (has_or s.word (2 ^ p) i)))

    left_out : positions ≤ p → t.word ≡ word_with s.word p
    left_out l =
        rw (le-ltb p positions l)
        (has_ext 64 t.word s.word ht hs
        (λ i k. at i k ∙ ap (λ (b : Bool). has s.word i || b) (ne_eqb i p (λ q. omega arith)) ∙ or-false (has s.word i)))

word_next : (w p : ℕ) (l : List ℕ) (ls : List (List ℕ)) → number_of l ≡ Some p → word_of w (l ∷ ls) ≡ word_of (word_with w p) ls
unfolding word_of
word_next w p l ls e = ap (λ (n : Option ℕ). word_of (word_with w (number_in n)) ls) e

-- ---- the loop: the parts before `from` are read, and the set has what they name

pub record Named (text : List ℕ) (set : TxSet) (from : ℕ) : Type 0 where
  pub within : from ≤ length text
  pub fits : set.word < 2 ^ 64
  pub numbers : are_numbers (parts text) ≡ are_numbers (split 44 (drop from text))
  pub word : word_of 0 (parts text) ≡ word_of set.word (split 44 (drop from text))

pub nothing : (text : List ℕ) (s : TxSet) → length text ≡ 0 → s.word ≡ 0 → parents_in text ≡ Some s
unfolding parents_in parts are_numbers all_of word_of
nothing [] s e w = ap {B = Option TxSet} (λ (n : ℕ). Some (record { word = n })) (sym w)
nothing (x ∷ text) s e w = absurd (omega arith)

pub start : (text : List ℕ) (s : TxSet) → (length text ≡ 0 → ⊥) → s.word ≡ 0 → Named text s 0
unfolding parts
start [] s n w = absurd (n refl)
start (x ∷ text) s n w = record {
  within = omega arith;
  fits = omega arith;
  numbers = refl;
  word = ap (λ (m : ℕ). word_of m (split 44 (x ∷ text))) (sym w);
}

module _ {text : List ℕ} {set : TxSet} {from : ℕ} (s : Named text set from) where
  abbrev rest : List ℕ
  rest = drop from text

  -- a part that is no number
  pub bad_part : number_of (before 44 rest) ≡ None → parents_in text ≡ None
  unfolding parents_in are_numbers all_of
  bad_part e = rw (s.numbers, split_first 44 rest, e)

  module _ (p : ℕ) (is : number_of (before 44 rest) ≡ Some p) (t : TxSet) (fits : t.word < 2 ^ 64) (with : t.word ≡ word_with set.word p) where
    -- the last part
    pub last : place_of 44 text from ≡ length text → parents_in text ≡ Some t
    unfolding parents_in are_numbers all_of word_of
    last e =
        rw (s.numbers, s.word, split_last 44 text from e, is)
        (ap {B = Option TxSet} (λ (n : ℕ). Some (record { word = n })) (sym with))

    -- a part with a comma behind it
    pub turn : place_of 44 text from < length text → Named text t (place_of 44 text from + 1)
    unfolding are_numbers all_of
    turn h = record {
      within = omega arith;
      fits = fits;
      numbers = s.numbers ∙ rw (split_more 44 text from h, is);
      word = s.word ∙ rw (split_more 44 text from h, with) (word_next set.word p (before 44 rest) _ is);
    }
