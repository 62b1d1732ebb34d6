-- Numbers of bytes, the first the highest: as many bytes compare as their numbers do; and a word that is read byte by byte.
-- Assumes nothing.
use Prim.Native.Nat.{ℕ, suc, ◌+◌, ◌-◌, min, ◌*◌, ◌^◌, ◌≤◌, ◌<◌}
use native.Mathlib.Nat.{le_of_lt, lt_of_lt_of_le}
use native.Mathlib.Omega.{arith}
use mathlib.Core.Path.{◌≡◌, refl, sym, ap, ◌∙◌}
use mathlib.Core.Bool.{true}
use mathlib.Core.Logic.{⊎_elim}
use mathlib.Core.List.{List, [], ◌∷◌}
use lib.Dec.{eqb, ltb}
use lib.ListN.{length, take, drop, get_or, length-drop, length-take, drop_of_length-le}
use lib.Seq.{drop-cons, take-nil}
use lib.Pow.{are_bytes, pow-add, pow_mono}
use borrow.Author.Tests.{lt-ltb, le-ltb, eq-eqb, ne_eqb, ltb-true}
use Rattle.lists.specs.Lists.{same}
use Rattle.std.proofs.lemmas.List.{take_all}
use Rattle.lists.proofs.Numbers.{lt_or_ge}
use Rattle.lists.proofs.Bools.{and_left, and_right}
use Rattle.txids.specs.Txids.{number_of, word_at, lex_before}
use Rattle.txids.proofs.Orders.{by_order, lex_heads, lex_tails, same_heads, same_tails}

-- ---- as many bytes behind two numbers

-- what is below stays below
number_less : (m n : ℕ) (xs ys : List ℕ) → length xs ≡ length ys → are_bytes xs ≡ true → m < n → number_of m xs < number_of n ys
unfolding number_of
number_less m n [] [] h b l = l
number_less m n [] (y ∷ ys) h b l = absurd (omega arith)
number_less m n (x ∷ xs) [] h b l = absurd (omega arith)
number_less m n (x ∷ xs) (y ∷ ys) h b l =
    let s : x < 256 = ltb-true x 256 (and_left (ltb x 256) (are_bytes xs) b) in
    number_less (m * 256 + x) (n * 256 + y) xs ys (omega arith) (and_right (ltb x 256) (are_bytes xs) b) (omega arith)

-- behind one number, the bytes decide
pub number_before : (n : ℕ) (xs ys : List ℕ) → length xs ≡ length ys → are_bytes xs ≡ true → are_bytes ys ≡ true
    → ltb (number_of n xs) (number_of n ys) ≡ lex_before xs ys
unfolding number_of lex_before
number_before n [] [] h b c = le-ltb n n (omega arith)
number_before n [] (y ∷ ys) h b c = absurd (omega arith)
number_before n (x ∷ xs) [] h b c = absurd (omega arith)
number_before n (x ∷ xs) (y ∷ ys) h b c =
    let k : length xs ≡ length ys = omega arith in
    let p = and_right (ltb x 256) (are_bytes xs) b in
    let q = and_right (ltb y 256) (are_bytes ys) c in
    let r = number_before (n * 256 + x) xs ys k p q in
    by_order x y
    (λ l. lt-ltb (number_of (n * 256 + x) xs) (number_of (n * 256 + y) ys) (number_less (n * 256 + x) (n * 256 + y) xs ys k p (omega arith))
    ∙ sym (lt-ltb x y l) ∙ sym (lex_heads x y xs ys (λ e. omega arith)))
    (λ l. le-ltb (number_of (n * 256 + x) xs) (number_of (n * 256 + y) ys) (le_of_lt (number_less (n * 256 + y) (n * 256 + x) ys xs (sym k) q (omega arith)))
    ∙ sym (le-ltb x y (omega arith)) ∙ sym (lex_heads x y xs ys (λ e. omega arith)))
    (λ e. ap (λ (z : ℕ). ltb (number_of (n * 256 + x) xs) (number_of (n * 256 + z) ys)) (sym e) ∙ r ∙ sym (lex_tails x y xs ys e))

pub number_same : (n : ℕ) (xs ys : List ℕ) → length xs ≡ length ys → are_bytes xs ≡ true → are_bytes ys ≡ true
    → eqb (number_of n xs) (number_of n ys) ≡ same xs ys
unfolding number_of same
number_same n [] [] h b c = eq-eqb n n refl
number_same n [] (y ∷ ys) h b c = absurd (omega arith)
number_same n (x ∷ xs) [] h b c = absurd (omega arith)
number_same n (x ∷ xs) (y ∷ ys) h b c =
    let k : length xs ≡ length ys = omega arith in
    let p = and_right (ltb x 256) (are_bytes xs) b in
    let q = and_right (ltb y 256) (are_bytes ys) c in
    let r = number_same (n * 256 + x) xs ys k p q in
    let differ : (number_of (n * 256 + x) xs ≡ number_of (n * 256 + y) ys → ⊥) → (x ≡ y → ⊥)
    → eqb (number_of (n * 256 + x) xs) (number_of (n * 256 + y) ys) ≡ same (x ∷ xs) (y ∷ ys) =
    (λ d e. ne_eqb (number_of (n * 256 + x) xs) (number_of (n * 256 + y) ys) d ∙ sym (same_heads x y xs ys e)) in
    by_order x y
    (λ l. let z = number_less (n * 256 + x) (n * 256 + y) xs ys k p (omega arith) in differ (λ e. omega arith) (λ e. omega arith))
    (λ l. let z = number_less (n * 256 + y) (n * 256 + x) ys xs (sym k) q (omega arith) in differ (λ e. omega arith) (λ e. omega arith))
    (λ e. ap (λ (z : ℕ). eqb (number_of (n * 256 + x) xs) (number_of (n * 256 + z) ys)) (sym e) ∙ r ∙ sym (same_tails x y xs ys e))

-- ---- a word, byte by byte

-- the first k of the bytes `part` of the word from `from` on gave n: with the rest behind n it is the word
pub record Reading (bytes part : List ℕ) (from n k : ℕ) : Type 0 where
  pub few : length part ≤ 8
  pub small : n < 2 ^ (8 * k)
  pub rest : number_of n (drop k part) ≡ word_at bytes from

-- the bytes of the word from p on: s is p held at the top, and f and e are where they begin and end, no further than the bytes go
module _ (bytes : List ℕ) (p : ℕ) {s f e : ℕ} (hs : s ≡ min p 18446744073709551615) (hf : f ≡ min s (length bytes)) (he : e ≡ min (f + 8) (length bytes)) (h : length bytes ≤ 18446744073709551615) where
  part_is : take (e - f) (drop f bytes) ≡ take 8 (drop p bytes)
  part_is = ⊎_elim inside outside (lt_or_ge p (length bytes))
    where
      outside : length bytes ≤ p → take (e - f) (drop f bytes) ≡ take 8 (drop p bytes)
      outside l =
          let g : length bytes ≤ f = omega arith in
          rw (drop_of_length-le bytes g, drop_of_length-le bytes l, take-nil (e - f), take-nil 8)

      inside : p < length bytes → take (e - f) (drop f bytes) ≡ take 8 (drop p bytes)
      inside l =
          let g : f ≡ p = omega arith in
          rw g (⊎_elim
          (λ (m : p + 8 < length bytes). let n : e - p ≡ 8 = omega arith in rw n)
          (λ (m : length bytes ≤ p + 8). let n : length (drop p bytes) ≤ e - p = simp length-drop (omega arith) in
          let o : length (drop p bytes) ≤ 8 = simp length-drop (omega arith) in
          rw (take_all _ (drop p bytes) n, take_all _ (drop p bytes) o))
          (lt_or_ge (p + 8) (length bytes)))

  pub reading_start : Reading bytes (take (e - f) (drop f bytes)) p 0 0
  unfolding word_at
  reading_start = rw part_is (record { few = simp length-take (omega arith); small = omega arith; rest = refl })

module _ {bytes part : List ℕ} {from n k : ℕ} (r : Reading bytes part from n k) where
  -- with one byte more
  small_more : (b : ℕ) → b < 256 → n * 256 + b < 2 ^ (8 * (k + 1))
  small_more b l =
      let e : 8 * (k + 1) ≡ 8 * k + 8 = omega arith in
      rw (e, pow-add 2 (8 * k) 8) (omega (arith, r.small))

  -- it fits a word
  pub reading_fits : (b : ℕ) → k < length part → b < 256 → n * 256 + b < 2 ^ 64
  reading_fits b h l = lt_of_lt_of_le (small_more b l) (pow_mono {j = 64} (omega (arith, r.few)))

  pub reading_turn : k < length part → get_or part k 0 < 256 → Reading bytes part from (n * 256 + get_or part k 0) (k + 1)
  unfolding number_of
  reading_turn h l = record {
    few = r.few;
    small = small_more (get_or part k 0) l;
    rest = let e : suc k ≡ k + 1 = omega arith in rw (drop-cons part k 0 h, e) at r.rest;
  }

  -- no more bytes
  pub reading_done : length part ≤ k → n ≡ word_at bytes from
  unfolding number_of
  reading_done h = rw (drop_of_length-le part h) at r.rest
