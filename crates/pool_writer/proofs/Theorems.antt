-- For readers: what is printed of a txid is the digits of the bytes that it was given as. No proof of a function cites these. Assumes nothing.
use mathlib.Core.Path.{◌≡◌, refl, sym, ap, ap₂, ◌∙◌}
use mathlib.Core.Bool.{Bool, true}
use mathlib.Core.List.{List, [], ◌∷◌, ◌++◌, append-nil, append_assoc}
use Prim.Native.Nat.{ℕ, suc, ◌+◌, ◌*◌, ◌/◌, ◌%◌, ◌≤◌}
use native.Mathlib.Nat.{add-zero}
use native.Mathlib.Omega.{arith}
use lib.Dec.{ltb}
use lib.ListN.{length, take, drop, length-drop, take-append-drop}
use lib.Seq.{drop-drop, length-take-le, take_all}
use borrow.Author.Tests.{ltb-true}
use Rattle.lists.specs.Lists.{all_of}
use Rattle.lists.proofs.Bools.{and_both}
use Rattle.lists.proofs.Lists.{all_append}
use Rattle.texts.specs.Hex.{hex_text}
use Rattle.txids.specs.Txids.{number_of, word_at, txid_at}
use Rattle.pool_writer.specs.Texts.{word_bytes, word_text, txid_text}

abbrev is_byte : ℕ → Bool
is_byte b = ltb b 256

-- bytes behind a number: the bytes of the number that they make with it
bytes_behind : (j n : ℕ) (bs : List ℕ) → all_of is_byte bs ≡ true → word_bytes (j + length bs) (number_of n bs) ≡ word_bytes j n ++ bs
unfolding word_bytes number_of all_of
bytes_behind j n [] e = rw (add-zero j) (sym (append-nil (word_bytes j n)))
bytes_behind j n (b ∷ bs) e =
    let p = and_both (is_byte b) (all_of is_byte bs) e in
    let h = ltb-true b 256 p.0 in
    let m = n * 256 + b in
    let long : j + suc (length bs) ≡ suc j + length bs = omega arith in
    let top : m / 256 ≡ n = omega arith in
    let low : m % 256 ≡ b = omega arith in
    let last : word_bytes (suc j) m ≡ word_bytes j n ++ (b ∷ []) = rw (top, low) in
    ap (λ (k : ℕ). word_bytes k (number_of m bs)) long
    ∙ bytes_behind (suc j) m bs p.1
    ∙ ap (λ (l : List ℕ). l ++ bs) last
    ∙ append_assoc (word_bytes j n) (b ∷ []) bs

hex_append : (xs ys : List ℕ) → hex_text (xs ++ ys) ≡ hex_text xs ++ hex_text ys
unfolding hex_text
hex_append [] ys = refl
hex_append (x ∷ xs) ys = rw (hex_append xs ys)

module _ (bs : List ℕ) (long : length bs ≡ 32) (bytes : all_of is_byte bs ≡ true) where
  part : ℕ → List ℕ
  part at = take 8 (drop at bs)

  module _ (at : ℕ) (h : at + 8 ≤ 32) where
    part_long : length (part at) ≡ 8
    unfolding part
    part_long = length-take-le 8 (drop at bs) (omega (arith, length-drop at bs))

    part_bytes : all_of is_byte (part at) ≡ true
    unfolding part
    part_bytes =
        let behind = (and_both (all_of is_byte (take at bs)) (all_of is_byte (drop at bs))
        (sym (all_append is_byte (take at bs) (drop at bs)) ∙ ap (all_of is_byte) (take-append-drop at bs) ∙ bytes)).1 in
        (and_both (all_of is_byte (take 8 (drop at bs))) (all_of is_byte (drop 8 (drop at bs)))
        (sym (all_append is_byte (take 8 (drop at bs)) (drop 8 (drop at bs))) ∙ ap (all_of is_byte) (take-append-drop 8 (drop at bs)) ∙ behind)).0

    word_back : word_text (word_at bs at) ≡ hex_text (part at)
    unfolding word_at part word_bytes
    word_back =
        let e : 0 + length (part at) ≡ 8 = omega (arith, part_long) in
        ap hex_text (ap (λ (k : ℕ). word_bytes k (number_of 0 (part at))) (sym e) ∙ bytes_behind 0 0 (part at) part_bytes)

  rest_of : (at : ℕ) → part at ++ drop (at + 8) bs ≡ drop at bs
  unfolding part
  rest_of at = ap (λ (l : List ℕ). part at ++ l) (sym (drop-drop 8 at bs)) ∙ take-append-drop 8 (drop at bs)

  whole : part 0 ++ (part 8 ++ (part 16 ++ part 24)) ≡ bs
  unfolding part
  whole =
      let last : part 24 ≡ drop 24 bs = take_all 8 (drop 24 bs) (omega (arith, length-drop 24 bs)) in
      let third : part 16 ++ part 24 ≡ drop 16 bs = ap (λ (l : List ℕ). part 16 ++ l) last ∙ rest_of 16 in
      let second : part 8 ++ (part 16 ++ part 24) ≡ drop 8 bs = ap (λ (l : List ℕ). part 8 ++ l) third ∙ rest_of 8 in
      ap (λ (l : List ℕ). part 0 ++ l) second ∙ rest_of 0

  -- "txids as 64 hex digits of the stored bytes"
  pub printed_back : txid_text (txid_at bs 0) ≡ hex_text bs
  unfolding txid_text txid_at
  printed_back =
      let p = part 0 in
      let q = part 8 in
      let r = part 16 in
      let s = part 24 in
      ap₂ ◌++◌ (word_back 0 (omega arith))
      (ap₂ ◌++◌ (word_back 8 (omega arith)) (ap₂ ◌++◌ (word_back 16 (omega arith)) (word_back 24 (omega arith))))
      ∙ sym (hex_append p (q ++ (r ++ s)) ∙ ap (λ (l : List ℕ). hex_text p ++ l) (hex_append q (r ++ s)
      ∙ ap (λ (l : List ℕ). hex_text q ++ l) (hex_append r s)))
      ∙ ap hex_text whole
