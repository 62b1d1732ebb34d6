-- Document 01, module 8: "A single txid is always 32 bytes. Txids compare by their 32 stored bytes, first byte first". A txid is held as
-- four words, each of eight bytes, the first byte the highest. That words then compare as bytes do is a theorem (proofs/Theorems.antt).
-- Assumes nothing.
use Rattle.std.specs.Prelude.{ℕ, ◌+◌, ◌*◌, ◌/◌, Bool, true, false, cond, List, [], ◌∷◌, eqb, ltb, length, take, drop}
use Rattle.lists.specs.Lists.{same}
use Rattle.txids.specs.declared.Txid.{Txid}

-- digits of 256 behind a number, the first the highest
unfoldable pub number_of : ℕ → List ℕ → ℕ
number_of n [] = n
number_of n (b ∷ bs) = number_of (n * 256 + b) bs

-- the word of the eight bytes from `at` on; where there are fewer, of those
unfoldable pub word_at : List ℕ → ℕ → ℕ
word_at bytes at = number_of 0 (take 8 (drop at bytes))

-- the txid of the 32 bytes from `at` on
unfoldable pub txid_at : List ℕ → ℕ → Txid
txid_at bytes at = record { w0 = word_at bytes at; w1 = word_at bytes (at + 8); w2 = word_at bytes (at + 16); w3 = word_at bytes (at + 24) }

abbrev pub words_of : Txid → List ℕ
words_of t = t.w0 ∷ t.w1 ∷ t.w2 ∷ t.w3 ∷ []

-- "first byte first": by the first place at which two lists differ
unfoldable pub lex_before : List ℕ → List ℕ → Bool
lex_before [] [] = false
lex_before [] (y ∷ ys) = true
lex_before (x ∷ xs) [] = false
lex_before (x ∷ xs) (y ∷ ys) = cond (eqb x y) (lex_before xs ys) (ltb x y)

unfoldable pub before : Txid → Txid → Bool
before t u = lex_before (words_of t) (words_of u)

unfoldable pub same_txid : Txid → Txid → Bool
same_txid t u = same (words_of t) (words_of u)

-- how many txids a list of bytes has, "whole 32s" of it
abbrev pub listed_count : List ℕ → ℕ
listed_count bytes = length bytes / 32
