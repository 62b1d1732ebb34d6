-- What readers may rely on: words compare as the 32 bytes do, first byte first; the order is strict and total; and the test for one txid
-- is equality. Assumes nothing.
use Prim.Native.Nat.{ℕ, zero, suc, ◌+◌, ◌*◌, ◌≤◌}
use native.Mathlib.Omega.{arith}
use mathlib.Core.Path.{◌≡◌, refl, sym, ap, ap₂, ◌∙◌}
use mathlib.Core.Bool.{Bool, true, false, cond, ◌&&◌, and-true}
use mathlib.Core.List.{List, [], ◌∷◌, ◌++◌}
use lib.Dec.{eqb, ltb}
use lib.ListN.{length, get_or, take, drop, length-take, length-drop, take-append-drop, drop_of_length-le}
use lib.Seq.{drop-drop}
use lib.Pow.{are_bytes}
use Rattle.std.proofs.lemmas.Bool.Decides.{nat_tests}
use Rattle.std.specs.declared.cmp.Ordering.{Ordering}
use Rattle.std.specs.declared.option.Option.{Option}
use Rattle.std.specs.declared.option.Option.TheVariants.{Some}
use Rattle.std.specs.Ordering.{is_lt, is_some_and, nat_cmp, partial_lt, partial_ordering_then}
use Rattle.txids.specs.contracts.TxidPartialEq.TheImpl as eq
use Rattle.txids.specs.contracts.TxidPartialOrd.TheImpl as ord
use Rattle.lists.specs.Lists.{same}
use Rattle.lists.proofs.Bools.{and_left, and_right}
use Rattle.lists.proofs.Lists.{same_is}
use Rattle.txids.specs.declared.Txid.{Txid}
use Rattle.txids.specs.Txids.{word_at, txid_at, words_of, lex_before, before, same_txid}
use Rattle.txids.proofs.Numbers.{number_before, number_same}
use Rattle.txids.proofs.Orders.{lex_irreflexive, lex_transitive, lex_total, lex_append, same_append, same_self}

-- ---- as the bytes compare

bytes_take : (k : ℕ) (xs : List ℕ) → are_bytes xs ≡ true → are_bytes (take k xs) ≡ true
bytes_take zero xs b = refl
bytes_take (suc k) [] b = refl
bytes_take (suc k) (x ∷ xs) b =
    ap₂ ◌&&◌ (and_left (ltb x 256) (are_bytes xs) b) (bytes_take k xs (and_right (ltb x 256) (are_bytes xs) b))

bytes_drop : (k : ℕ) (xs : List ℕ) → are_bytes xs ≡ true → are_bytes (drop k xs) ≡ true
bytes_drop zero xs b = b
bytes_drop (suc k) [] b = b
bytes_drop (suc k) (x ∷ xs) b = bytes_drop k xs (and_right (ltb x 256) (are_bytes xs) b)

-- k words of a list, from `at` on
words_from : List ℕ → ℕ → ℕ → List ℕ
words_from bytes zero at = []
words_from bytes (suc k) at = word_at bytes at ∷ words_from bytes k (at + 8)

-- two lists of as many bytes, whole words of them
module _ (xs ys : List ℕ) (long : length xs ≡ length ys) (bx : are_bytes xs ≡ true) (by : are_bytes ys ≡ true) where
  module _ (at : ℕ) where
    part_long : length (take 8 (drop at xs)) ≡ length (take 8 (drop at ys))
    part_long = simp (length-take, length-drop, long)

    part_before : ltb (word_at xs at) (word_at ys at) ≡ lex_before (take 8 (drop at xs)) (take 8 (drop at ys))
    unfolding word_at
    part_before =
        number_before 0 (take 8 (drop at xs)) (take 8 (drop at ys)) part_long
        (bytes_take 8 (drop at xs) (bytes_drop at xs bx)) (bytes_take 8 (drop at ys) (bytes_drop at ys by))

    part_same : eqb (word_at xs at) (word_at ys at) ≡ same (take 8 (drop at xs)) (take 8 (drop at ys))
    unfolding word_at
    part_same =
        number_same 0 (take 8 (drop at xs)) (take 8 (drop at ys)) part_long
        (bytes_take 8 (drop at xs) (bytes_drop at xs bx)) (bytes_take 8 (drop at ys) (bytes_drop at ys by))

  rest_of : (at : ℕ) (zs : List ℕ) → take 8 (drop at zs) ++ drop (at + 8) zs ≡ drop at zs
  rest_of at zs = ap (λ (l : List ℕ). take 8 (drop at zs) ++ l) (sym (drop-drop 8 at zs)) ∙ take-append-drop 8 (drop at zs)

  nothing_left : (at : ℕ) (zs : List ℕ) → length zs ≡ at + 8 * zero → drop at zs ≡ []
  nothing_left at zs e = let h : length zs ≤ at = omega arith in drop_of_length-le zs h

  words_before : (k at : ℕ) → length xs ≡ at + 8 * k → lex_before (words_from xs k at) (words_from ys k at) ≡ lex_before (drop at xs) (drop at ys)
  unfolding lex_before words_from
  words_before zero at e = rw (nothing_left at xs e, nothing_left at ys (sym long ∙ e))
  words_before (suc k) at e =
      rw (part_same at, part_before at, words_before k (at + 8) (omega arith))
      (sym (lex_append (take 8 (drop at xs)) (take 8 (drop at ys)) (drop (at + 8) xs) (drop (at + 8) ys) (part_long at))
      ∙ ap₂ lex_before (rest_of at xs) (rest_of at ys))

  words_same : (k at : ℕ) → length xs ≡ at + 8 * k → same (words_from xs k at) (words_from ys k at) ≡ same (drop at xs) (drop at ys)
  unfolding same words_from
  words_same zero at e = rw (nothing_left at xs e, nothing_left at ys (sym long ∙ e))
  words_same (suc k) at e =
      rw (part_same at, words_same k (at + 8) (omega arith))
      (sym (same_append (take 8 (drop at xs)) (take 8 (drop at ys)) (drop (at + 8) xs) (drop (at + 8) ys) (part_long at))
      ∙ ap₂ same (rest_of at xs) (rest_of at ys))

-- "Txids compare by their 32 stored bytes, first byte first"
pub before_bytes : (xs ys : List ℕ) → length xs ≡ 32 → length ys ≡ 32 → are_bytes xs ≡ true → are_bytes ys ≡ true
    → before (txid_at xs 0) (txid_at ys 0) ≡ lex_before xs ys
unfolding before txid_at words_from
before_bytes xs ys hx hy bx by = words_before xs ys (hx ∙ sym hy) bx by 4 0 hx

-- two txids are the same exactly where their 32 bytes are
pub same_bytes : (xs ys : List ℕ) → length xs ≡ 32 → length ys ≡ 32 → are_bytes xs ≡ true → are_bytes ys ≡ true
    → same_txid (txid_at xs 0) (txid_at ys 0) ≡ same xs ys
unfolding same_txid txid_at words_from
same_bytes xs ys hx hy bx by = words_same xs ys (hx ∙ sym hy) bx by 4 0 hx

-- ---- as code compares txids

-- of the first words that differ
first_decides : (x y : ℕ) (p : Option Ordering) → is_some_and is_lt (partial_ordering_then (Some (nat_cmp x y)) p) ≡ cond (eqb x y) (is_some_and is_lt p) (ltb x y)
first_decides x y p = grind (arith, nat_tests)

last_decides : (x y : ℕ) → is_lt (nat_cmp x y) ≡ cond (eqb x y) false (ltb x y)
last_decides x y = grind (arith, nat_tests)

-- `t < u`
pub less_before : (t u : Txid) → partial_lt (ord.partial_cmp-value).it t u ≡ before t u
unfolding before lex_before
less_before t u =
    first_decides t.w0 u.w0 _ ∙ behind t.w0 u.w0
    (first_decides t.w1 u.w1 _ ∙ behind t.w1 u.w1 (first_decides t.w2 u.w2 _ ∙ behind t.w2 u.w2 (last_decides t.w3 u.w3)))
  where
    behind : (x y : ℕ) {b c : Bool} → b ≡ c → cond (eqb x y) b (ltb x y) ≡ cond (eqb x y) c (ltb x y)
    behind x y e = ap (λ (b : Bool). cond (eqb x y) b (ltb x y)) e

-- `t == u`
pub equals_same : (t u : Txid) → (eq.eq-value).it t u ≡ same_txid t u
unfolding same_txid same
equals_same t u = ap (λ (b : Bool). eqb t.w0 u.w0 && (eqb t.w1 u.w1 && (eqb t.w2 u.w2 && b))) (sym (and-true (eqb t.w3 u.w3)))

-- ---- one txid

-- its words are all that a txid is
words_are : (t u : Txid) → words_of t ≡ words_of u → t ≡ u
words_are t u e = λ i. record { w0 = get_or (e i) 0 0; w1 = get_or (e i) 1 0; w2 = get_or (e i) 2 0; w3 = get_or (e i) 3 0 }

pub same_equal : (t u : Txid) → same_txid t u ≡ true → t ≡ u
unfolding same_txid
same_equal t u e = words_are t u (same_is (words_of t) (words_of u) e)

pub equal_same : (t u : Txid) → t ≡ u → same_txid t u ≡ true
unfolding same_txid
equal_same t u e = ap (λ (v : Txid). same (words_of t) (words_of v)) (sym e) ∙ same_self (words_of t)

-- ---- a strict total order

pub before_irreflexive : (t : Txid) → before t t ≡ false
unfolding before
before_irreflexive t = lex_irreflexive (words_of t)

pub before_transitive : (t u v : Txid) → before t u ≡ true → before u v ≡ true → before t v ≡ true
unfolding before
before_transitive t u v = lex_transitive (words_of t) (words_of u) (words_of v)

pub before_total : (t u : Txid) → before t u ≡ false → before u t ≡ false → t ≡ u
unfolding before
before_total t u p q = words_are t u (lex_total (words_of t) (words_of u) p q)
