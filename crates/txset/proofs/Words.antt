-- Membership over a list of words, whatever their number: 64 positions to a word, the lowest first. Assumes nothing.
use mathlib.Core.Path.{◌≡◌, refl, sym, ap, ap₂, ◌∙◌, subst}
use mathlib.Core.Bool.{Bool, true, false, cond, not, ◌&&◌, ◌||◌, and-true, and-false}
use mathlib.Core.Logic.{⊎_elim}
use mathlib.Core.List.{List, [], ◌∷◌, ◌++◌, map}
use Prim.Native.Nat.{ℕ, zero, suc, ◌+◌, ◌-◌, ◌*◌, ◌/◌, ◌%◌, ◌^◌, ◌≤◌, ◌<◌, min}
use native.Mathlib.Nat.{div-eq_of_lt, mod-eq_of_lt}
use native.Mathlib.Omega.{arith}
use lib.Dec.{eqb, ltb}
use lib.ListN.{length, get_or, replicate, get_or-eq_default, length-append, length-map}
use lib.Bits.{bit_and, bit_or, and_zero_l}
use lib.Count.{ones, count_trailing_zeros, trailing_of_zero}
use borrow.Author.Tests.{ne_eqb, lt-ltb, le-ltb, ltb-true, ltb-false, eqb-true}
use Rattle.lists.specs.Below.{any_from, count_from, first_from, list_from}
use Rattle.txset.specs.Sets.{has, has_in}
use Rattle.lists.proofs.Bools.{not_or, cond_not, cases}
use Rattle.lists.proofs.Numbers.{lt_or_ge, ltb_same, eqb_same}
use Rattle.lists.proofs.Below.{some, head_or, some_append, some_map, head_append, head_map}
use Rattle.lists.proofs.Below.{list_none, list_ext, list_split, list_shift, count_list, any_list, first_list}
use Rattle.txset.proofs.Bits.{has_or, has_and, has_less, has_nil, has_pow, has_below, has_clear, zero_any, ones_count}
use Rattle.txset.proofs.Bits.{trailing_first, trailing_is, trailing_lt}

-- each word is one of 64 digits
abbrev pub Fits : List ℕ → Type 0
Fits ws = (j : ℕ) → get_or ws j 0 < 2 ^ 64

-- two lists of words, word by word
abbrev pub zip_with : (ℕ → ℕ → ℕ) → List ℕ → List ℕ → List ℕ
zip_with f [] vs = []
zip_with f (u ∷ us) [] = []
zip_with f (u ∷ us) (v ∷ vs) = f u v ∷ zip_with f us vs

get_d_zip : (f : ℕ → ℕ → ℕ) → f 0 0 ≡ 0 → (us vs : List ℕ) → length us ≡ length vs
    → (j : ℕ) → get_or (zip_with f us vs) j 0 ≡ f (get_or us j 0) (get_or vs j 0)
get_d_zip f z [] [] e j = sym z
get_d_zip f z [] (v ∷ vs) e j = absurd (omega arith)
get_d_zip f z (u ∷ us) [] e j = absurd (omega arith)
get_d_zip f z (u ∷ us) (v ∷ vs) e zero = refl
get_d_zip f z (u ∷ us) (v ∷ vs) e (suc j) = get_d_zip f z us vs (omega arith) j

-- an operation on words that is one on digits is the same on members
module _ (f : ℕ → ℕ → ℕ) (z : f 0 0 ≡ 0) (g : Bool → Bool → Bool) (us vs : List ℕ) (e : length us ≡ length vs) where
  pub has_in_zip : ((j i : ℕ) → has (f (get_or us j 0) (get_or vs j 0)) i ≡ g (has (get_or us j 0) i) (has (get_or vs j 0) i))
      → (i : ℕ) → has_in (zip_with f us vs) i ≡ g (has_in us i) (has_in vs i)
  unfolding has_in
  has_in_zip h i = ap (λ (w : ℕ). has w (i % 64)) (get_d_zip f z us vs e (i / 64)) ∙ h (i / 64) (i % 64)

-- union, intersection and difference
pub has_in_or : (us vs : List ℕ) → length us ≡ length vs → (i : ℕ) → has_in (zip_with bit_or us vs) i ≡ (has_in us i || has_in vs i)
has_in_or us vs e = has_in_zip bit_or refl ◌||◌ us vs e (λ j i. has_or (get_or us j 0) (get_or vs j 0) i)

pub has_in_and : (us vs : List ℕ) → length us ≡ length vs → (i : ℕ) → has_in (zip_with bit_and us vs) i ≡ (has_in us i && has_in vs i)
has_in_and us vs e = has_in_zip bit_and refl ◌&&◌ us vs e (λ j i. has_and (get_or us j 0) (get_or vs j 0) i)

-- the digits of a that b lacks
abbrev pub less : ℕ → ℕ → ℕ
less a b = bit_and a ((2 ^ 64 - 1) - b)

pub has_in_less : (us vs : List ℕ) → length us ≡ length vs → Fits us → Fits vs → (i : ℕ)
    → has_in (zip_with less us vs) i ≡ (has_in us i && not (has_in vs i))
has_in_less us vs e fa fb =
    has_in_zip less (and_zero_l (2 ^ 64 - 1)) (λ x y. x && not y) us vs e
    (λ j i. has_less 64 i (get_or us j 0) (get_or vs j 0) (fa j) (fb j))

-- ---- the first word, and the words after it

pub has_in_low : (w : ℕ) (ws : List ℕ) (i : ℕ) → i < 64 → has_in (w ∷ ws) i ≡ has w i
unfolding has_in
has_in_low w ws i l = rw (div-eq_of_lt l, mod-eq_of_lt l)

pub has_in_high : (w : ℕ) (ws : List ℕ) (i : ℕ) → has_in (w ∷ ws) (64 + i) ≡ has_in ws i
unfolding has_in
has_in_high w ws i =
    let q : (64 + i) / 64 ≡ suc (i / 64) = omega arith in
    let r : (64 + i) % 64 ≡ i % 64 = omega arith in
    rw (q, r)

-- no words, no members
pub has_in_nil : (i : ℕ) → has_in [] i ≡ false
unfolding has_in
has_in_nil i = has_nil (i % 64)

-- what holds of each position of the first word and of each after it holds of all
pub by_word_lem : (P : ℕ → Type 0) → ((i : ℕ) → i < 64 → P i) → ((i : ℕ) → P (64 + i)) → (i : ℕ) → P i
by_word_lem P low high i =
    ⊎_elim (low i) (λ (l : 64 ≤ i). let e : 64 + (i - 64) ≡ i = omega arith in subst P e (high (i - 64))) (lt_or_ge i 64)

-- no member past the last word
pub has_in_past : (ws : List ℕ) (i : ℕ) → 64 * length ws ≤ i → has_in ws i ≡ false
unfolding has_in
has_in_past ws i h = ap (λ (w : ℕ). has w (i % 64)) (get_or-eq_default ws 0 {n = i / 64} (omega arith)) ∙ has_nil (i % 64)

-- words of zeros have no members
pub has_in_zeros : (k i : ℕ) → has_in (replicate k 0) i ≡ false
has_in_zeros zero = has_in_nil
has_in_zeros (suc k) =
    by_word_lem (λ i. has_in (0 ∷ replicate k 0) i ≡ false)
    (λ i l. has_in_low 0 (replicate k 0) i l ∙ has_nil i)
    (λ i. has_in_high 0 (replicate k 0) i ∙ has_in_zeros k i)

-- ---- the positions below n, and the position p alone, in k words

-- the positions below n
abbrev pub full_words : ℕ → ℕ → List ℕ
full_words zero n = []
full_words (suc k) n = (2 ^ min n 64 - 1) ∷ full_words k (n - 64)

pub has_in_full : (k n i : ℕ) → has_in (full_words k n) i ≡ (ltb i (64 * k) && ltb i n)
has_in_full zero n = λ i. has_in_nil i ∙ ap (λ (b : Bool). b && ltb i n) (sym (le-ltb i 0 (omega arith)))
has_in_full (suc k) n =
    let w = 2 ^ min n 64 - 1 in
    let ws = full_words k (n - 64) in
    by_word_lem (λ i. has_in (full_words (suc k) n) i ≡ (ltb i (64 * suc k) && ltb i n))
    (λ i l.
    has_in_low w ws i l ∙ has_below (min n 64) i ∙ ltb_same i (min n 64) i n (λ a. omega arith) (λ a. omega arith)
    ∙ ap (λ (b : Bool). b && ltb i n) (sym (lt-ltb i (64 * suc k) (omega arith))))
    (λ i.
    has_in_high w ws i ∙ has_in_full k (n - 64) i
    ∙ ap₂ ◌&&◌ (ltb_same i (64 * k) (64 + i) (64 * suc k) (λ a. omega arith) (λ a. omega arith))
    (ltb_same i (n - 64) (64 + i) n (λ a. omega arith) (λ a. omega arith)))

-- the position p
abbrev pub one_words : ℕ → ℕ → List ℕ
one_words zero p = []
one_words (suc k) p = cond (ltb p 64) (2 ^ p ∷ replicate k 0) (0 ∷ one_words k (p - 64))

one_step : (k p : ℕ) (b : Bool) → ltb p 64 ≡ b → ((i : ℕ) → has_in (one_words k (p - 64)) i ≡ (ltb i (64 * k) && eqb i (p - 64)))
    → (i : ℕ) → has_in (cond b (2 ^ p ∷ replicate k 0) (0 ∷ one_words k (p - 64))) i ≡ (ltb i (64 * suc k) && eqb i p)
one_step k p true e h =
    let m : p < 64 = ltb-true p 64 e in
    by_word_lem (λ i. has_in (2 ^ p ∷ replicate k 0) i ≡ (ltb i (64 * suc k) && eqb i p))
    (λ i l. has_in_low (2 ^ p) (replicate k 0) i l ∙ has_pow p i ∙ ap (λ (b : Bool). b && eqb i p) (sym (lt-ltb i (64 * suc k) (omega arith))))
    (λ i.
    has_in_high (2 ^ p) (replicate k 0) i ∙ has_in_zeros k i ∙ sym (and-false (ltb (64 + i) (64 * suc k)))
    ∙ ap (λ (b : Bool). ltb (64 + i) (64 * suc k) && b) (sym (ne_eqb (64 + i) p (λ z. omega arith))))
one_step k p false e h =
    let m : 64 ≤ p = ltb-false p 64 e in
    by_word_lem (λ i. has_in (0 ∷ one_words k (p - 64)) i ≡ (ltb i (64 * suc k) && eqb i p))
    (λ i l.
    has_in_low 0 (one_words k (p - 64)) i l ∙ has_nil i ∙ sym (and-false (ltb i (64 * suc k)))
    ∙ ap (λ (b : Bool). ltb i (64 * suc k) && b) (sym (ne_eqb i p (λ z. omega arith))))
    (λ i.
    has_in_high 0 (one_words k (p - 64)) i ∙ h i
    ∙ ap₂ ◌&&◌ (ltb_same i (64 * k) (64 + i) (64 * suc k) (λ a. omega arith) (λ a. omega arith))
    (eqb_same i (p - 64) (64 + i) p (λ a. omega arith) (λ a. omega arith)))

pub has_in_one : (k p i : ℕ) → has_in (one_words k p) i ≡ (ltb i (64 * k) && eqb i p)
has_in_one zero p = λ i. has_in_nil i ∙ ap (λ (b : Bool). b && eqb i p) (sym (le-ltb i 0 (omega arith)))
has_in_one (suc k) p = one_step k p (ltb p 64) refl (has_in_one k (p - 64))

-- ---- the members, word by word

-- those of the first word, then those of the words after it
pub list_words : (w : ℕ) (ws : List ℕ) (n : ℕ)
    → list_from (has_in (w ∷ ws)) (64 * suc n) 0 ≡ list_from (has w) 64 0 ++ map (λ j. 64 + j) (list_from (has_in ws) (64 * n) 0)
list_words w ws n =
    let e : 64 * suc n ≡ 64 + 64 * n = omega arith in
    ap (λ (k : ℕ). list_from (has_in (w ∷ ws)) k 0) e
    ∙ list_split (has_in (w ∷ ws)) 64 (64 * n) 0
    ∙ ap₂ ◌++◌
    (list_ext (has_in (w ∷ ws)) (has w) 64 0 (λ j a b. has_in_low w ws j b))
    (list_shift (has_in (w ∷ ws)) 64 (64 * n) 0
    ∙ ap (map (λ j. 64 + j)) (list_ext (λ j. has_in (w ∷ ws) (64 + j)) (has_in ws) (64 * n) 0 (λ j a b. has_in_high w ws j)))

-- how many there are
abbrev pub ones_of : List ℕ → ℕ
ones_of [] = 0
ones_of (w ∷ ws) = ones w + ones_of ws

pub count_words : (ws : List ℕ) → Fits ws → count_from (has_in ws) (64 * length ws) 0 ≡ ones_of ws
count_words [] h = count_list (has_in []) 0 0 ∙ ap length (list_none (has_in []) 0)
count_words (w ∷ ws) h =
    let low = list_from (has w) 64 0 in
    let rest = list_from (has_in ws) (64 * length ws) 0 in
    count_list (has_in (w ∷ ws)) (64 * suc (length ws)) 0 ∙ ap length (list_words w ws (length ws)) ∙ length-append low (map (λ j. 64 + j) rest)
    ∙ ap₂ ◌+◌
    (sym (ones_count 64 w (h 0) ∙ count_list (has w) 64 0))
    (length-map rest (λ j. 64 + j) ∙ sym (count_list (has_in ws) (64 * length ws) 0) ∙ count_words ws (λ j. h (suc j)))

-- whether there is none
abbrev pub all_zero : List ℕ → Bool
all_zero [] = true
all_zero (w ∷ ws) = eqb w 0 && all_zero ws

zero_some : (w : ℕ) → w < 2 ^ 64 → eqb w 0 ≡ not (some (list_from (has w) 64 0))
zero_some w h = zero_any 64 w h ∙ ap not (any_list (has w) 64 0)

pub none_words : (ws : List ℕ) → Fits ws → not (any_from (has_in ws) (64 * length ws) 0) ≡ all_zero ws
none_words [] h = ap not (any_list (has_in []) 0 0 ∙ ap some (list_none (has_in []) 0))
none_words (w ∷ ws) h =
    let low = list_from (has w) 64 0 in
    let rest = list_from (has_in ws) (64 * length ws) 0 in
    ap not
    (any_list (has_in (w ∷ ws)) (64 * suc (length ws)) 0 ∙ ap some (list_words w ws (length ws)) ∙ some_append low (map (λ j. 64 + j) rest)
    ∙ ap (λ (b : Bool). some low || b) (some_map (λ j. 64 + j) rest ∙ sym (any_list (has_in ws) (64 * length ws) 0)))
    ∙ not_or (some low) (any_from (has_in ws) (64 * length ws) 0)
    ∙ ap₂ ◌&&◌ (sym (zero_some w (h 0))) (none_words ws (λ j. h (suc j)))

-- the first, or the end where there is none
abbrev pub first_in : List ℕ → ℕ
first_in [] = 0
first_in (w ∷ ws) = cond (eqb w 0) (64 + first_in ws) (count_trailing_zeros 64 w)

-- the last word needs no test
pub first_last : (w : ℕ) → first_in (w ∷ []) ≡ count_trailing_zeros 64 w
first_last w =
    cases (eqb w 0) (λ e. rw e (sym (ap (count_trailing_zeros 64) (eqb-true w 0 e) ∙ trailing_of_zero 64))) (λ e. rw e)

pub first_words : (ws : List ℕ) → Fits ws → first_from (has_in ws) (64 * length ws) 0 ≡ first_in ws
first_words [] h = first_list (has_in []) 0 0 ∙ ap (head_or 0) (list_none (has_in []) 0)
first_words (w ∷ ws) h =
    let low = list_from (has w) 64 0 in
    let rest = list_from (has_in ws) (64 * length ws) 0 in
    let e : 0 + 64 * suc (length ws) ≡ 64 + (0 + 64 * length ws) = omega arith in
    first_list (has_in (w ∷ ws)) (64 * suc (length ws)) 0 ∙ ap₂ head_or e (list_words w ws (length ws))
    ∙ head_append (64 + (0 + 64 * length ws)) 64 low (map (λ j. 64 + j) rest)
    ∙ cond_not (some low) (head_or 64 low) (head_or (64 + (0 + 64 * length ws)) (map (λ j. 64 + j) rest))
    ∙ ap (λ (b : Bool). cond b (head_or (64 + (0 + 64 * length ws)) (map (λ j. 64 + j) rest)) (head_or 64 low)) (sym (zero_some w (h 0)))
    ∙ ap₂ (λ (m n : ℕ). cond (eqb w 0) m n)
    (head_map (λ j. 64 + j) (0 + 64 * length ws) rest
    ∙ ap (λ (n : ℕ). 64 + n) (sym (first_list (has_in ws) (64 * length ws) 0) ∙ first_words ws (λ j. h (suc j))))
    (sym (trailing_first 64 w ∙ first_list (has w) 64 0))

-- ---- the first member taken away

-- the words without their first member: in the first word that is not 0, w & (w - 1)
abbrev pub clear_first : List ℕ → List ℕ
clear_first [] = []
clear_first (w ∷ ws) = cond (eqb w 0) (w ∷ clear_first ws) (bit_and w (w - 1) ∷ ws)

clear_step : (w : ℕ) (ws : List ℕ) → w < 2 ^ 64 → (b : Bool) → eqb w 0 ≡ b
    → ((i : ℕ) → has_in (clear_first ws) i ≡ (has_in ws i && not (eqb i (first_in ws))))
    → (i : ℕ) → has_in (cond b (w ∷ clear_first ws) (bit_and w (w - 1) ∷ ws)) i
    ≡ (has_in (w ∷ ws) i && not (eqb i (cond b (64 + first_in ws) (count_trailing_zeros 64 w))))
clear_step w ws g true e h =
    let z : (i : ℕ) → has w i ≡ false = λ i. ap (λ (n : ℕ). has n i) (eqb-true w 0 e) ∙ has_nil i in
    by_word_lem (λ i. has_in (w ∷ clear_first ws) i ≡ (has_in (w ∷ ws) i && not (eqb i (64 + first_in ws))))
    (λ i l.
    has_in_low w (clear_first ws) i l ∙ z i ∙ ap (λ (b : Bool). b && not (eqb i (64 + first_in ws))) (sym (has_in_low w ws i l ∙ z i)))
    (λ i.
    has_in_high w (clear_first ws) i ∙ h i
    ∙ ap₂ (λ (b c : Bool). b && not c) (sym (has_in_high w ws i))
    (eqb_same i (first_in ws) (64 + i) (64 + first_in ws) (λ a. omega arith) (λ a. omega arith)))
clear_step w ws g false e h =
    let t = count_trailing_zeros 64 w in
    let l : count_trailing_zeros 64 w < 64 = trailing_lt 64 w g e in
    by_word_lem (λ i. has_in (bit_and w (w - 1) ∷ ws) i ≡ (has_in (w ∷ ws) i && not (eqb i t)))
    (λ i m.
    has_in_low (bit_and w (w - 1)) ws i m
    ∙ has_clear t w i ((trailing_is 64 w).at l) (λ j b. (trailing_is 64 w).before j (omega arith) b)
    ∙ ap (λ (b : Bool). b && not (eqb i t)) (sym (has_in_low w ws i m)))
    (λ i.
    has_in_high (bit_and w (w - 1)) ws i ∙ sym (has_in_high w ws i) ∙ sym (and-true (has_in (w ∷ ws) (64 + i)))
    ∙ ap (λ (b : Bool). has_in (w ∷ ws) (64 + i) && not b) (sym (ne_eqb (64 + i) t (λ z. omega arith))))

clear_first_lem : (ws : List ℕ) → Fits ws → (i : ℕ) → has_in (clear_first ws) i ≡ (has_in ws i && not (eqb i (first_in ws)))
clear_first_lem [] h = λ i. has_in_nil i ∙ ap (λ (b : Bool). b && not (eqb i 0)) (sym (has_in_nil i))
clear_first_lem (w ∷ ws) h = clear_step w ws (h 0) (eqb w 0) refl (clear_first_lem ws (λ j. h (suc j)))

pub has_in_clear : (ws : List ℕ) → Fits ws → (i : ℕ)
    → has_in (clear_first ws) i ≡ (has_in ws i && not (eqb i (first_from (has_in ws) (64 * length ws) 0)))
has_in_clear ws h i = clear_first_lem ws h i ∙ ap (λ (n : ℕ). has_in ws i && not (eqb i n)) (sym (first_words ws h))
