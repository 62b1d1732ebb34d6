-- Words of 64 slots each, whatever their number: one word read, one slot's word put anew, words put one after the other, the lowest member.
-- Assumes nothing.
use mathlib.Core.Path.{◌≡◌, refl, sym, ap, ap₂, ◌∙◌}
use mathlib.Core.Bool.{Bool, true, false, cond, not, ◌&&◌, ◌||◌, and-true, and-false, or-false}
use mathlib.Core.Logic.{⊎_elim}
use mathlib.Core.List.{List}
use Prim.Native.Nat.{ℕ, ◌+◌, ◌-◌, ◌*◌, ◌/◌, ◌%◌, ◌^◌, ◌≤◌, ◌<◌, min}
use native.Mathlib.Omega.{arith}
use lib.Dec.{eqb, ltb}
use lib.ListN.{length, get_or, set, length-set}
use lib.Seq.{get_or-set_same, get_or-set_other}
use lib.Bits.{bit_and, bit_or}
use lib.Pow.{pow-lt}
use borrow.Author.Tests.{ne_eqb, lt-ltb, le-ltb, ltb-true, eqb-true, eqb-false}
use Rattle.std.specs.Prelude.{Some, None}
use Rattle.lists.specs.Below.{some_below}
use Rattle.lists.proofs.Bools.{asked}
use Rattle.lists.proofs.Found.{found_below, none_past}
use Rattle.lists.proofs.Numbers.{lt_or_ge, ltb_same, eqb_same}
use Rattle.lists.proofs.Below.{First, first_unique, first_is}
use Rattle.txset.specs.Sets.{has, has_in}
use Rattle.txset.proofs.Bits.{has_nil, has_or, has_less, has_pow, one_shifted}
use Rattle.txset.proofs.Words.{has_in_past}
use Rattle.slotsets.specs.SlotSets.{capacity, span, lowest_in}

-- ---- one word

-- the digits of the j-th word are the members from 64 j on
pub word_in : (ws : List ℕ) (j d : ℕ) → d < 64 → has (get_or ws j 0) d ≡ has_in ws (64 * j + d)
unfolding has_in
word_in ws j d l =
    let q : j ≡ (64 * j + d) / 64 = omega arith in
    let r : d ≡ (64 * j + d) % 64 = omega arith in
    ap₂ (λ (x y : ℕ). has (get_or ws x 0) y) q r

-- the other way: a member is a digit of its word
pub in_word : (ws : List ℕ) (j i : ℕ) → 64 * j ≤ i → i < 64 * j + 64 → has_in ws i ≡ has (get_or ws j 0) (i - 64 * j)
in_word ws j i a b = let e : i ≡ 64 * j + (i - 64 * j) = omega arith in ap (has_in ws) e ∙ sym (word_in ws j (i - 64 * j) (omega arith))

-- ---- the word of slot p put anew: h says what becomes of a member, by whether it is p

pub put_slot : (h : Bool → Bool → Bool) (ws : List ℕ) (p v : ℕ) → p / 64 < length ws → ((b : Bool) → h b false ≡ b)
    → ((d : ℕ) → d < 64 → has v d ≡ h (has (get_or ws (p / 64) 0) d) (eqb d (p % 64)))
    → (i : ℕ) → has_in (set ws (p / 64) v) i ≡ h (has_in ws i) (eqb i p)
unfolding has_in
put_slot h ws p v l same e i = go (eqb (i / 64) (p / 64)) refl
  where
    go : (b : Bool) → eqb (i / 64) (p / 64) ≡ b → has (get_or (set ws (p / 64) v) (i / 64) 0) (i % 64) ≡ h (has (get_or ws (i / 64) 0) (i % 64)) (eqb i p)
    go true t =
        let q : i / 64 ≡ p / 64 = eqb-true (i / 64) (p / 64) t in
        ap (λ (x : ℕ). has (get_or (set ws (p / 64) v) x 0) (i % 64)) q
        ∙ ap (λ (x : ℕ). has x (i % 64)) (get_or-set_same ws (p / 64) v 0 l)
        ∙ e (i % 64) (omega arith)
        ∙ ap₂ (λ (x : ℕ) (b : Bool). h (has (get_or ws x 0) (i % 64)) b) (sym q)
        (eqb_same (i % 64) (p % 64) i p (λ z. omega arith) (λ z. omega arith))
    go false t =
        let n : i / 64 ≡ p / 64 → ⊥ = eqb-false (i / 64) (p / 64) t in
        ap (λ (x : ℕ). has x (i % 64)) (get_or-set_other ws (p / 64) (i / 64) v 0 n)
        ∙ sym (same (has (get_or ws (i / 64) 0) (i % 64)))
        ∙ ap (h (has (get_or ws (i / 64) 0) (i % 64))) (sym (ne_eqb i p (λ z. n (ap (λ (x : ℕ). x / 64) z))))

-- among the positions of a list, p is one or none
span_in : (ws : List ℕ) (p i : ℕ) → p / 64 < length ws → (ltb i (span ws) && eqb i p) ≡ eqb i p
span_in ws p i l = asked (ltb i (span ws)) (eqb i p) (λ e. lt-ltb i (span ws) (omega (arith, eqb-true i p e)))

span_out : (ws : List ℕ) (p i : ℕ) → length ws ≤ p / 64 → (ltb i (span ws) && eqb i p) ≡ false
span_out ws p i l = go (ltb i (span ws)) refl
  where
    go : (b : Bool) → ltb i (span ws) ≡ b → (b && eqb i p) ≡ false
    go true e = let m : i < span ws = ltb-true i (span ws) e in ne_eqb i p (λ z. omega arith)
    go false e = refl

-- a slot entered, and a slot taken out
module _ (ws : List ℕ) (p : ℕ) where
  pub inserted : p / 64 < length ws → (i : ℕ)
      → has_in (set ws (p / 64) (bit_or (get_or ws (p / 64) 0) (1 * 2 ^ (p % 64) % 2 ^ 64))) i ≡ (has_in ws i || (ltb i (span ws) && eqb i p))
  inserted l i =
      let w = get_or ws (p / 64) 0 in
      let n = 1 * 2 ^ (p % 64) % 2 ^ 64 in
      put_slot ◌||◌ ws p (bit_or w n) l or-false
      (λ d m. has_or w n d ∙ ap (λ (b : Bool). has w d || b) (ap (λ (x : ℕ). has x d) (one_shifted 64 (p % 64) (omega arith)) ∙ has_pow (p % 64) d))
      i
      ∙ ap (λ (b : Bool). has_in ws i || b) (sym (span_in ws p i l))

  pub inserted_past : length ws ≤ p / 64 → (i : ℕ) → has_in ws i ≡ (has_in ws i || (ltb i (span ws) && eqb i p))
  inserted_past l i = sym (ap (λ (b : Bool). has_in ws i || b) (span_out ws p i l) ∙ or-false (has_in ws i))

  pub removed : p / 64 < length ws → get_or ws (p / 64) 0 < 2 ^ 64 → (i : ℕ)
      → has_in (set ws (p / 64) (bit_and (get_or ws (p / 64) 0) ((2 ^ 64 - 1) - 1 * 2 ^ (p % 64) % 2 ^ 64))) i ≡ (has_in ws i && not (eqb i p))
  removed l f =
      let w = get_or ws (p / 64) 0 in
      put_slot (λ x y. x && not y) ws p (bit_and w ((2 ^ 64 - 1) - 1 * 2 ^ (p % 64) % 2 ^ 64)) l and-true
      (λ d m.
      ap (λ (x : ℕ). has (bit_and w ((2 ^ 64 - 1) - x)) d) (one_shifted 64 (p % 64) (omega arith))
      ∙ has_less 64 d w (2 ^ (p % 64)) f (pow-lt {i = p % 64} {j = 64} (omega arith))
      ∙ ap (λ (b : Bool). has w d && not b) (has_pow (p % 64) d))

  pub removed_past : length ws ≤ p / 64 → (i : ℕ) → has_in ws i ≡ (has_in ws i && not (eqb i p))
  removed_past l i = go (eqb i p) refl
    where
      go : (b : Bool) → eqb i p ≡ b → has_in ws i ≡ (has_in ws i && not b)
      go true e = let z : i ≡ p = eqb-true i p e in has_in_past ws i (omega arith) ∙ sym (and-false (has_in ws i))
      go false e = sym (and-true (has_in ws i))

-- ---- words put one after the other: `new` has the members of g below 64 j, and those of `old` from there on

pub record Upto (g : ℕ → Bool) (j : ℕ) (old new : List ℕ) : Type 0 where
  pub short : j ≤ length old
  pub long : length new ≡ length old
  pub at : (i : ℕ) → has_in new i ≡ cond (ltb i (64 * j)) (g i) (has_in old i)

pub upto_start : (g : ℕ → Bool) (old : List ℕ) → Upto g 0 old old
upto_start g old =
    record {
      short = omega arith;
      long = refl;
      at = λ i. ap (λ (b : Bool). cond b (g i) (has_in old i)) (sym (le-ltb i (64 * 0) (omega arith)));
    }

module _ {g : ℕ → Bool} {j : ℕ} {old new : List ℕ} (u : Upto g j old new) where
  -- the word to be written is still the old one
  pub upto_old : (d : ℕ) → d < 64 → has (get_or new j 0) d ≡ has_in old (64 * j + d)
  upto_old d l =
      word_in new j d l ∙ u.at (64 * j + d)
      ∙ ap (λ (b : Bool). cond b (g (64 * j + d)) (has_in old (64 * j + d))) (le-ltb (64 * j + d) (64 * j) (omega arith))

  pub upto_turn : (v : ℕ) → j < length old → ((d : ℕ) → d < 64 → has v d ≡ g (64 * j + d)) → Upto g (j + 1) old (set new j v)
  unfolding has_in
  upto_turn v l e = record { short = omega arith; long = length-set new j v ∙ u.long; at = at }
    where
      at : (i : ℕ) → has_in (set new j v) i ≡ cond (ltb i (64 * (j + 1))) (g i) (has_in old i)
      at i = go (eqb (i / 64) j) refl
        where
          go : (b : Bool) → eqb (i / 64) j ≡ b → has (get_or (set new j v) (i / 64) 0) (i % 64) ≡ cond (ltb i (64 * (j + 1))) (g i) (has_in old i)
          go true t =
              let q : i / 64 ≡ j = eqb-true (i / 64) j t in
              let r : 64 * j + i % 64 ≡ i = omega arith in
              ap (λ (x : ℕ). has (get_or (set new j v) x 0) (i % 64)) q
              ∙ ap (λ (x : ℕ). has x (i % 64)) (get_or-set_same new j v 0 (omega (arith, u.long)))
              ∙ e (i % 64) (omega arith) ∙ ap g r
              ∙ ap (λ (b : Bool). cond b (g i) (has_in old i)) (sym (lt-ltb i (64 * (j + 1)) (omega arith)))
          go false t =
              let n : i / 64 ≡ j → ⊥ = eqb-false (i / 64) j t in
              ap (λ (x : ℕ). has x (i % 64)) (get_or-set_other new j (i / 64) v 0 n)
              ∙ u.at i
              ∙ ap (λ (b : Bool). cond b (g i) (has_in old i))
              (ltb_same i (64 * j) i (64 * (j + 1)) (λ m. omega arith) (λ m. ⊎_elim (λ k. k) (λ k. absurd (n (omega arith))) (lt_or_ge i (64 * j))))

  -- where g is `old` from there on, `new` is g
  pub upto_done : ((i : ℕ) → 64 * j ≤ i → g i ≡ has_in old i) → (i : ℕ) → has_in new i ≡ g i
  upto_done out i =
      ⊎_elim
      (λ (l : i < 64 * j). u.at i ∙ ap (λ (b : Bool). cond b (g i) (has_in old i)) (lt-ltb i (64 * j) l))
      (λ (l : 64 * j ≤ i). u.at i ∙ ap (λ (b : Bool). cond b (g i) (has_in old i)) (le-ltb i (64 * j) l) ∙ sym (out i l))
      (lt_or_ge i (64 * j))

-- ---- the members of two lists of words, as far as the first has words

abbrev pub joined : List ℕ → List ℕ → ℕ → Bool
joined old more i = has_in old i || (ltb i (span old) && has_in more i)

-- past the words of the one or of the other there is nothing to add
pub joined_past : (old more : List ℕ) (j : ℕ) → min (length old) (length more) ≤ j → (i : ℕ) → 64 * j ≤ i → joined old more i ≡ has_in old i
joined_past old more j h i l =
    ap (λ (b : Bool). has_in old i || b)
    (⊎_elim
    (λ (m : j < length old). ap (λ (b : Bool). ltb i (span old) && b) (has_in_past more i (omega arith)) ∙ and-false (ltb i (span old)))
    (λ (m : length old ≤ j). ap (λ (b : Bool). b && has_in more i) (le-ltb i (span old) (omega arith)))
    (lt_or_ge j (length old)))
    ∙ or-false (has_in old i)

pub joined_turn : {j : ℕ} {old new : List ℕ} (more : List ℕ) → Upto (joined old more) j old new → j < length old
    → Upto (joined old more) (j + 1) old (set new j (bit_or (get_or new j 0) (get_or more j 0)))
joined_turn {j} {old} {new} more u l =
    upto_turn u (bit_or (get_or new j 0) (get_or more j 0)) l
    (λ d m.
    has_or (get_or new j 0) (get_or more j 0) d
    ∙ ap₂ ◌||◌ (upto_old u d m)
    (word_in more j d m ∙ ap (λ (b : Bool). b && has_in more (64 * j + d)) (sym (lt-ltb (64 * j + d) (span old) (omega arith)))))

-- ---- the lowest member

-- no member stands in the first j words
abbrev pub NoneTo : ℕ → List ℕ → Type 0
NoneTo j ws = (i : ℕ) → i < 64 * j → has_in ws i ≡ false

pub none_start : (ws : List ℕ) → NoneTo 0 ws
none_start ws i l = absurd (omega arith)

pub none_more : (ws : List ℕ) (j : ℕ) → get_or ws j 0 ≡ 0 → NoneTo j ws → NoneTo (j + 1) ws
none_more ws j e h i l =
    ⊎_elim
    (h i)
    (λ (m : 64 * j ≤ i). in_word ws j i m (omega arith) ∙ ap (λ (w : ℕ). has w (i - 64 * j)) e ∙ has_nil (i - 64 * j))
    (lt_or_ge i (64 * j))

-- none in the words that a set of slots has, as far as there are any: there is no lowest
pub lowest_none : (ws : List ℕ) (j : ℕ) → min (length ws) 16 ≤ j → NoneTo j ws → None ≡ some_below capacity (lowest_in ws)
unfolding lowest_in
lowest_none ws j m h =
    let past : (i : ℕ) → i < capacity → has_in ws i ≡ false =
    λ i l. ⊎_elim (h i) (λ (n : 64 * j ≤ i). has_in_past ws i (omega arith)) (lt_or_ge i (64 * j)) in
    let e : lowest_in ws ≡ capacity =
    first_unique (has_in ws) capacity 0 capacity
    (record { from = omega arith; to = omega arith; before = λ i a b. past i (omega arith); at = λ l. absurd (omega arith) }) in
    sym (none_past capacity (lowest_in ws) (omega arith))

pub lowest_at : (ws : List ℕ) (j t : ℕ) → j < 16 → t < 64 → First (has (get_or ws j 0)) 64 0 t → NoneTo j ws
    → Some (64 * j + t) ≡ some_below capacity (lowest_in ws)
unfolding lowest_in
lowest_at ws j t l m f h =
    let e : lowest_in ws ≡ 64 * j + t =
    first_unique (has_in ws) capacity 0 (64 * j + t)
    (record {
      from = omega arith;
      to = omega arith;
      before = λ i a b.
          ⊎_elim (h i) (λ (k : 64 * j ≤ i). in_word ws j i k (omega arith) ∙ f.before (i - 64 * j) (omega arith) (omega arith)) (lt_or_ge i (64 * j));
      at = λ k. sym (word_in ws j t m) ∙ f.at (omega arith);
    }) in
    ap (λ (n : ℕ). Some n) (sym e) ∙ sym (found_below capacity (lowest_in ws) (omega arith))

-- it is a member where there is one, and where there is none no slot is
pub lowest_has : (ws : List ℕ) → lowest_in ws < capacity → has_in ws (lowest_in ws) ≡ true
unfolding lowest_in
lowest_has ws l = (first_is (has_in ws) capacity 0).at (omega arith)

pub lowest_past : (ws : List ℕ) → capacity ≤ lowest_in ws → (i : ℕ) → i < capacity → has_in ws i ≡ false
unfolding lowest_in
lowest_past ws l i m = (first_is (has_in ws) capacity 0).before i (omega arith) (omega arith)
