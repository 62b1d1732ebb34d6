-- Laws of specs/Numerals.antt: reading a plain decimal byte by byte. Assumes nothing.
use mathlib.Core.Path.{◌≡◌, refl, ap, sym, ◌∙◌}
use mathlib.Core.Bool.{Bool, true, false, not, ◌&&◌, and-false, and-true, or-true}
use mathlib.Core.Logic.{⊎_elim}
use mathlib.Core.List.{List, [], ◌∷◌}
use Prim.Native.Nat.{ℕ, zero, suc, ◌+◌, ◌-◌, ◌*◌, ◌≤◌, ◌<◌}
use native.Mathlib.Numerals.{add-one}
use native.Mathlib.Omega.{arith}
use lib.Dec.{eqb, ltb}
use lib.IntN.{ℤ, pos, negsuc, ◌-ℤ◌}
use lib.ListN.{length, get_or, drop, drop_of_length-le}
use lib.Seq.{drop-cons}
use mir.Syntax.{w64}
use mir.Val.{SFits}
use borrow.Author.Tests.{lt-ltb, le-leb, lt-leb, eq-eqb, ne_eqb}
use Rattle.std.proofs.Common.{Option, Some, None, Result, Ok, Err}
use Rattle.std.specs.Option.{SomeIff}
use Rattle.std.specs.Result.{OkIff, result_ok}
use Rattle.lists.specs.Lists.{all_of}
use Rattle.lists.proofs.Numbers.{lt_or_ge}
use Rattle.texts.specs.Numerals.{is_digit, value_from, is_plain, number_of, negative, positive, signed_of}

-- ---- what is no number

pub not_plain : (ds : List ℕ) → is_plain ds ≡ false → number_of ds ≡ None
unfolding number_of
not_plain ds e = rw e

pub too_large : (ds : List ℕ) → 18446744073709551615 < value_from 0 ds → number_of ds ≡ None
unfolding number_of
too_large ds l = rw (lt-leb (value_from 0 ds) 18446744073709551615 l, and-false (is_plain ds))

pub no_digits : (ds : List ℕ) → length ds ≡ 0 → number_of ds ≡ None
unfolding is_plain
no_digits [] e = not_plain [] refl
no_digits (d ∷ ds) e = absurd (omega arith)

-- a zero before another digit
pub extra_zero : (ds : List ℕ) → 1 < length ds → get_or ds 0 0 ≡ 48 → number_of ds ≡ None
unfolding is_plain
extra_zero [] l e = absurd (omega arith)
extra_zero (d ∷ []) l e = absurd (omega arith)
extra_zero (d ∷ x ∷ ds) l e =
    not_plain (d ∷ x ∷ ds) (rw (eq-eqb d 48 e) (and-false (all_of is_digit (d ∷ x ∷ ds))))

-- ---- the first byte passes: then only the digits count

pub one_byte : (ds : List ℕ) → (length ds ≡ 0 → ⊥) → length ds ≤ 1 → is_plain ds ≡ all_of is_digit ds
unfolding is_plain
one_byte [] n l = absurd (n refl)
one_byte (d ∷ []) n l = ap (λ (b : Bool). all_of is_digit (d ∷ []) && b) (or-true (not (eqb d 48))) ∙ and-true (all_of is_digit (d ∷ []))
one_byte (d ∷ x ∷ ds) n l = absurd (omega arith)

pub no_zero : (ds : List ℕ) → (length ds ≡ 0 → ⊥) → (get_or ds 0 0 ≡ 48 → ⊥) → is_plain ds ≡ all_of is_digit ds
unfolding is_plain
no_zero [] n z = absurd (n refl)
no_zero (d ∷ ds) n z = rw (ne_eqb d 48 z) (and-true (all_of is_digit (d ∷ ds)))

-- ---- the loop: the bytes before i are digits, and value is what they spell

value_grows : (acc : ℕ) (ds : List ℕ) → acc ≤ value_from acc ds
unfolding value_from
value_grows acc [] = omega arith
value_grows acc (d ∷ ds) = omega (arith, value_grows (10 * acc + (d - 48)) ds)

pub record Spelt (text : List ℕ) (value i : ℕ) : Type 0 where
  pub within : i ≤ length text
  pub fits : value ≤ 18446744073709551615
  pub plain : is_plain text ≡ all_of is_digit (drop i text)
  pub spells : value_from 0 text ≡ value_from value (drop i text)

pub start : (text : List ℕ) → is_plain text ≡ all_of is_digit text → Spelt text 0 0
start text e = record { within = omega arith; fits = omega arith; plain = e; spells = refl }

module _ {text : List ℕ} {value i : ℕ} (s : Spelt text value i) where
  pub done : length text ≤ i → number_of text ≡ Some value
  unfolding number_of value_from all_of
  done l =
      let e : drop i text ≡ [] = drop_of_length-le text l in
      let v : value_from 0 text ≡ value = s.spells ∙ ap (value_from value) e in
      let p : is_plain text ≡ true = s.plain ∙ ap (all_of is_digit) e in
      rw (p, v, le-leb value 18446744073709551615 s.fits)

  module _ (l : i < length text) where
    abbrev byte : ℕ
    byte = get_or text i 0

    next_plain : is_plain text ≡ (is_digit byte && all_of is_digit (drop (i + 1) text))
    unfolding all_of
    next_plain = s.plain ∙ rw (add-one, drop-cons text i 0 l)

    next_spells : value_from 0 text ≡ value_from (10 * value + (byte - 48)) (drop (i + 1) text)
    unfolding value_from
    next_spells = s.spells ∙ rw (add-one, drop-cons text i 0 l)

    -- a byte that is no digit
    pub no_digit : is_digit byte ≡ false → number_of text ≡ None
    no_digit e = not_plain text (next_plain ∙ rw e)

    -- a digit with which the number no longer fits, and one with which it does
    pub overflows : 18446744073709551616 ≤ 10 * value + (byte - 48) → number_of text ≡ None
    overflows h =
        too_large text (omega (arith, next_spells, value_grows (10 * value + (byte - 48)) (drop (i + 1) text)))

    pub turn : is_digit byte ≡ true → 10 * value + (byte - 48) ≤ 18446744073709551615 → Spelt text (10 * value + (byte - 48)) (i + 1)
    turn e h = record {
      within = omega arith;
      fits = h;
      plain = next_plain ∙ rw e;
      spells = next_spells;
    }

-- ---- with a sign

pub no_text : (text : List ℕ) → length text ≡ 0 → signed_of text ≡ None
unfolding signed_of
no_text [] e = refl
no_text (b ∷ bs) e = absurd (omega arith)

pub minus : (text : List ℕ) → (length text ≡ 0 → ⊥) → get_or text 0 0 ≡ 45 → signed_of text ≡ negative (number_of (drop 1 text))
unfolding signed_of
minus [] n e = absurd (n refl)
minus (b ∷ bs) n e = rw (eq-eqb b 45 e)

pub no_minus : (text : List ℕ) → (length text ≡ 0 → ⊥) → (get_or text 0 0 ≡ 45 → ⊥) → signed_of text ≡ positive (number_of text)
unfolding signed_of
no_minus [] n e = absurd (n refl)
no_minus (b ∷ bs) n e = rw (ne_eqb b 45 e)

pub positive_large : (v : ℕ) → 9223372036854775807 < v → positive (Some v) ≡ None
positive_large v l = rw (lt-leb v 9223372036854775807 l)

pub positive_fits : (v : ℕ) → v ≤ 9223372036854775807 → positive (Some v) ≡ Some (pos v)
positive_fits v l = rw (le-leb v 9223372036854775807 l)

pub negative_large : (v : ℕ) → 9223372036854775808 < v → negative (Some v) ≡ None
negative_large v l = rw (lt-leb v 9223372036854775808 l, and-false (ltb 0 v))

pub negative_fits : (v : ℕ) → 0 < v → v ≤ 9223372036854775808 → negative (Some v) ≡ Some (negsuc (v - 1))
negative_fits v h l = rw (lt-ltb 0 v h, le-leb v 9223372036854775808 l)

-- a number as one with a sign, where it fits
pub positive_of : {E : Type 0} (v : ℕ) (r : Result ℤ E) → OkIff r (SFits w64 (pos v)) (pos v) → result_ok r ≡ positive (Some v)
positive_of v (Ok z) h = rw (h.1, positive_fits v (omega (arith, h.0.sfits)))
positive_of v (Err e) h =
    sym (positive_large v (⊎_elim (λ l. l) (λ (g : v ≤ 9223372036854775807). absurd (h (record { sfits = omega arith }))) (lt_or_ge 9223372036854775807 v)))

-- zero less a number
below : (n : ℕ) → pos 0 -ℤ pos (suc n) ≡ negsuc n
below n = rw (lt-ltb 0 (suc n) (omega arith)) (ap negsuc (omega arith))

pub negative_of : (v : ℕ) (r : Option ℤ) → (v ≡ 0 → ⊥) → SomeIff r (SFits w64 (pos 0 -ℤ pos v)) (pos 0 -ℤ pos v) → r ≡ negative (Some v)
negative_of zero r n h = absurd (n refl)
negative_of (suc v) None n h =
    sym (negative_large (suc v)
    (⊎_elim (λ l. l) (λ (g : suc v ≤ 9223372036854775808). absurd (h (rw (below v) (record { sfits = omega arith })))) (lt_or_ge 9223372036854775808 (suc v))))
negative_of (suc v) (Some z) n h =
    let f : SFits w64 (negsuc v) = rw (below v) at h.0 in
    let same : suc v - 1 ≡ v = omega arith in
    rw (h.1, below v, negative_fits (suc v) (omega arith) (omega (arith, f.sfits)), same)
