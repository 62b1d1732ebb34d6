-- For readers: a number has one spelling, and so have bytes in hex; and what is written is read as what it was. No proof of a function
-- cites these. Assumes nothing.
use mathlib.Core.Path.{◌≡◌, refl, sym, ap, ap₂, ◌∙◌}
use mathlib.Core.Bool.{Bool, true, false, cond, not, ◌&&◌, ◌||◌, or-false}
use mathlib.Core.Logic.{◌⊎◌, inl, inr, ⊎_elim}
use mathlib.Core.List.{List, [], ◌∷◌, ◌++◌}
use Prim.Native.Nat.{ℕ, zero, suc, ◌+◌, ◌-◌, ◌*◌, ◌/◌, ◌%◌, ◌^◌, ◌≤◌, ◌<◌}
use native.Mathlib.Nat.{pow-suc}
use native.Mathlib.Omega.{arith}
use lib.Dec.{eqb, ltb, leb}
use lib.IntN.{ℤ, pos, negsuc}
use lib.ListN.{length, get_or}
use mir.Syntax.{w64}
use mir.Val.{SFits}
use borrow.Author.Tests.{lt-ltb, le-ltb, le-leb, eq-eqb, leb-true, ltb-true, ltb-false, eqb-true, eqb-false, not-true}
use Rattle.std.proofs.Common.{Option, Some, None}
use Rattle.lists.specs.Lists.{all_of}
use Rattle.lists.proofs.Bools.{clash, cases, and_both, or_either, cond_first}
use Rattle.lists.proofs.Lists.{all_append}
use Rattle.lists.proofs.Numbers.{lt_or_ge}
use Rattle.texts.specs.Numerals.{is_digit, value_from, is_plain, number_of, negative, positive, signed_of}
use Rattle.texts.specs.Writing.{decimal_from, decimal, signed as written}
use Rattle.texts.specs.Hex.{is_hex_digit, hex_value, hex_digit, hex_bytes, is_hex64, hex_text}
use Rattle.texts.proofs.Decimals.{one_byte, no_zero, no_minus}
use Rattle.texts.proofs.HexText.{value_decimal, value_letter, is_digit_lem, value_below, text_length}

-- ---- decimals

-- a digit, and digits behind it
record Digits (d : ℕ) (ds : List ℕ) : Type 0 where
  low : 48 ≤ d
  high : d ≤ 57
  rest : all_of is_digit ds ≡ true

digits : (d : ℕ) (ds : List ℕ) → all_of is_digit (d ∷ ds) ≡ true → Digits d ds
unfolding all_of
digits d ds e =
    let p = and_both (is_digit d) (all_of is_digit ds) e in
    let q = and_both (leb 48 d) (leb d 57) p.0 in
    record { low = leb-true 48 d q.0; high = leb-true d 57 q.1; rest = p.1 }

-- equally many digits, of the same value: then they are the same, and so is what stood before them
as_long : (a b : ℕ) (ds es : List ℕ) → all_of is_digit ds ≡ true → all_of is_digit es ≡ true → length ds ≡ length es → value_from a ds ≡ value_from b es
    → (a ≡ b) × (ds ≡ es)
unfolding value_from
as_long a b [] [] p q l e = (e, refl)
as_long a b [] (y ∷ es) p q l e = absurd (omega arith)
as_long a b (x ∷ ds) [] p q l e = absurd (omega arith)
as_long a b (x ∷ ds) (y ∷ es) p q l e =
    let u = digits x ds p in
    let v = digits y es q in
    let r = as_long (10 * a + (x - 48)) (10 * b + (y - 48)) ds es u.rest v.rest (omega arith) e in
    let h = r.0 in
    let same : x ≡ y = omega arith in
    (omega arith, ap₂ ◌∷◌ same r.1)

-- more digits, and not all zeros, have a larger value
longer : (a b : ℕ) (ds es : List ℕ) → all_of is_digit ds ≡ true → all_of is_digit es ≡ true → a ≤ 9 → 0 < b → length ds < length es
    → value_from a ds ≡ value_from b es → ⊥
unfolding value_from
longer a b ds [] p q s t l e = omega arith
longer a b ds (y ∷ es) p q s t l e =
    let v = digits y es q in
    ⊎_elim
    (λ m. longer a (10 * b + (y - 48)) ds es p v.rest s (omega arith) m e)
    (λ m. let r = (as_long a (10 * b + (y - 48)) ds es p v.rest (omega arith) e).0 in omega arith)
    (lt_or_ge (length ds) (length es))

-- a plain decimal: its first digit, which is not zero where more follow, and the others
record Plain (d : ℕ) (ds : List ℕ) : Type 0 where
  all : all_of is_digit (d ∷ ds) ≡ true
  lead : 0 < length ds → 48 < d

plain : (d : ℕ) (ds : List ℕ) → is_plain (d ∷ ds) ≡ true → Plain d ds
unfolding is_plain
plain d [] e = record { all = (and_both (all_of is_digit (d ∷ [])) (not (eqb d 48) || true) e).0; lead = λ l. absurd (omega arith) }
plain d (x ∷ ds) e =
    let p = and_both (all_of is_digit (d ∷ x ∷ ds)) (not (eqb d 48) || false) e in
    let n = eqb-false d 48 (not-true (eqb d 48) (sym (or-false (not (eqb d 48))) ∙ p.1)) in
    record { all = p.0; lead = λ l. omega (arith, (digits d (x ∷ ds) p.0).low, n) }

-- two plain decimals of the same value are the same
pub plain_unique : (ds es : List ℕ) → is_plain ds ≡ true → is_plain es ≡ true → value_from 0 ds ≡ value_from 0 es → ds ≡ es
unfolding is_plain value_from
plain_unique [] es p q e = clash {b = false} p refl
plain_unique (x ∷ ds) [] p q e = clash {b = false} q refl
plain_unique (x ∷ ds) (y ∷ es) p q e =
    let u = plain x ds p in
    let v = plain y es q in
    let s = digits x ds u.all in
    let t = digits y es v.all in
    ⊎_elim
    (λ l. absurd (longer (10 * 0 + (x - 48)) (10 * 0 + (y - 48)) ds es s.rest t.rest (omega arith) (omega (arith, v.lead (omega arith))) l e))
    (λ l.
    ⊎_elim
    (λ m. absurd (longer (10 * 0 + (y - 48)) (10 * 0 + (x - 48)) es ds t.rest s.rest (omega arith) (omega (arith, u.lead (omega arith))) m (sym e)))
    (λ m. (as_long 0 0 (x ∷ ds) (y ∷ es) u.all v.all (omega arith) e).1)
    (lt_or_ge (length es) (length ds)))
    (lt_or_ge (length ds) (length es))

-- so two texts that are read as the same number are the same
pub number_unique : (ds es : List ℕ) (v : ℕ) → number_of ds ≡ Some v → number_of es ≡ Some v → ds ≡ es
unfolding number_of
number_unique ds es v p q =
    let a = cond_first (is_plain ds && leb (value_from 0 ds) 18446744073709551615) p (λ e. let z : ◌≡◌ {A = ℕ} 0 1 = cc in omega arith) in
    let b = cond_first (is_plain es && leb (value_from 0 es) 18446744073709551615) q (λ e. let z : ◌≡◌ {A = ℕ} 0 1 = cc in omega arith) in
    let same : value_from 0 ds ≡ value_from 0 es = cc in
    plain_unique ds es (and_both (is_plain ds) _ a.0).0 (and_both (is_plain es) _ b.0).0 same

-- the text of a number with a sign: a minus sign and a number that is not zero, or a number
record Minus (text : List ℕ) (z : ℤ) : Type 0 where
  rest : List ℕ
  size : ℕ
  is : text ≡ 45 ∷ rest
  read : number_of rest ≡ Some size
  some : 0 < size
  gives : z ≡ negsuc (size - 1)

record NoMinus (text : List ℕ) (z : ℤ) : Type 0 where
  size : ℕ
  read : number_of text ≡ Some size
  gives : z ≡ pos size

spelt : (text : List ℕ) (z : ℤ) → signed_of text ≡ Some z → Minus text z ⊎ NoMinus text z
unfolding signed_of
spelt [] z e = let n : ◌≡◌ {A = ℕ} 0 1 = cc in absurd (omega arith)
spelt (b ∷ bs) z e = go (eqb b 45) refl e
  where
    below : (n : Option ℕ) → number_of bs ≡ n → b ≡ 45 → negative n ≡ Some z → Minus (b ∷ bs) z
    below None r q e = let n : ◌≡◌ {A = ℕ} 0 1 = cc in absurd (omega arith)
    below (Some v) r q e =
        let p = cond_first (ltb 0 v && leb v 9223372036854775808) e (λ e. let n : ◌≡◌ {A = ℕ} 0 1 = cc in omega arith) in
        record { rest = bs; size = v; is = ap (λ (x : ℕ). x ∷ bs) q; read = r; some = ltb-true 0 v (and_both (ltb 0 v) _ p.0).0; gives = cc }

    above : (n : Option ℕ) → number_of (b ∷ bs) ≡ n → positive n ≡ Some z → NoMinus (b ∷ bs) z
    above None r e = let n : ◌≡◌ {A = ℕ} 0 1 = cc in absurd (omega arith)
    above (Some v) r e =
        let p = cond_first (leb v 9223372036854775807) e (λ e. let n : ◌≡◌ {A = ℕ} 0 1 = cc in omega arith) in
        record { size = v; read = r; gives = cc }

    go : (t : Bool) → eqb b 45 ≡ t → cond t (negative (number_of bs)) (positive (number_of (b ∷ bs))) ≡ Some z → Minus (b ∷ bs) z ⊎ NoMinus (b ∷ bs) z
    go true q e = inl (below (number_of bs) refl (eqb-true b 45 q) e)
    go false q e = inr (above (number_of (b ∷ bs)) refl e)

-- two texts that are read as the same number are the same
pub signed_unique : (ds es : List ℕ) (z : ℤ) → signed_of ds ≡ Some z → signed_of es ≡ Some z → ds ≡ es
signed_unique ds es z p q =
    ⊎_elim
    (λ a. ⊎_elim (λ b. both_minus a b) (λ b. let n : ◌≡◌ {A = ℕ} 0 1 = cc (a.gives, b.gives) in absurd (omega arith)) (spelt es z q))
    (λ a. ⊎_elim (λ b. let n : ◌≡◌ {A = ℕ} 0 1 = cc (a.gives, b.gives) in absurd (omega arith)) (λ b. no_minus a b) (spelt es z q))
    (spelt ds z p)
  where
    both_minus : Minus ds z → Minus es z → ds ≡ es
    both_minus a b =
        let l : a.size - 1 ≡ b.size - 1 = cc (a.gives, b.gives) in
        let s : b.size ≡ a.size = omega (arith, a.some, b.some) in
        a.is ∙ ap (λ (l : List ℕ). 45 ∷ l) (number_unique a.rest b.rest a.size a.read (b.read ∙ ap Some s)) ∙ sym b.is

    no_minus : NoMinus ds z → NoMinus es z → ds ≡ es
    no_minus a b =
        let s : b.size ≡ a.size = cc (a.gives, b.gives) in
        number_unique ds es a.size a.read (b.read ∙ ap Some s)

-- what was written is read as the number that it was: one digit, and one behind the digits of the tenth
record Spelt (n : ℕ) (ds : List ℕ) : Type 0 where
  plain : is_plain ds ≡ true
  lead : 0 < n → 48 < get_or ds 0 0
  value : value_from 0 ds ≡ n

one_digit : (n : ℕ) → n < 10 → Spelt n ((48 + n % 10) ∷ [])
unfolding all_of value_from
one_digit n h =
    let d = 48 + n % 10 in
    record {
      plain = one_byte (d ∷ []) (λ e. omega arith) (omega arith) ∙ rw (le-leb 48 d (omega arith), le-leb d 57 (omega arith));
      lead = λ l. omega arith;
      value = omega arith;
    }

value_last : (acc : ℕ) (ds : List ℕ) (d : ℕ) → value_from acc (ds ++ (d ∷ [])) ≡ 10 * value_from acc ds + (d - 48)
unfolding value_from
value_last acc [] d = refl
value_last acc (x ∷ ds) d = value_last (10 * acc + (x - 48)) ds d

one_more : (n : ℕ) (ds : List ℕ) → 10 ≤ n → Spelt (n / 10) ds → Spelt n (ds ++ ((48 + n % 10) ∷ []))
unfolding is_plain all_of
one_more n [] h s = clash {b = false} s.plain refl
one_more n (x ∷ ds) h s =
    let d = 48 + n % 10 in
    let l = s.lead (omega arith) in
    record {
      plain =
          no_zero (x ∷ ds ++ (d ∷ [])) (λ e. omega arith) (λ e. omega arith)
          ∙ all_append is_digit (x ∷ ds) (d ∷ [])
          ∙ rw ((plain x ds s.plain).all, le-leb 48 d (omega arith), le-leb d 57 (omega arith));
      lead = λ _. l;
      value = omega (arith, value_last 0 (x ∷ ds) d, s.value);
    }

spelt_from : (fuel n : ℕ) → n < 10 ^ suc fuel → Spelt n (decimal_from (suc fuel) n)
unfolding decimal_from
spelt_from zero n h = rw (lt-ltb n 10 h) (one_digit n h)
spelt_from (suc fuel) n h =
    cases (ltb n 10)
    (λ e. rw e (one_digit n (ltb-true n 10 e)))
    (λ e. rw e (one_more n (decimal_from (suc fuel) (n / 10)) (ltb-false n 10 e) (spelt_from fuel (n / 10) (omega (arith, pow-suc 10 (suc fuel))))))

pub decimal_back : (n : ℕ) → n < 2 ^ 64 → number_of (decimal n) ≡ Some n
unfolding number_of decimal
decimal_back n h =
    let s = spelt_from 19 n (omega arith) in
    rw (s.plain, s.value, le-leb n 18446744073709551615 (omega arith))

-- a plain decimal starts with a digit, and so with no minus sign
no_sign : (ds : List ℕ) → is_plain ds ≡ true → signed_of ds ≡ positive (number_of ds)
unfolding is_plain
no_sign [] p = clash {b = false} p refl
no_sign (d ∷ ds) p = no_minus (d ∷ ds) (λ e. omega arith) (λ e. omega (arith, (digits d ds (plain d ds p).all).low))

pub signed_back : (z : ℤ) → SFits w64 z → signed_of (written z) ≡ Some z
unfolding written signed_of decimal
signed_back (pos n) h =
    no_sign (decimal_from 20 n) (spelt_from 19 n (omega (arith, h.sfits))).plain
    ∙ rw (decimal_back n (omega (arith, h.sfits)), le-leb n 9223372036854775807 (omega (arith, h.sfits)))
signed_back (negsuc n) h =
    let same : suc n - 1 ≡ n = omega arith in
    let l : suc n ≤ 9223372036854775808 = omega (arith, h.sfits) in
    rw (decimal_back (suc n) (omega arith), lt-ltb 0 (suc n) (omega arith), le-leb (suc n) 9223372036854775808 l, same)

-- ---- hex

-- a digit's value, and a value's digit
value_digit : (n : ℕ) → n < 16 → hex_value (hex_digit n) ≡ n
unfolding hex_digit
value_digit n h =
    ⊎_elim
    (λ l. rw (lt-ltb n 10 l) (value_decimal (48 + n) (omega arith) (omega arith) ∙ omega arith))
    (λ l. rw (le-ltb n 10 l) (value_letter (87 + n) (omega arith) (omega arith) ∙ omega arith))
    (lt_or_ge n 10)

digit_value : (b : ℕ) → is_hex_digit b ≡ true → hex_digit (hex_value b) ≡ b
unfolding hex_digit
digit_value b e =
    ⊎_elim
    (λ p.
    let q = and_both (leb 48 b) (leb b 57) p in
    let l = leb-true 48 b q.0 in
    let h = leb-true b 57 q.1 in
    rw (value_decimal b l h, lt-ltb (b - 48) 10 (omega arith)) (omega arith))
    (λ p.
    let q = and_both (leb 97 b) (leb b 102) p in
    let l = leb-true 97 b q.0 in
    let h = leb-true b 102 q.1 in
    rw (value_letter b l h, le-ltb (b - 87) 10 (omega arith)) (omega arith))
    (or_either (leb 48 b && leb b 57) (leb 97 b && leb b 102) e)

-- what was written is read as the bytes that it was
pub hex_back : (bs : List ℕ) → all_of (λ b. ltb b 256) bs ≡ true → hex_bytes (hex_text bs) ≡ bs
unfolding hex_text hex_bytes all_of
hex_back [] e = refl
hex_back (b ∷ bs) e =
    let p = and_both (ltb b 256) (all_of (λ b. ltb b 256) bs) e in
    let h = ltb-true b 256 p.0 in
    let same : 16 * hex_value (hex_digit (b / 16)) + hex_value (hex_digit (b % 16)) ≡ b =
    rw (value_digit (b / 16) (omega arith), value_digit (b % 16) (omega arith)) (omega arith) in
    ap₂ ◌∷◌ same (hex_back bs p.1)

digit_is : (n : ℕ) → n < 16 → is_hex_digit (hex_digit n) ≡ true
digit_is n h = is_digit_lem (hex_digit n) (omega (arith, value_digit n h))

all_digits : (bs : List ℕ) → all_of (λ b. ltb b 256) bs ≡ true → all_of is_hex_digit (hex_text bs) ≡ true
unfolding hex_text all_of
all_digits [] e = refl
all_digits (b ∷ bs) e =
    let p = and_both (ltb b 256) (all_of (λ b. ltb b 256) bs) e in
    let h = ltb-true b 256 p.0 in
    rw (digit_is (b / 16) (omega arith), digit_is (b % 16) (omega arith)) (all_digits bs p.1)

pub hex_form : (bs : List ℕ) → length bs ≡ 32 → all_of (λ b. ltb b 256) bs ≡ true → is_hex64 (hex_text bs) ≡ true
unfolding is_hex64
hex_form bs l e = rw (eq-eqb (length (hex_text bs)) 64 (omega (arith, text_length bs)), all_digits bs e)

-- two texts that are read as the same bytes are the same
text_back : (ds : List ℕ) (n : ℕ) → length ds ≡ 2 * n → all_of is_hex_digit ds ≡ true → hex_text (hex_bytes ds) ≡ ds
unfolding hex_text hex_bytes all_of
text_back [] n l e = refl
text_back (h ∷ []) n l e = absurd (omega arith)
text_back (h ∷ k ∷ ds) n l e =
    let p = and_both (is_hex_digit h) (is_hex_digit k && all_of is_hex_digit ds) e in
    let q = and_both (is_hex_digit k) (all_of is_hex_digit ds) p.1 in
    let low = value_below k q.0 in
    let a : (16 * hex_value h + hex_value k) / 16 ≡ hex_value h = omega arith in
    let b : (16 * hex_value h + hex_value k) % 16 ≡ hex_value k = omega arith in
    rw (a, b, digit_value h p.0, digit_value k q.0, text_back ds (n - 1) (omega arith) q.1)

pub hex_unique : (ds es : List ℕ) → is_hex64 ds ≡ true → is_hex64 es ≡ true → hex_bytes ds ≡ hex_bytes es → ds ≡ es
unfolding is_hex64
hex_unique ds es p q e = sym (back ds p) ∙ ap hex_text e ∙ back es q
  where
    back : (xs : List ℕ) → (eqb (length xs) 64 && all_of is_hex_digit xs) ≡ true → hex_text (hex_bytes xs) ≡ xs
    back xs r =
        let s = and_both (eqb (length xs) 64) (all_of is_hex_digit xs) r in
        text_back xs 32 (eqb-true (length xs) 64 s.0) s.1
