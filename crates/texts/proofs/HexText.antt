-- Laws of specs/Hex.antt: a digit by its range, the bytes of a text one by one, and the digits of bytes. Assumes nothing.
use mathlib.Core.Path.{◌≡◌, refl, sym, ap, ◌∙◌}
use mathlib.Core.Bool.{true, false, ◌&&◌, and-false}
use mathlib.Core.Logic.{⊎_elim}
use mathlib.Core.List.{List, [], ◌∷◌, ◌++◌, append-nil, append_assoc}
use Prim.Native.Nat.{ℕ, suc, ◌+◌, ◌-◌, ◌*◌, ◌/◌, ◌%◌, ◌≤◌, ◌<◌}
use native.Mathlib.Numerals.{add-one}
use native.Mathlib.Omega.{arith}
use lib.Dec.{eqb, leb}
use lib.ListN.{length, get_or, take, drop, set, length-set, drop_of_length-le}
use lib.Seq.{drop-cons, take-suc-set, take_all}
use borrow.Author.Tests.{le-leb, lt-leb, leb-true, eq-eqb, ne_eqb}
use Rattle.std.proofs.Common.{Some, None}
use Rattle.lists.specs.Lists.{all_of}
use Rattle.lists.specs.Below.{some_below}
use Rattle.lists.proofs.Found.{found_below, none_past}
use Rattle.lists.proofs.Bools.{cases, and_both, or_either}
use Rattle.texts.specs.Hex.{is_hex_digit, hex_value, hex_digit, hex_bytes, is_hex64, hex_text}
use Rattle.texts.specs.Rooms.{Room, Wrote, Writes}
use Rattle.texts.proofs.Append.{Left, start, next, done}

-- ---- what a byte stands for

module _ (b : ℕ) where
  pub value_low : b < 48 → hex_value b ≡ 16
  unfolding hex_value
  value_low h = rw (lt-leb 48 b h, lt-leb 97 b (omega arith))

  pub value_decimal : 48 ≤ b → b ≤ 57 → hex_value b ≡ b - 48
  unfolding hex_value
  value_decimal h l = rw (le-leb 48 b h, le-leb b 57 l)

  pub value_between : 57 < b → b < 97 → hex_value b ≡ 16
  unfolding hex_value
  value_between h l = rw (lt-leb b 57 h, lt-leb 97 b l, and-false (leb 48 b))

  pub value_letter : 97 ≤ b → b ≤ 102 → hex_value b ≡ b - 87
  unfolding hex_value
  value_letter h l = rw (lt-leb b 57 (omega arith), le-leb 97 b h, le-leb b 102 l, and-false (leb 48 b))

  pub value_high : 102 < b → hex_value b ≡ 16
  unfolding hex_value
  value_high h = rw (lt-leb b 57 (omega arith), lt-leb b 102 h, and-false (leb 48 b), and-false (leb 97 b))

  -- what code answers for it
  pub some_value : (v : ℕ) → hex_value b ≡ v → v < 16 → Some v ≡ some_below 16 (hex_value b)
  some_value v e l = rw e (sym (found_below 16 v l))

  pub no_value : hex_value b ≡ 16 → None ≡ some_below 16 (hex_value b)
  no_value e = rw e (sym (none_past 16 16 (omega arith)))

  -- a digit, and a byte that is none
  pub is_digit_lem : hex_value b ≤ 15 → is_hex_digit b ≡ true
  unfolding hex_value
  is_digit_lem h = cases (is_hex_digit b) (λ e. e) (λ e. absurd (omega (arith, none e)))
    where
      none : is_hex_digit b ≡ false → hex_value b ≡ 16
      none e = rw e

  pub value_below : is_hex_digit b ≡ true → hex_value b ≤ 15
  value_below e =
      ⊎_elim
      (λ p. let q = and_both (leb 48 b) (leb b 57) p in
      omega (arith, value_decimal (leb-true 48 b q.0) (leb-true b 57 q.1), leb-true b 57 q.1))
      (λ p. let q = and_both (leb 97 b) (leb b 102) p in
      omega (arith, value_letter (leb-true 97 b q.0) (leb-true b 102 q.1), leb-true b 102 q.1))
      (or_either (leb 48 b && leb b 57) (leb 97 b && leb b 102) e)

  pub no_digit : 15 < hex_value b → is_hex_digit b ≡ false
  no_digit h = cases (is_hex_digit b) (λ e. absurd (omega (arith, value_below e))) (λ e. e)

-- ---- reading: the first i bytes are those of the first 2 i digits

pub record Spelt (text bytes : List ℕ) (i : ℕ) : Type 0 where
  pub within : i ≤ 32
  pub long : length text ≡ 64
  pub room : length bytes ≡ 32
  pub digits : all_of is_hex_digit text ≡ all_of is_hex_digit (drop (2 * i) text)
  pub spells : take i bytes ++ hex_bytes (drop (2 * i) text) ≡ hex_bytes text

pub not_64 : (text : List ℕ) → (length text ≡ 64 → ⊥) → is_hex64 text ≡ false
unfolding is_hex64
not_64 text n = rw (ne_eqb (length text) 64 n)

pub none_read : (text bytes : List ℕ) → length text ≡ 64 → length bytes ≡ 32 → Spelt text bytes 0
none_read text bytes e l = record { within = omega arith; long = e; room = l; digits = refl; spells = refl }

module _ {text bytes : List ℕ} {i : ℕ} (s : Spelt text bytes i) where
  module _ (l : i < 32) where
    abbrev high : ℕ
    high = get_or text (2 * i) 0

    abbrev low : ℕ
    low = get_or text (2 * i + 1) 0

    rest : drop (2 * i) text ≡ high ∷ low ∷ drop (2 * (i + 1)) text
    rest =
        let e : 2 * (i + 1) ≡ suc (suc (2 * i)) = omega arith in
        drop-cons text (2 * i) 0 (omega (arith, s.long))
        ∙ rw (e, add-one) (ap (λ (t : List ℕ). high ∷ t) (drop-cons text (suc (2 * i)) 0 (omega (arith, s.long))))

    next_digits : all_of is_hex_digit text ≡ (is_hex_digit high && (is_hex_digit low && all_of is_hex_digit (drop (2 * (i + 1)) text)))
    unfolding all_of
    next_digits = s.digits ∙ ap (all_of is_hex_digit) rest

    pub bad_high : 15 < hex_value high → is_hex64 text ≡ false
    unfolding is_hex64
    bad_high h = rw (next_digits, no_digit high h) (and-false (eqb (length text) 64))

    pub bad_low : 15 < hex_value low → is_hex64 text ≡ false
    unfolding is_hex64
    bad_low h = rw (next_digits, no_digit low h, and-false (is_hex_digit high)) (and-false (eqb (length text) 64))

    pub byte_read : hex_value high ≤ 15 → hex_value low ≤ 15 → Spelt text (set bytes i (16 * hex_value high + hex_value low)) (i + 1)
    unfolding hex_bytes
    byte_read h k =
        let v = 16 * hex_value high + hex_value low in
        record {
          within = omega arith;
          long = s.long;
          room = length-set bytes i v ∙ s.room;
          digits = next_digits ∙ rw (is_digit_lem high h, is_digit_lem low k);
          spells =
              rw (add-one, take-suc-set bytes i v (omega (arith, s.room)), append_assoc) (rw (← add-one i) (rw rest at s.spells));
        }

  pub all_read : 32 ≤ i → (is_hex64 text ≡ true) × (bytes ≡ hex_bytes text)
  unfolding is_hex64 hex_bytes all_of
  all_read h =
      let none : drop (2 * i) text ≡ [] = drop_of_length-le text {i = 2 * i} (omega (arith, s.long)) in (
        rw (eq-eqb (length text) 64 s.long, s.digits, none),
        sym (take_all i bytes (omega (arith, s.room))) ∙ sym (append-nil (take i bytes)) ∙ (rw none at s.spells),
      )

pub bytes_length : (text : List ℕ) → length (hex_bytes text) ≡ length text / 2
unfolding hex_bytes
bytes_length [] = refl
bytes_length (h ∷ []) = refl
bytes_length (h ∷ l ∷ ds) = omega (arith, bytes_length ds)

-- ---- writing: the digits of the first i bytes are written

pub text_length : (bs : List ℕ) → length (hex_text bs) ≡ 2 * length bs
unfolding hex_text
text_length [] = refl
text_length (b ∷ bs) = omega (arith, text_length bs)

pub record HexLeft (bytes : List ℕ) (i at from : ℕ) (new old : List ℕ) : Type 0 where
  pub passed : i ≤ length bytes
  pub left : Left (hex_text (drop i bytes)) (hex_text bytes) at from new old

pub hex_start : {bytes : List ℕ} {from : ℕ} {old : List ℕ} → Room (hex_text bytes) from old → HexLeft bytes 0 from from old old
hex_start r = record { passed = omega arith; left = start r }

module _ {bytes : List ℕ} {i at from : ℕ} {new old : List ℕ} (l : HexLeft bytes i at from new old) where
  pub pair_wrote : i < length bytes → {h k end : ℕ} {newer : List ℕ} → h ≡ hex_digit (get_or bytes i 0 / 16) → k ≡ hex_digit (get_or bytes i 0 % 16)
      → Writes (h ∷ k ∷ []) at new newer end → HexLeft bytes (i + 1) end from newer old
  unfolding hex_text
  pair_wrote more {h} {k} x y w =
      let e : drop i bytes ≡ get_or bytes i 0 ∷ drop (i + 1) bytes = rw (add-one i) (drop-cons bytes i 0 more) in
      record { passed = omega arith; left = next (h ∷ k ∷ []) (hex_text (drop (i + 1) bytes)) (rw (x, y) (rw e at l.left)) w }

  pub hex_done : length bytes ≤ i → Wrote (hex_text bytes) from old new at
  unfolding hex_text
  hex_done h = done (rw (drop_of_length-le bytes h) at l.left)
