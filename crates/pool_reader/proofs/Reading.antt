-- Laws of specs/Steps.antt: the words one after the other, numbers among them, and txids. Assumes nothing.
use mathlib.Core.Path.{◌≡◌, refl, sym, ap, ◌∙◌}
use mathlib.Core.Bool.{Bool, true, false, cond, ◌&&◌, and-false}
use mathlib.Core.Logic.{⊎_elim}
use mathlib.Core.List.{List, [], ◌∷◌, ◌++◌, append-nil, append_assoc}
use Prim.Native.Nat.{ℕ, suc, ◌+◌, ◌-◌, ◌*◌, ◌≤◌, ◌<◌}
use native.Mathlib.Nat.{zero-add, suc-add}
use native.Mathlib.Numerals.{add-one}
use native.Mathlib.Omega.{arith}
use lib.Dec.{eqb}
use lib.ListN.{length, take, drop, set, length-set, length-append, drop_of_length-le}
use lib.Seq.{take-suc-set, take_all}
use borrow.Author.Tests.{le-leb, lt-leb, eq-eqb, ne_eqb, eqb-true}
use Rattle.lists.specs.Lists.{all_of, same}
use Rattle.lists.proofs.Bools.{cases, cond_first, cond_second, and_left, and_both}
use Rattle.lists.proofs.Lists.{all_append}
use Rattle.lists.proofs.Numbers.{lt_or_ge}
use Rattle.std.proofs.Common.{Some, None}
use Rattle.std.specs.Cmp.Lexicographic.{pointwise}
use Rattle.texts.specs.Numerals.{number_of, is_number, number_in, are_numbers}
use Rattle.texts.specs.Places.{before, place_of}
use Rattle.texts.specs.Hex.{is_hex_digit, is_hex64, hex_bytes}
use Rattle.texts.specs.Rooms.{placed, Room, Wrote}
use Rattle.texts.proofs.Places.{place_le, split_last, split_more}
use Rattle.texts.proofs.Append.{two, at_start, start_is, placed_length}
use Rattle.texts.proofs.HexText.{bytes_length}
use Rattle.pool_reader.specs.Requests.{numbers_in, are_txids, bytes_in}
use Rattle.pool_reader.specs.Steps.{words_at, Place, start_numbers, starts_txid, Numbers, TxidTo, Txids}

-- ---- a word by its bytes

-- a test of the whole word at once
pub same_whole : (word key : List ℕ) → pointwise eqb word key ≡ same word key
unfolding same
same_whole [] [] = refl
same_whole [] (k ∷ ks) = refl
same_whole (x ∷ xs) [] = refl
same_whole (x ∷ xs) (k ∷ ks) = ap (λ (b : Bool). eqb x k && b) (same_whole xs ks)

pub word_is : (word bytes key : List ℕ) {r : Bool} → r ≡ pointwise eqb word bytes → bytes ≡ key → same word key ≡ r
word_is word bytes key e f = sym (e ∙ ap (pointwise eqb word) f ∙ same_whole word key)

-- ---- words one after the other

module _ (text : List ℕ) (at : ℕ) where
  pub words_none : length text < at → words_at text at ≡ []
  unfolding words_at
  words_none l = rw (lt-leb at (length text) l)

  pub words_next : at ≤ length text → words_at text at ≡ before 32 (drop at text) ∷ words_at text (place_of 32 text at + 1)
  unfolding words_at
  words_next l =
      let p = place_of 32 text at in
      rw (le-leb at (length text) l)
      (⊎_elim
      (λ h. rw (le-leb (p + 1) (length text) (omega arith)) (split_more 32 text at h))
      (λ h. rw (lt-leb (p + 1) (length text) (omega arith)) (split_last 32 text at (omega (arith, place_le 32 text at l))))
      (lt_or_ge p (length text)))

  pub place_next : Place text at → at ≤ length text → Place text (place_of 32 text at + 1)
  place_next p l = record { short = p.short; within = omega (arith, place_le 32 text at l) }

-- ---- numbers

start_past : (read : List (List ℕ)) (k : ℕ) (ws : List (List ℕ)) → are_numbers read ≡ true
    → start_numbers (length read + k) (read ++ ws) ≡ start_numbers k ws
unfolding start_numbers are_numbers all_of
start_past [] k ws e = ap (λ (n : ℕ). start_numbers n ws) (zero-add k)
start_past (w ∷ read) k ws e =
    let p = and_both (is_number (number_of w)) (are_numbers read) e in
    rw (suc-add (length read) k, p.0) (start_past read k ws p.1)

pub start_all : (ws : List (List ℕ)) → start_numbers (length ws) ws ≡ are_numbers ws
unfolding start_numbers are_numbers all_of
start_all [] = refl
start_all (w ∷ ws) = ap (λ (b : Bool). is_number (number_of w) && b) (start_all ws)

numbers_snoc : (read : List (List ℕ)) (w : List ℕ) (n : ℕ) → number_of w ≡ Some n → numbers_in (read ++ (w ∷ [])) ≡ numbers_in read ++ (n ∷ [])
unfolding numbers_in
numbers_snoc [] w n e = rw e
numbers_snoc (x ∷ read) w n e = ap (λ (l : List ℕ). number_in (number_of x) ∷ l) (numbers_snoc read w n e)

-- the first i values are the numbers that stand before `at`
pub record Counted (text : List ℕ) (from all : ℕ) (values : List ℕ) (at i : ℕ) : Type 0 where
  pub place : Place text at
  pub long : length values ≡ all
  pub passed : i ≤ all
  pub read : List (List ℕ)
  pub words : words_at text from ≡ read ++ words_at text at
  pub numbers : are_numbers read ≡ true
  pub count : length read ≡ i
  pub are : take i values ≡ numbers_in read

pub none_counted : (text : List ℕ) (from all : ℕ) (values : List ℕ) → Place text from → length values ≡ all → Counted text from all values from 0
unfolding are_numbers numbers_in all_of
none_counted text from all values p l =
    record { place = p; long = l; passed = omega arith; read = []; words = refl; numbers = refl; count = refl; are = refl }

module _ {text : List ℕ} {from all : ℕ} {values : List ℕ} {at i : ℕ} (s : Counted text from all values at i) where
  module _ (more : i < all) where
    left : all ≡ length s.read + suc (all - suc i)
    left = omega (arith, s.count)

    pub no_word : length text < at → start_numbers all (words_at text from) ≡ false
    unfolding start_numbers
    no_word l = rw (left, s.words, words_none text at l) (start_past s.read (suc (all - suc i)) [] s.numbers)

    pub no_number : at ≤ length text → number_of (before 32 (drop at text)) ≡ None → start_numbers all (words_at text from) ≡ false
    unfolding start_numbers
    no_number l e =
        let w = before 32 (drop at text) in
        let rest = words_at text (place_of 32 text at + 1) in
        rw (left, s.words, words_next text at l) (start_past s.read (suc (all - suc i)) (w ∷ rest) s.numbers ∙ rw e)

    pub counted : at ≤ length text → (n : ℕ) → number_of (before 32 (drop at text)) ≡ Some n
        → Counted text from all (set values i n) (place_of 32 text at + 1) (i + 1)
    unfolding are_numbers all_of
    counted l n e =
        let w = before 32 (drop at text) in
        let rest = words_at text (place_of 32 text at + 1) in
        record {
          place = place_next text at s.place l;
          long = length-set values i n ∙ s.long;
          passed = omega arith;
          read = s.read ++ (w ∷ []);
          words = s.words ∙ rw (words_next text at l, append_assoc s.read (w ∷ []) rest);
          numbers = all_append (λ v. is_number (number_of v)) s.read (w ∷ []) ∙ rw (s.numbers, e);
          count = length-append s.read (w ∷ []) ∙ omega (arith, s.count);
          are = rw (add-one i, take-suc-set values i n (omega (arith, s.long)), s.are) (sym (numbers_snoc s.read w n e));
        }

  pub all_counted : all ≤ i → (length values ≡ all) × Numbers text from at values
  all_counted l = (
    s.long,
    record {
      place = s.place;
      read = s.read;
      words = s.words;
      numbers = s.numbers;
      are = sym (take_all i values (omega (arith, s.long))) ∙ s.are;
    },
  )

-- ---- txids

pub hex_length : (w : List ℕ) → is_hex64 w ≡ true → length w ≡ 64
unfolding is_hex64
hex_length w e = eqb-true (length w) 64 (and_left (eqb (length w) 64) (all_of is_hex_digit w) e)

pub txid_to : (w : List ℕ) (at : ℕ) (old : List ℕ) (text : List ℕ) (from : ℕ) (new : List ℕ) → Place text from → from ≤ length text
    → w ≡ before 32 (drop from text) → is_hex64 w ≡ true → new ≡ placed at (hex_bytes w) old → TxidTo text from (place_of 32 text from + 1) at old new
txid_to w at old text from new p l is t e =
    record {
      place = place_next text from p l;
      far = omega (arith, hex_length w t, ap length is);
      word = w;
      words = words_next text from l ∙ ap (λ (x : List ℕ). x ∷ words_at text (place_of 32 text from + 1)) (sym is);
      hex = t;
      wrote = record { ends = omega (arith, bytes_length w, hex_length w t); are = e };
    }

bytes_snoc : (read : List (List ℕ)) (w : List ℕ) → bytes_in (read ++ (w ∷ [])) ≡ bytes_in read ++ hex_bytes w
unfolding bytes_in
bytes_snoc [] w = append-nil (hex_bytes w)
bytes_snoc (x ∷ read) w = ap (λ (l : List ℕ). hex_bytes x ++ l) (bytes_snoc read w) ∙ sym (append_assoc (hex_bytes x) (bytes_in read) (hex_bytes w))

-- the first `len` bytes are those of the txids that stand before `at`
pub record Gathered (text : List ℕ) (from : ℕ) (old new : List ℕ) (at len : ℕ) : Type 0 where
  pub place : Place text at
  pub room : length old ≡ 4096
  pub kept : length new ≡ 4096
  pub few : 65 * len ≤ 32 * at
  pub read : List (List ℕ)
  pub words : words_at text from ≡ read ++ words_at text at
  pub hex : are_txids read ≡ true
  pub wrote : Wrote (bytes_in read) 0 old new len

pub none_gathered : (text : List ℕ) (from : ℕ) (old : List ℕ) → Place text from → length old ≡ 4096 → Gathered text from old old from 0
unfolding are_txids bytes_in all_of
none_gathered text from old p e =
    record {
      place = p;
      room = e;
      kept = e;
      few = omega arith;
      read = [];
      words = refl;
      hex = refl;
      wrote = record { ends = refl; are = refl };
    }

module _ {text : List ℕ} {from : ℕ} {old new : List ℕ} {at len : ℕ} (s : Gathered text from old new at len) where
  -- there is room for one more
  pub one_fits : at ≤ length text → len + 32 ≤ length new
  one_fits l = omega (arith, s.place.short, s.few, s.kept)

  pub no_txid : at ≤ length text → starts_txid (words_at text at) ≡ false → are_txids (words_at text from) ≡ false
  unfolding are_txids all_of
  no_txid l e =
      let w = before 32 (drop at text) in
      let rest = words_at text (place_of 32 text at + 1) in
      let f : is_hex64 w ≡ false = rw (words_next text at l) at e in
      rw (s.words, words_next text at l) (all_append is_hex64 s.read (w ∷ rest) ∙ rw f (and-false (all_of is_hex64 s.read)))

  pub gathered : at ≤ length text → {next : ℕ} {newer : List ℕ} → TxidTo text at next len new newer → Gathered text from old newer next (len + 32)
  unfolding are_txids all_of
  gathered l {next} {newer} t =
      let w = t.word in
      let long : length (hex_bytes w) ≡ 32 = omega (arith, t.wrote.ends) in
      let r : Room (bytes_in s.read ++ hex_bytes w) 0 old = record {
        fits = omega (arith, length-append (bytes_in s.read) (hex_bytes w), long, s.wrote.ends, one_fits l, s.room, s.kept);
      }
      in
      record {
        place = t.place;
        room = s.room;
        kept = ap length t.wrote.are ∙ placed_length len (hex_bytes w) new (omega (arith, long, one_fits l)) ∙ s.kept;
        few = omega (arith, s.few, t.far);
        read = s.read ++ (w ∷ []);
        words = s.words ∙ rw (t.words, append_assoc s.read (w ∷ []) (words_at text next));
        hex = all_append is_hex64 s.read (w ∷ []) ∙ rw (s.hex, t.hex);
        wrote = rw (bytes_snoc s.read w) (two (bytes_in s.read) (hex_bytes w) (λ _. s.wrote) (λ _. t.wrote) r);
      }

  pub all_gathered : length text < at → Txids text from len new
  all_gathered l =
      let e : words_at text from ≡ s.read = s.words ∙ rw (words_none text at l) (append-nil s.read) in
      record { are = ap are_txids e ∙ s.hex; bytes = start_is s.wrote ∙ ap bytes_in (sym e) }

-- the bytes of a txid in an array of its own
pub txid_is : {text : List ℕ} {from to : ℕ} {old new : List ℕ} → length old ≡ 32 → (t : TxidTo text from to 0 old new) → new ≡ hex_bytes t.word
txid_is {old = old} l t =
    let s = at_start t.wrote in
    s.1 ∙ rw (drop_of_length-le old {i = length (hex_bytes t.word)} (omega (arith, s.0))) (append-nil (hex_bytes t.word))

-- ---- numbers to the end of the line

numbers_length : (ws : List (List ℕ)) → length (numbers_in ws) ≡ length ws
unfolding numbers_in
numbers_length [] = refl
numbers_length (w ∷ ws) = ap suc (numbers_length ws)

module _ (count : ℕ) where
  abbrev AreOnly : List (List ℕ) → Bool
  AreOnly ws = eqb (length ws) count && are_numbers ws

  pub not_only : (ws : List (List ℕ)) → start_numbers count ws ≡ false → AreOnly ws ≡ false
  not_only ws e = cases (eqb (length ws) count) as_many (λ f. rw f)
    where
      as_many : eqb (length ws) count ≡ true → AreOnly ws ≡ false
      as_many t =
          let n : start_numbers count ws ≡ are_numbers ws =
          ap (λ (k : ℕ). start_numbers k ws) (sym (eqb-true (length ws) count t)) ∙ start_all ws in
          rw t (sym n ∙ e)

  module _ {text : List ℕ} {from to : ℕ} {values : List ℕ} (long : length values ≡ count) (n : Numbers text from to values) where
    pub count_read : length n.read ≡ count
    count_read = sym (ap length n.are ∙ numbers_length n.read) ∙ long

    pub numbers_end : length text < to → (AreOnly (words_at text from) ≡ true) × (values ≡ numbers_in (words_at text from))
    numbers_end l =
        let e : words_at text from ≡ n.read = n.words ∙ rw (words_none text to l) (append-nil n.read) in
        (rw (e, eq-eqb (length n.read) count count_read, n.numbers), n.are ∙ ap numbers_in (sym e))

    pub numbers_more : to ≤ length text → AreOnly (words_at text from) ≡ false
    numbers_more l =
        let w = before 32 (drop to text) in
        let rest = words_at text (place_of 32 text to + 1) in
        rw (n.words, words_next text to l)
        (rw (ne_eqb (length (n.read ++ (w ∷ rest))) count (λ e. omega (arith, length-append n.read (w ∷ rest), count_read))))

-- what was answered: the numbers, or that there are not so many alone
pub only_none : (t : Bool) (xs : List ℕ) → None ≡ cond t (Some xs) None → t ≡ false
only_none t xs e = (cond_second t (sym e) (λ q. let z : ◌≡◌ {A = ℕ} 0 1 = cc in omega arith)).0

pub only_some : (t : Bool) (xs : List ℕ) {ys : List ℕ} → Some ys ≡ cond t (Some xs) None → (t ≡ true) × (ys ≡ xs)
only_some t xs {ys} e =
    let p = cond_first t (sym e) (λ q. let z : ◌≡◌ {A = ℕ} 0 1 = cc in omega arith) in
    let same : ys ≡ xs = cc in
    (p.0, same)
