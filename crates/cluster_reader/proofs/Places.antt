-- Laws of specs/Lines.antt, at a place of the text. Assumes nothing.
use mathlib.Core.Path.{◌≡◌, refl, sym, ap, ap₂, ◌∙◌}
use mathlib.Core.Bool.{true, false, ◌&&◌, and-false}
use mathlib.Core.List.{List, [], ◌∷◌, ◌++◌}
use Prim.Native.Nat.{ℕ, zero, suc, ◌+◌, ◌-◌, ◌≤◌, ◌<◌}
use native.Mathlib.Nat.{sub-zero, zero-sub, suc-sub-suc}
use native.Mathlib.Omega.{arith}
use lib.Dec.{eqb, ltb, leb}
use lib.ListN.{length, take, drop, length-drop, length-append}
use lib.Seq.{drop-drop, take-nil}
use borrow.Author.Tests.{le-leb, lt-leb, lt-ltb, le-ltb, eq-eqb, ne_eqb, eqb-true, eqb-false, ltb-true, leb-true}
use Rattle.std.proofs.Common.{Some, None}
use Rattle.std.specs.Cmp.Lexicographic.{pointwise}
use Rattle.lists.proofs.Bools.{clash, cases, and_both, cond_first, cond_second}
use Rattle.texts.specs.Places.{before, behind, place_of}
use Rattle.texts.proofs.Places.{before_take, before_append, before_grows, place_behind}
use Rattle.cluster_reader.specs.declared.lines.Span.{Span}
use Rattle.cluster_reader.specs.Lines.{is_line, longest_line, starts, is_field, value_of}
use Rattle.cluster_reader.specs.Steps.{line_at, field_at, has_end}

-- ---- lines

module _ (text : List ℕ) (from : ℕ) where
  abbrev left : List ℕ
  left = drop from text

  abbrev size : ℕ
  size = length (before 10 left)

  pub line_open : length text ≤ place_of 10 text from → line_at text from ≡ None
  unfolding line_at is_line
  line_open l = rw (le-ltb size (length left) (simp length-drop (omega arith)))

  pub line_long : 1024 < place_of 10 text from - from → line_at text from ≡ None
  unfolding line_at is_line
  line_long l = rw (lt-leb size 1024 (omega arith), and-false (ltb size (length left)))

  pub line_whole : place_of 10 text from < length text → place_of 10 text from - from ≤ 1024 → line_at text from ≡ Some (place_of 10 text from)
  unfolding line_at is_line
  line_whole l h = rw (lt-ltb size (length left) (simp length-drop (omega arith)), le-leb size 1024 (omega arith))

-- a line that is of its form has its newline, and so has a field
pub line_inside : (xs : List ℕ) → is_line xs ≡ true → length (before 10 xs) < length xs
unfolding is_line
line_inside xs e =
    ltb-true (length (before 10 xs)) (length xs) (and_both (ltb (length (before 10 xs)) (length xs)) (leb (length (before 10 xs)) 1024) e).0

pub field_inside : (key xs : List ℕ) → is_field key xs ≡ true → length (before 10 xs) < length xs
unfolding is_field
field_inside key xs e = line_inside xs (and_both (is_line xs) (starts key (before 10 xs)) e).0

-- it has at most 1,024 bytes before the newline, so little is passed with it
pub field_short : (key xs : List ℕ) → is_field key xs ≡ true → length (before 10 xs) ≤ 1024
unfolding is_field is_line
field_short key xs e =
    let l = (and_both (is_line xs) (starts key (before 10 xs)) e).0 in
    leb-true (length (before 10 xs)) 1024 (and_both (ltb (length (before 10 xs)) (length xs)) (leb (length (before 10 xs)) 1024) l).1

pub field_passes : (key xs : List ℕ) → is_field key xs ≡ true → length xs ≤ longest_line + length (behind 10 xs)
unfolding behind
field_passes key xs e = omega (arith, field_short key xs e, length-drop (suc (length (before 10 xs))) xs)

-- the first line, from the text's start
pub has_line : (text : List ℕ) → place_of 10 text 0 < length text → has_end text ≡ true
has_line text l = rw (lt-ltb (length (before 10 text)) (length text) (omega arith))

pub only_long : (text : List ℕ) → length text ≤ place_of 10 text 0 → has_end text ≡ ltb 1024 (length text)
only_long text l = rw (le-ltb (length (before 10 text)) (length text) (omega arith))

-- ---- keys

eqb_turned : (m n : ℕ) → eqb m n ≡ eqb n m
eqb_turned m n = cases (eqb m n) (λ e. e ∙ sym (eq-eqb n m (sym (eqb-true m n e)))) (λ e. e ∙ sym (ne_eqb n m (λ q. eqb-false m n e (sym q))))

-- a test of the whole key at once
pub starts_whole : (key line : List ℕ) → starts key line ≡ pointwise eqb key (take (length key) line)
unfolding starts
starts_whole [] line = refl
starts_whole (k ∷ ks) [] = refl
starts_whole (k ∷ ks) (x ∷ xs) = ap₂ ◌&&◌ (eqb_turned x k) (starts_whole ks xs)

starts_length : (key line : List ℕ) → starts key line ≡ true → length key ≤ length line
unfolding starts
starts_length [] line e = omega arith
starts_length (k ∷ ks) [] e = clash {b = false} e refl
starts_length (k ∷ ks) (x ∷ xs) e = omega (arith, starts_length ks xs (and_both (eqb x k) (starts ks xs) e).1)

-- ---- parts of a text

drop_take : (k n : ℕ) (l : List ℕ) → drop k (take n l) ≡ take (n - k) (drop k l)
drop_take zero n l = rw (sub-zero n)
drop_take (suc k) zero l = rw (zero-sub (suc k))
drop_take (suc k) (suc n) [] = sym (take-nil (suc n - suc k))
drop_take (suc k) (suc n) (x ∷ l) = drop_take k n l ∙ ap (λ (m : ℕ). take m (drop k l)) (sym (suc-sub-suc n k))

-- ---- a line that is of its form

pub record Whole (text : List ℕ) (from end : ℕ) : Type 0 where
  pub line : is_line (drop from text) ≡ true
  pub at : end ≡ place_of 10 text from
  pub inside : end < length text

pub line_ends : (text : List ℕ) (from end : ℕ) → line_at text from ≡ Some end → Whole text from end
unfolding line_at
line_ends text from end h =
    let p = cond_first (is_line (drop from text)) h (λ e. let z : ◌≡◌ {A = ℕ} 0 1 = cc in omega arith) in
    let e : end ≡ place_of 10 text from = cc in
    record { line = p.0; at = e; inside = omega (arith, line_inside (drop from text) p.0, length-drop from text) }

pub line_malformed : (text : List ℕ) (from : ℕ) → line_at text from ≡ None → is_line (drop from text) ≡ false
unfolding line_at
line_malformed text from h = (cond_second (is_line (drop from text)) h (λ e. let z : ◌≡◌ {A = ℕ} 0 1 = cc in omega arith)).0

-- ---- a field: a line with its key

module _ (key text : List ℕ) (from : ℕ) where
  pub field_no_line : is_line (drop from text) ≡ false → field_at key text from ≡ None
  unfolding field_at is_field
  field_no_line e = rw e

  pub field_no_key : starts key (before 10 (drop from text)) ≡ false → field_at key text from ≡ None
  unfolding field_at is_field
  field_no_key e = rw (e, and-false (is_line (drop from text)))

  pub field_found : {end : ℕ} → Whole text from end → starts key (before 10 (drop from text)) ≡ true
      → field_at key text from ≡ Some (record { start = from + length key; end = end })
  unfolding field_at is_field
  field_found w e = rw (w.line, e, w.at)

-- what stands between the key and the newline
value_part : (key text : List ℕ) (from : ℕ) → take (place_of 10 text from - (from + length key)) (drop (from + length key) text) ≡ value_of key (drop from text)
unfolding value_of
value_part key text from =
    let xs = drop from text in
    let e : place_of 10 text from - (from + length key) ≡ length (before 10 xs) - length key = omega arith in
    ap₂ take e (sym (drop-drop (length key) from text))
    ∙ sym (drop_take (length key) (length (before 10 xs)) xs) ∙ ap (drop (length key)) (before_take 10 xs)

-- what a caller learns of a line where the text goes on as xs: the value stands between start and end, and the next line behind it
pub record Field (key xs text : List ℕ) (from start end : ℕ) : Type 0 where
  pub field : is_field key xs ≡ true
  pub at : end ≡ place_of 10 text from
  pub order : start ≤ end
  pub inside : end < length text
  pub value : take (end - start) (drop start text) ≡ value_of key xs
  pub next : drop (end + 1) text ≡ behind 10 xs

module _ (key text : List ℕ) (from : ℕ) {xs : List ℕ} (here : drop from text ≡ xs) where
  pub field_between : (s : Span) → field_at key text from ≡ Some s → Field key xs text from s.start s.end
  unfolding field_at is_field
  field_between s h =
      let p = cond_first (is_field key (drop from text)) h (λ e. let z : ◌≡◌ {A = ℕ} 0 1 = cc in omega arith) in
      let q : record { start = from + length key; end = place_of 10 text from } ≡ s = cc in
      let st : from + length key ≡ s.start = ap (λ (t : Span). t.start) q in
      let en : place_of 10 text from ≡ s.end = ap (λ (t : Span). t.end) q in
      let k = starts_length key (before 10 (drop from text)) (and_both (is_line (drop from text)) (starts key (before 10 (drop from text))) p.0).1 in
      record {
        field = ap (is_field key) (sym here) ∙ p.0;
        at = sym en;
        order = omega arith;
        inside = omega (arith, field_inside key (drop from text) p.0, length-drop from text);
        value = rw (sym st, sym en) (value_part key text from) ∙ ap (value_of key) here;
        next = rw (sym en) (place_behind 10 text from) ∙ ap (behind 10) here;
      }

  pub field_malformed : field_at key text from ≡ None → is_field key xs ≡ false
  unfolding field_at
  field_malformed h =
      ap (is_field key) (sym here) ∙ (cond_second (is_field key (drop from text)) h (λ e. let z : ◌≡◌ {A = ℕ} 0 1 = cc in omega arith)).0

-- ---- a text that goes on: a first line that is whole stays, and one that is not stays as long at least

-- all that is asked of a first line
pub record Same (key xs ys : List ℕ) : Type 0 where
  pub field : is_field key ys ≡ is_field key xs
  pub value : value_of key ys ≡ value_of key xs

pub goes_on : (key xs ys : List ℕ) → length (before 10 xs) < length xs → Same key xs (xs ++ ys)
unfolding is_field is_line value_of
goes_on key xs ys l =
    let e = before_append 10 xs ys l in
    record {
      field =
          rw (e, lt-ltb (length (before 10 xs)) (length xs) l, lt-ltb (length (before 10 xs)) (length (xs ++ ys)) (omega (arith, length-append xs ys)));
      value = ap (drop (length key)) e;
    }

pub too_long : (key xs ys : List ℕ) → length xs ≤ length (before 10 xs) → 1024 < length xs → is_field key (xs ++ ys) ≡ false
unfolding is_field is_line
too_long key xs ys l h =
    let n = length (before 10 (xs ++ ys)) in
    rw (lt-leb n 1024 (omega (arith, before_grows 10 xs ys l)), and-false (ltb n (length (xs ++ ys))))
