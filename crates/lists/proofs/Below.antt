-- Laws of specs/Below.antt, for any property of numbers. The list of those that have it is the ground: how many there are, whether
-- there is any, and the first are read from that list. Assumes nothing.
use mathlib.Core.Path.{◌≡◌, refl, sym, ap, ap₂, ◌∙◌}
use mathlib.Core.Bool.{Bool, true, false, cond, not, ◌&&◌, ◌||◌, and-true, and-false, or-false}
use mathlib.Core.Logic.{⊎_elim}
use mathlib.Core.List.{List, [], ◌∷◌, ◌++◌, map}
use Prim.Native.Nat.{ℕ, zero, suc, ◌+◌, ◌-◌, ◌≤◌, ◌<◌}
use native.Mathlib.Nat.{add-zero, zero-add, suc-add, add-suc, eq-or-lt_of_le, le_antisymm}
use native.Mathlib.Omega.{arith}
use lib.Dec.{eqb, ltb}
use lib.ListN.{length, length-append, length-map}
use borrow.Author.Tests.{lt-ltb, le-ltb, ltb-true, ltb-false, eq-eqb, ne_eqb, not-true, not-false}
use Rattle.lists.specs.Lists.{any_of, elem}
use Rattle.lists.specs.Below.{keep_if, bit, any_from, all_from, count_from, first_from, list_from}
use Rattle.lists.proofs.Bools.{clash, not_or, but_not, is_true, is_false}
use Rattle.lists.proofs.Numbers.{lt_or_ge}

-- whether a list has an element
abbrev pub some : List ℕ → Bool
some [] = false
some (x ∷ xs) = true

-- a list's first element, or e where it has none
abbrev pub head_or : ℕ → List ℕ → ℕ
head_or e [] = e
head_or e (x ∷ xs) = x

-- f and g agree at the numbers i, .., i + k - 1
abbrev pub Agree : (ℕ → Bool) → (ℕ → Bool) → ℕ → ℕ → Type 0
Agree f g k i = (j : ℕ) → i ≤ j → j < i + k → f j ≡ g j

-- whether a list has an element, and its first, after another list was appended or every element was moved
pub some_append : (l m : List ℕ) → some (l ++ m) ≡ (some l || some m)
some_append [] m = refl
some_append (x ∷ l) m = refl

pub some_map : (h : ℕ → ℕ) (l : List ℕ) → some (map h l) ≡ some l
some_map h [] = refl
some_map h (x ∷ l) = refl

pub head_append : (e d : ℕ) (l m : List ℕ) → head_or e (l ++ m) ≡ cond (some l) (head_or d l) (head_or e m)
head_append e d [] m = refl
head_append e d (x ∷ l) m = refl

pub head_map : (h : ℕ → ℕ) (e : ℕ) (l : List ℕ) → head_or (h e) (map h l) ≡ h (head_or e l)
head_map h e [] = refl
head_map h e (x ∷ l) = refl

-- ---- what is read from the list

length_keep : (b : Bool) (i : ℕ) (l : List ℕ) → length (keep_if b i l) ≡ bit b + length l
length_keep true i l = omega arith
length_keep false i l = omega arith

some_keep : (b : Bool) (i : ℕ) (l : List ℕ) → some (keep_if b i l) ≡ (b || some l)
some_keep true i l = refl
some_keep false i l = refl

head_keep : (b : Bool) (e i : ℕ) (l : List ℕ) → head_or e (keep_if b i l) ≡ cond b i (head_or e l)
head_keep true e i l = refl
head_keep false e i l = refl

append_keep : (b : Bool) (i : ℕ) (l m : List ℕ) → keep_if b i (l ++ m) ≡ keep_if b i l ++ m
append_keep true i l m = refl
append_keep false i l m = refl

map_keep : (h : ℕ → ℕ) (b : Bool) (i : ℕ) (l : List ℕ) → map h (keep_if b i l) ≡ keep_if b (h i) (map h l)
map_keep h true i l = refl
map_keep h false i l = refl

-- the count is the list's length
pub count_list : (f : ℕ → Bool) (k i : ℕ) → count_from f k i ≡ length (list_from f k i)
unfolding count_from list_from
count_list f zero i = refl
count_list f (suc k) i = ap (λ (n : ℕ). bit (f i) + n) (count_list f k (suc i)) ∙ sym (length_keep (f i) i (list_from f k (suc i)))

-- there is any exactly if the list has an element
pub any_list : (f : ℕ → Bool) (k i : ℕ) → any_from f k i ≡ some (list_from f k i)
unfolding any_from list_from
any_list f zero i = refl
any_list f (suc k) i = ap (λ (b : Bool). f i || b) (any_list f k (suc i)) ∙ sym (some_keep (f i) i (list_from f k (suc i)))

-- the first is the list's first
pub first_list : (f : ℕ → Bool) (k i : ℕ) → first_from f k i ≡ head_or (i + k) (list_from f k i)
unfolding first_from list_from
first_list f zero i = sym (add-zero i)
first_list f (suc k) i =
    let e : suc i + k ≡ i + suc k = omega arith in
    ap (cond (f i) i) (first_list f k (suc i) ∙ ap (λ (n : ℕ). head_or n (list_from f k (suc i))) e)
    ∙ sym (head_keep (f i) (i + suc k) i (list_from f k (suc i)))

-- all have it exactly if none lacks it
pub all_any : (f : ℕ → Bool) (k i : ℕ) → all_from f k i ≡ not (any_from (λ j. not (f j)) k i)
unfolding all_from any_from
all_any f zero i = refl
all_any f (suc k) i = ap (λ (b : Bool). f i && b) (all_any f k (suc i)) ∙ but_not (f i) (any_from (λ j. not (f j)) k (suc i))

-- an empty range
pub list_none : (f : ℕ → Bool) (i : ℕ) → list_from f 0 i ≡ []
unfolding list_from
list_none f i = refl

-- ---- two properties, and two ranges

-- properties that agree in the range have the same list there, and what is read from it
pub list_ext : (f g : ℕ → Bool) (k i : ℕ) → Agree f g k i → list_from f k i ≡ list_from g k i
unfolding list_from
list_ext f g zero i h = refl
list_ext f g (suc k) i h =
    ap₂ (λ (b : Bool) (l : List ℕ). keep_if b i l) (h i (omega arith) (omega arith))
    (list_ext f g k (suc i) (λ j a b. h j (omega arith) (omega arith)))

-- a range in two parts: the one list, then the other
pub list_split : (f : ℕ → Bool) (j k i : ℕ) → list_from f (j + k) i ≡ list_from f j i ++ list_from f k (i + j)
unfolding list_from
list_split f zero k i = rw (zero-add, add-zero)
list_split f (suc j) k i =
    let e : suc i + j ≡ i + suc j = omega arith in
    ap (λ (n : ℕ). list_from f n i) (suc-add j k)
    ∙ ap (keep_if (f i) i) (list_split f j k (suc i) ∙ ap (λ (n : ℕ). list_from f j (suc i) ++ list_from f k n) e)
    ∙ append_keep (f i) i (list_from f j (suc i)) (list_from f k (i + suc j))

-- a range moved by d: the numbers are moved by d
pub list_shift : (f : ℕ → Bool) (d k i : ℕ) → list_from f k (d + i) ≡ map (λ j. d + j) (list_from (λ j. f (d + j)) k i)
unfolding list_from
list_shift f d zero i = refl
list_shift f d (suc k) i =
    ap (keep_if (f (d + i)) (d + i)) (ap (list_from f k) (sym (add-suc d i)) ∙ list_shift f d k (suc i))
    ∙ sym (map_keep (λ j. d + j) (f (d + i)) i (list_from (λ j. f (d + j)) k (suc i)))

pub any_ext : (f g : ℕ → Bool) (k i : ℕ) → Agree f g k i → any_from f k i ≡ any_from g k i
any_ext f g k i h = any_list f k i ∙ ap some (list_ext f g k i h) ∙ sym (any_list g k i)

pub count_ext : (f g : ℕ → Bool) (k i : ℕ) → Agree f g k i → count_from f k i ≡ count_from g k i
count_ext f g k i h = count_list f k i ∙ ap length (list_ext f g k i h) ∙ sym (count_list g k i)

pub first_ext : (f g : ℕ → Bool) (k i : ℕ) → Agree f g k i → first_from f k i ≡ first_from g k i
first_ext f g k i h = first_list f k i ∙ ap (head_or (i + k)) (list_ext f g k i h) ∙ sym (first_list g k i)

pub all_ext : (f g : ℕ → Bool) (k i : ℕ) → Agree f g k i → all_from f k i ≡ all_from g k i
all_ext f g k i h = all_any f k i ∙ ap not (any_ext _ _ k i (λ j a b. ap not (h j a b))) ∙ sym (all_any g k i)

pub any_split : (f : ℕ → Bool) (j k i : ℕ) → any_from f (j + k) i ≡ (any_from f j i || any_from f k (i + j))
any_split f j k i =
    any_list f (j + k) i ∙ ap some (list_split f j k i) ∙ some_append (list_from f j i) (list_from f k (i + j))
    ∙ sym (ap₂ ◌||◌ (any_list f j i) (any_list f k (i + j)))

pub all_split : (f : ℕ → Bool) (j k i : ℕ) → all_from f (j + k) i ≡ (all_from f j i && all_from f k (i + j))
all_split f j k i =
    let g : ℕ → Bool = λ x. not (f x) in
    all_any f (j + k) i ∙ ap not (any_split g j k i) ∙ not_or (any_from g j i) (any_from g k (i + j))
    ∙ sym (ap₂ ◌&&◌ (all_any f j i) (all_any f k (i + j)))

pub count_split : (f : ℕ → Bool) (j k i : ℕ) → count_from f (j + k) i ≡ count_from f j i + count_from f k (i + j)
count_split f j k i =
    count_list f (j + k) i ∙ ap length (list_split f j k i) ∙ length-append (list_from f j i) (list_from f k (i + j))
    ∙ sym (ap₂ ◌+◌ (count_list f j i) (count_list f k (i + j)))

pub count_shift : (f : ℕ → Bool) (d k i : ℕ) → count_from f k (d + i) ≡ count_from (λ j. f (d + j)) k i
count_shift f d k i =
    count_list f k (d + i) ∙ ap length (list_shift f d k i) ∙ length-map (list_from (λ j. f (d + j)) k i) (λ j. d + j)
    ∙ sym (count_list (λ j. f (d + j)) k i)

pub first_shift : (f : ℕ → Bool) (d k i : ℕ) → first_from f k (d + i) ≡ d + first_from (λ j. f (d + j)) k i
first_shift f d k i =
    let e : d + i + k ≡ d + (i + k) = omega arith in
    first_list f k (d + i) ∙ ap₂ head_or e (list_shift f d k i) ∙ head_map (λ j. d + j) (i + k) (list_from (λ j. f (d + j)) k i)
    ∙ ap (λ (n : ℕ). d + n) (sym (first_list (λ j. f (d + j)) k i))

-- ---- the first

-- p is the first number of i, .., i + k - 1 that has f, or i + k where none has
pub record First (f : ℕ → Bool) (k i p : ℕ) : Type 0 where
  pub from : i ≤ p
  pub to : p ≤ i + k
  pub before : (j : ℕ) → i ≤ j → j < p → f j ≡ false
  pub at : p < i + k → f p ≡ true

first_step : (f : ℕ → Bool) (k i q : ℕ) (b : Bool) → f i ≡ b → First f k (suc i) q → First f (suc k) i (cond b i q)
first_step f k i q true e h =
    record { from = omega arith; to = omega arith; before = λ j a b. absurd (omega arith); at = λ _. e }
first_step f k i q false e h =
    record {
      from = omega (arith, h.from);
      to = omega (arith, h.to);
      before = λ j a b. ⊎_elim (λ z. ap f (sym z) ∙ e) (λ l. h.before j l b) (eq-or-lt_of_le a);
      at = λ l. h.at (omega arith);
    }

-- first_from gives it
pub first_is : (f : ℕ → Bool) (k i : ℕ) → First f k i (first_from f k i)
unfolding first_from
first_is f zero i = record { from = omega arith; to = omega arith; before = λ j a b. absurd (omega arith); at = λ l. absurd (omega arith) }
first_is f (suc k) i = first_step f k i (first_from f k (suc i)) (f i) refl (first_is f k (suc i))

-- there is but one first
pub first_unique : (f : ℕ → Bool) (k i p : ℕ) → First f k i p → first_from f k i ≡ p
first_unique f k i p h = le_antisymm (no_less p (first_from f k i) h (first_is f k i)) (no_less (first_from f k i) p (first_is f k i) h)
  where
    no_less : (p q : ℕ) → First f k i p → First f k i q → q ≤ p
    no_less p q h g =
        ⊎_elim (λ l. clash (h.at (omega (arith, g.to))) (g.before p h.from l)) (λ l. l) (lt_or_ge p q)

-- ---- any and all, by their numbers

any_step : (k i q : ℕ) (b c : Bool) → c ≡ ltb q (suc i + k) → (b || c) ≡ ltb (cond b i q) (i + suc k)
any_step k i q true c e = sym (lt-ltb i (i + suc k) (omega arith))
any_step k i q false c e = e ∙ ap (ltb q) (omega arith)

-- there is any exactly if the first stands before the end
pub any_first : (f : ℕ → Bool) (k i : ℕ) → any_from f k i ≡ ltb (first_from f k i) (i + k)
unfolding any_from first_from
any_first f zero i = sym (le-ltb i (i + zero) (omega arith))
any_first f (suc k) i = any_step k i (first_from f k (suc i)) (f i) (any_from f k (suc i)) (any_first f k (suc i))

-- where there is any, the first stands before the end, and has it
pub first_below : (f : ℕ → Bool) (k i : ℕ) → any_from f k i ≡ true → first_from f k i < i + k
first_below f k i h = ltb-true (first_from f k i) (i + k) (sym (any_first f k i) ∙ h)

pub first_has : (f : ℕ → Bool) (k i : ℕ) → any_from f k i ≡ true → f (first_from f k i) ≡ true
first_has f k i h = (first_is f k i).at (first_below f k i h)

-- where there is none, no number has it, and the other way
pub none_at : (f : ℕ → Bool) (k i : ℕ) → any_from f k i ≡ false → (j : ℕ) → i ≤ j → j < i + k → f j ≡ false
none_at f k i h j a b =
    let e : i + k ≤ first_from f k i = ltb-false (first_from f k i) (i + k) (sym (any_first f k i) ∙ h) in
    (first_is f k i).before j a (omega arith)

pub at_none : (f : ℕ → Bool) (k i : ℕ) → ((j : ℕ) → i ≤ j → j < i + k → f j ≡ false) → any_from f k i ≡ false
at_none f k i h =
    is_false (any_from f k i) (λ e. clash (first_has f k i e) (h (first_from f k i) (first_is f k i).from (first_below f k i e)))

-- where one has it, there is any
pub any_at : (f : ℕ → Bool) (k i j : ℕ) → i ≤ j → j < i + k → f j ≡ true → any_from f k i ≡ true
any_at f k i j a b h = is_true (any_from f k i) (λ e. clash h (none_at f k i e j a b))

-- where all have it, each number has it, and the other way
pub all_at : (f : ℕ → Bool) (k i : ℕ) → all_from f k i ≡ true → (j : ℕ) → i ≤ j → j < i + k → f j ≡ true
all_at f k i h j a b =
    not-false (f j) (none_at (λ j. not (f j)) k i (not-true (any_from (λ j. not (f j)) k i) (sym (all_any f k i) ∙ h)) j a b)

pub at_all : (f : ℕ → Bool) (k i : ℕ) → ((j : ℕ) → i ≤ j → j < i + k → f j ≡ true) → all_from f k i ≡ true
at_all f k i h = all_any f k i ∙ ap not (at_none (λ j. not (f j)) k i (λ j a b. ap not (h j a b)))

-- ---- one number taken away

-- the list in two parts, around the number p
pub list_cut : (f : ℕ → Bool) (k i p : ℕ) → i ≤ p → p < i + k
    → list_from f k i ≡ list_from f (p - i) i ++ keep_if (f p) p (list_from f (i + k - suc p) (suc p))
unfolding list_from
list_cut f k i p a b =
    let m = i + k - suc p in
    let e : k ≡ (p - i) + suc m = omega arith in
    let d : i + (p - i) ≡ p = omega arith in
    ap (λ (n : ℕ). list_from f n i) e ∙ list_split f (p - i) (suc m) i
    ∙ ap (λ (n : ℕ). list_from f (p - i) i ++ list_from f (suc m) n) d

-- g is f without the number p, which f has
module _
    (f g : ℕ → Bool)
    (k i p : ℕ)
    (from : i ≤ p)
    (to : p < i + k)
    (at : f p ≡ true)
    (without : (j : ℕ) → i ≤ j → j < i + k → g j ≡ (f j && not (eqb j p))) where
  same : (j : ℕ) → i ≤ j → j < i + k → (j ≡ p → ⊥) → g j ≡ f j
  same j a b n = without j a b ∙ ap (λ (c : Bool). f j && not c) (ne_eqb j p n) ∙ and-true (f j)

  -- p stands between the others
  pub list_with : list_from f k i ≡ list_from f (p - i) i ++ (p ∷ list_from f (i + k - suc p) (suc p))
  list_with =
      list_cut f k i p from to
      ∙ ap (λ (b : Bool). list_from f (p - i) i ++ keep_if b p (list_from f (i + k - suc p) (suc p))) at

  pub list_without : list_from g k i ≡ list_from f (p - i) i ++ list_from f (i + k - suc p) (suc p)
  list_without =
      let gone : g p ≡ false = without p from to ∙ ap (λ (c : Bool). f p && not c) (eq-eqb p p refl) ∙ and-false (f p) in
      list_cut g k i p from to
      ∙ ap (λ (b : Bool). list_from g (p - i) i ++ keep_if b p (list_from g (i + k - suc p) (suc p))) gone
      ∙ ap₂ ◌++◌
      (list_ext g f (p - i) i (λ j a b. same j a (omega arith) (λ e. omega arith)))
      (list_ext g f (i + k - suc p) (suc p) (λ j a b. same j (omega arith) (omega arith) (λ e. omega arith)))

  -- there is one fewer
  pub count_without : count_from f k i ≡ suc (count_from g k i)
  count_without =
      let low = list_from f (p - i) i in
      let high = list_from f (i + k - suc p) (suc p) in
      let with' : length (list_from f k i) ≡ length low + suc (length high) = ap length list_with ∙ length-append low (p ∷ high) in
      let less : length (list_from g k i) ≡ length low + length high = ap length list_without ∙ length-append low high in
      omega (arith, count_list f k i, count_list g k i)

-- no number has it: an empty list
pub list_nil : (f : ℕ → Bool) (k i : ℕ) → any_from f k i ≡ false → list_from f k i ≡ []
list_nil f k i h = none (list_from f k i) (sym (any_list f k i) ∙ h)
  where
    none : (l : List ℕ) → some l ≡ false → l ≡ []
    none [] e = refl
    none (x ∷ l) e = clash refl e

-- the first, then the others
pub list_next : (f g : ℕ → Bool) (k i : ℕ) → any_from f k i ≡ true
    → ((j : ℕ) → i ≤ j → j < i + k → g j ≡ (f j && not (eqb j (first_from f k i)))) → list_from f k i ≡ first_from f k i ∷ list_from g k i
list_next f g k i h w =
    let p = first_from f k i in
    let first = first_is f k i in
    let low : list_from f (p - i) i ≡ [] = list_nil f (p - i) i (at_none f (p - i) i (λ j a b. first.before j a (omega (arith, first.from)))) in
    let rest = list_from f (i + k - suc p) (suc p) in
    list_with f g k i p first.from (first_below f k i h) (first_has f k i h) w
    ∙ ap (λ (l : List ℕ). l ++ (p ∷ rest)) low
    ∙ sym (ap (λ (l : List ℕ). p ∷ l)
    (list_without f g k i p first.from (first_below f k i h) (first_has f k i h) w ∙ ap (λ (l : List ℕ). l ++ rest) low))

-- ---- the list's elements

elem_keep : (b : Bool) (j i : ℕ) (l : List ℕ) → elem j (keep_if b i l) ≡ (b && eqb j i || elem j l)
unfolding elem any_of
elem_keep true j i l = refl
elem_keep false j i l = refl

elem_skip : (b : Bool) (j i : ℕ) (l : List ℕ) → (j ≡ i → ⊥) → elem j (keep_if b i l) ≡ elem j l
elem_skip b j i l n = elem_keep b j i l ∙ ap (λ (c : Bool). b && c || elem j l) (ne_eqb j i n) ∙ ap (λ (c : Bool). c || elem j l) (and-false b)

-- no number out of the range is an element
pub elem_out : (f : ℕ → Bool) (k i j : ℕ) → (i ≤ j → j < i + k → ⊥) → elem j (list_from f k i) ≡ false
unfolding list_from elem any_of
elem_out f zero i j n = refl
elem_out f (suc k) i j n =
    elem_skip (f i) j i (list_from f k (suc i)) (λ e. n (omega arith) (omega arith))
    ∙ elem_out f k (suc i) j (λ a b. n (omega arith) (omega arith))

-- a number of the range is one exactly if it has f
pub elem_in : (f : ℕ → Bool) (k i j : ℕ) → i ≤ j → j < i + k → elem j (list_from f k i) ≡ f j
unfolding list_from
elem_in f zero i j a b = absurd (omega arith)
elem_in f (suc k) i j a b =
    let l = list_from f k (suc i) in
    ⊎_elim
    (λ (e : i ≡ j).
    elem_keep (f i) j i l
    ∙ ap₂ (λ (c d : Bool). f i && c || d) (eq-eqb j i (sym e)) (elem_out f k (suc i) j (λ x y. omega arith))
    ∙ or-false (f i && true) ∙ and-true (f i) ∙ ap f e)
    (λ (m : i < j). elem_skip (f i) j i l (λ e. omega arith) ∙ elem_in f k (suc i) j m (omega arith))
    (eq-or-lt_of_le a)

-- an element of those below n that have f is below n, and has it
pub elem_below : (f : ℕ → Bool) (n j : ℕ) → elem j (list_from f n 0) ≡ true → (j < n) × (f j ≡ true)
elem_below f n j e =
    ⊎_elim
    (λ l. (l, sym (elem_in f n 0 j (omega arith) (omega arith)) ∙ e))
    (λ l. clash e (elem_out f n 0 j (λ a b. omega arith)))
    (lt_or_ge j n)
