-- Laws of lists (specs/Lists.antt): a property of some or of each element, membership, no element twice, and what stands before what.
-- Assumes nothing.
use mathlib.Core.Path.{◌≡◌, refl, sym, ap, ap₂, ◌∙◌}
use mathlib.Core.Bool.{Bool, true, false, not, ◌&&◌, ◌||◌, or-false, or-true, or_assoc, and-false, and_assoc, false≢true, and-eq-true_iff}
use mathlib.Core.Logic.{◌⊎◌, inl, inr, ⊎_elim}
use mathlib.Core.List.Memᴰ
use mathlib.Core.List.{List, [], ◌∷◌, ◌++◌, append-nil, Memᴰ}
use Prim.Native.Nat.{ℕ, zero, suc, ◌+◌, ◌≤◌, ◌<◌, min}
use native.Mathlib.Nat.{not-suc-le-zero, le_of_suc-le-suc}
use native.Mathlib.Numerals.{add-one}
use native.Mathlib.Omega.{arith}
use lib.Dec.{eqb}
use lib.ListN.{length, get_or, set, take, drop, length-append, drop_of_length-le}
use lib.Seq.{drop-cons, set_at, append_snoc, take-suc, take_all, length-take-le}
use borrow.Author.Tests.{eq-eqb, eqb-true, not-true}
use Rattle.lists.specs.Lists.{any_of, all_of, elem, distinct, same}
use Rattle.lists.proofs.Bools.{clash, and_both, or_left, or_right, or_either, without_or, cases}
use Rattle.lists.proofs.Numbers.{flip, lt_or_ge}

-- ---- two lists together

pub any_append : {A : Type 0} (f : A → Bool) (xs ys : List A) → any_of f (xs ++ ys) ≡ (any_of f xs || any_of f ys)
unfolding any_of
any_append f [] ys = refl
any_append f (x ∷ xs) ys = ap (λ (b : Bool). f x || b) (any_append f xs ys) ∙ sym (or_assoc (f x) (any_of f xs) (any_of f ys))

pub all_append : {A : Type 0} (f : A → Bool) (xs ys : List A) → all_of f (xs ++ ys) ≡ (all_of f xs && all_of f ys)
unfolding all_of
all_append f [] ys = refl
all_append f (x ∷ xs) ys = ap (λ (b : Bool). f x && b) (all_append f xs ys) ∙ sym (and_assoc (f x) (all_of f xs) (all_of f ys))

pub elem_append : (i : ℕ) (xs ys : List ℕ) → elem i (xs ++ ys) ≡ (elem i xs || elem i ys)
unfolding elem
elem_append i xs ys = any_append (eqb i) xs ys

-- what is in one is in the two, and the other way
pub elem_left : (i : ℕ) (xs ys : List ℕ) → elem i xs ≡ true → elem i (xs ++ ys) ≡ true
elem_left i xs ys m = elem_append i xs ys ∙ ap (λ (b : Bool). b || elem i ys) m

pub elem_right : (i : ℕ) (xs ys : List ℕ) → elem i ys ≡ true → elem i (xs ++ ys) ≡ true
elem_right i xs ys m = elem_append i xs ys ∙ rw m (or-true (elem i xs))

pub in_append : (i : ℕ) (xs ys : List ℕ) → elem i (xs ++ ys) ≡ true → (elem i xs ≡ true) ⊎ (elem i ys ≡ true)
in_append i xs ys e = or_either (elem i xs) (elem i ys) (sym (elem_append i xs ys) ∙ e)

-- no element: an empty list
pub length_nil : {A : Type 0} (l : List A) → length l ≡ 0 → l ≡ []
length_nil [] e = refl
length_nil (x ∷ l) e = absurd (omega arith)

-- what has f and is in neither of two lists
pub without_append : (f : Bool) (i : ℕ) (xs ys : List ℕ) → ((f && not (elem i xs)) && not (elem i ys)) ≡ (f && not (elem i (xs ++ ys)))
without_append f i xs ys = without_or f (elem i xs) (elem i ys) ∙ ap (λ (b : Bool). f && not b) (sym (elem_append i xs ys))

-- ---- one element

pub elem_one : (i x : ℕ) → elem i (x ∷ []) ≡ eqb i x
unfolding elem any_of
elem_one i x = or-false (eqb i x)

pub elem_head : (x : ℕ) (xs : List ℕ) → elem x (x ∷ xs) ≡ true
unfolding elem any_of
elem_head x xs = ap (λ (b : Bool). b || elem x xs) (eq-eqb x x refl)

pub elem_tail : (i x : ℕ) (xs : List ℕ) → elem i xs ≡ true → elem i (x ∷ xs) ≡ true
unfolding elem any_of
elem_tail i x xs e = ap (λ (b : Bool). eqb i x || b) e ∙ or-true (eqb i x)

pub in_cons : (i x : ℕ) (xs : List ℕ) → elem i (x ∷ xs) ≡ true → (i ≡ x) ⊎ (elem i xs ≡ true)
unfolding elem any_of
in_cons i x xs e = ⊎_elim (λ p. inl (eqb-true i x p)) (λ p. inr p) (or_either (eqb i x) (elem i xs) e)

-- one more at the end
pub elem_snoc : (i t : ℕ) (xs : List ℕ) → elem i (xs ++ (t ∷ [])) ≡ (elem i xs || eqb i t)
elem_snoc i t xs = elem_append i xs (t ∷ []) ∙ ap (λ (b : Bool). elem i xs || b) (elem_one i t)

pub in_snoc : (i t : ℕ) (xs : List ℕ) → elem i (xs ++ (t ∷ [])) ≡ true → (elem i xs ≡ true) ⊎ (i ≡ t)
in_snoc i t xs e = ⊎_elim (λ p. inl p) (λ p. inr (eqb-true i t p)) (or_either (elem i xs) (eqb i t) (sym (elem_snoc i t xs) ∙ e))

-- what stands at an index is an element
pub elem_at : (xs : List ℕ) (k : ℕ) → k < length xs → elem (get_or xs k 0) xs ≡ true
elem_at [] k h = absurd (not-suc-le-zero h)
elem_at (x ∷ xs) zero h = elem_head x xs
elem_at (x ∷ xs) (suc k) h = elem_tail (get_or xs k 0) x xs (elem_at xs k (le_of_suc-le-suc h))

-- ---- no element twice

-- one more at the end: it is none of the others
pub distinct_snoc : (xs : List ℕ) (y : ℕ) → distinct (xs ++ (y ∷ [])) ≡ (distinct xs && not (elem y xs))
unfolding distinct elem any_of
distinct_snoc [] y = refl
distinct_snoc (x ∷ xs) y =
    ap₂ (λ (a b : Bool). not a && b) (elem_append x xs (y ∷ []) ∙ ap (λ (b : Bool). elem x xs || b) (elem_one x y ∙ flip x y)) (distinct_snoc xs y)
    ∙ turn (elem x xs) (eqb y x) (distinct xs) (elem y xs)
  where
    turn : (a b c d : Bool) → (not (a || b) && (c && not d)) ≡ ((not a && c) && not (b || d))
    turn true b c d = refl
    turn false true true d = refl
    turn false true false d = refl
    turn false false true d = refl
    turn false false false d = refl

-- what has an element twice has it twice with more behind it
pub distinct_front : (xs ys : List ℕ) → distinct xs ≡ false → distinct (xs ++ ys) ≡ false
unfolding distinct
distinct_front [] ys e = clash refl e
distinct_front (x ∷ xs) ys e =
    ap (λ (b : Bool). not b && distinct (xs ++ ys)) (elem_append x xs ys)
    ∙ cases (elem x xs) (λ m. rw m) (λ m. rw (m, distinct_front xs ys (rw m at e)) (and-false (not (elem x ys))))

-- what is in one list is not in the other, where none comes twice
pub distinct_apart : (xs ys : List ℕ) (i : ℕ) → distinct (xs ++ ys) ≡ true → elem i xs ≡ true → elem i ys ≡ false
unfolding distinct elem any_of
distinct_apart [] ys i d e = clash e refl
distinct_apart (x ∷ xs) ys i d e =
    let b = and_both (not (elem x (xs ++ ys))) (distinct (xs ++ ys)) d in
    ⊎_elim
    (λ z. rw z (or_right (elem x xs) (elem x ys) (sym (elem_append x xs ys) ∙ not-true (elem x (xs ++ ys)) b.0)))
    (λ m. distinct_apart xs ys i b.1 m)
    (in_cons i x xs e)

-- ---- a room whose start is written

-- one more at the next place
pub written_next : {A : Type 0} (new room : List A) (k : ℕ) (x : A) → length new ≡ k → k < length room
    → set (new ++ drop k room) k x ≡ (new ++ (x ∷ [])) ++ drop (k + 1) room
written_next new room k x e l =
    rw (add-one, drop-cons room k x l, set_at new (get_or room k x) (drop (suc k) room) x k e) (sym (append_snoc new x (drop (suc k) room)))

-- ---- a list copied to the start of a room

pub copied_next : {A : Type 0} (xs room : List A) (i : ℕ) (x : A) → i < length xs → i < length room → x ≡ get_or xs i x
    → set (take i xs ++ drop i room) i x ≡ take (i + 1) xs ++ drop (i + 1) room
copied_next {A} xs room i x h k e =
    written_next (take i xs) room i x (length-take-le i xs (omega arith)) k
    ∙ ap (λ (l : List A). l ++ drop (i + 1) room)
    (ap (λ (y : A). take i xs ++ (y ∷ [])) e ∙ sym (take-suc xs i x h) ∙ ap (λ (n : ℕ). take n xs) (sym (add-one i)))

-- as much as there is room for
pub copied_most : {A : Type 0} (xs room : List A) (i : ℕ) → i ≡ min (length xs) (length room)
    → take i xs ++ drop i room ≡ take (length room) xs ++ drop (length xs) room
copied_most xs room i e =
    ⊎_elim
    (λ (l : length xs < length room).
    let all : i ≡ length xs = omega (arith, e) in
    rw (all, take_all (length xs) xs (omega arith), take_all (length room) xs (omega arith)))
    (λ (l : length room ≤ length xs).
    let all : i ≡ length room = omega (arith, e) in
    ap₂ ◌++◌ (ap (λ (n : ℕ). take n xs) all)
    (drop_of_length-le room {i = i} (omega (arith, all)) ∙ sym (drop_of_length-le room {i = length xs} l)))
    (lt_or_ge (length xs) (length room))

-- and all of it, where there is just the room
pub copied_whole : {A : Type 0} (xs room : List A) → length room ≡ length xs → take (length room) xs ++ drop (length xs) room ≡ xs
copied_whole xs room e =
    ap₂ ◌++◌ (take_all (length room) xs (omega (arith, e))) (drop_of_length-le room (omega (arith, e))) ∙ append-nil xs

-- ---- what stands before what

-- each stands behind those below n on which it depends
abbrev pub After : ℕ → (ℕ → ℕ → Bool) → List ℕ → Type 0
After n dep l = (xs ys : List ℕ) (i a : ℕ) → l ≡ xs ++ (i ∷ ys) → a < n → dep i a ≡ true → (a ≡ i → ⊥) → elem a xs ≡ true

-- none stands there
pub after_none : (n : ℕ) (dep : ℕ → ℕ → Bool) → After n dep []
after_none n dep xs ys i a e l p q =
    let z : length (xs ++ (i ∷ ys)) ≡ 0 = ap length (sym e) in absurd (omega (arith, length-append xs (i ∷ ys)))

-- of a list with one more at its end what stands in front of an element: all but the last, and it is the last; or a part of what was there
pub split_snoc : (l : List ℕ) (t : ℕ) (xs ys : List ℕ) (i : ℕ) → l ++ (t ∷ []) ≡ xs ++ (i ∷ ys)
    → ((xs ≡ l) × (i ≡ t)) ⊎ ((zs : List ℕ) × (l ≡ xs ++ (i ∷ zs)))
split_snoc [] t [] ys i e = inl (refl, (cc))
split_snoc [] t (x ∷ xs) ys i e =
    let z : [] ≡ xs ++ (i ∷ ys) = cc in
    let n : length (xs ++ (i ∷ ys)) ≡ 0 = ap length (sym z) in
    absurd (omega (arith, length-append xs (i ∷ ys)))
split_snoc (o ∷ l) t [] ys i e = inr (l, (cc))
split_snoc (o ∷ l) t (x ∷ xs) ys i e =
    let head : o ≡ x = cc in
    let tail : l ++ (t ∷ []) ≡ xs ++ (i ∷ ys) = cc in
    ⊎_elim
    (λ p. inl (ap₂ ◌∷◌ (sym head) p.0, p.1))
    (λ p. inr (p.0, ap₂ ◌∷◌ head p.1))
    (split_snoc l t xs ys i tail)

-- one more, where what it depends on is there
pub after_snoc : (n : ℕ) (dep : ℕ → ℕ → Bool) (l : List ℕ) (t : ℕ) → ((a : ℕ) → a < n → dep t a ≡ true → (a ≡ t → ⊥) → elem a l ≡ true)
    → After n dep l → After n dep (l ++ (t ∷ []))
after_snoc n dep l t there h xs ys i a e m p q =
    ⊎_elim
    (λ z. rw z.0 (there a m (rw z.1 at p) (rw z.1 at q)))
    (λ z. h xs z.0 i a z.1 m p q)
    (split_snoc l t xs ys i e)

-- ---- some and each, by the elements

-- no element has it: none that is in the list
pub any_none : (f : ℕ → Bool) (xs : List ℕ) → any_of f xs ≡ false → (i : ℕ) → elem i xs ≡ true → f i ≡ false
unfolding elem any_of
any_none f [] n i e = clash e refl
any_none f (x ∷ xs) n i e =
    ⊎_elim
    (λ z. ap f z ∙ or_left (f x) (any_of f xs) n)
    (λ m. any_none f xs (or_right (f x) (any_of f xs) n) i m)
    (in_cons i x xs e)

pub none_any : (f : ℕ → Bool) (xs : List ℕ) → ((i : ℕ) → elem i xs ≡ true → f i ≡ false) → any_of f xs ≡ false
unfolding elem any_of
none_any f [] h = refl
none_any f (x ∷ xs) h =
    ap (λ (b : Bool). b || any_of f xs) (h x (elem_head x xs)) ∙ none_any f xs (λ i e. h i (elem_tail i x xs e))

-- each element has the property
unfoldable pub Each : {A : Type 0} → (A → Type 0) → List A → Type 0
Each P [] = Unit {0}
Each P (x ∷ xs) = P x × Each P xs

pub each_snoc : {A : Type 0} (P : A → Type 0) (xs : List A) {x : A} → Each P xs → P x → Each P (xs ++ (x ∷ []))
unfolding Each
each_snoc P [] p h = (h, tt)
each_snoc P (y ∷ xs) p h = (p.0, each_snoc P xs p.1 h)

pub each_at : {A : Type 0} (P : A → Type 0) (xs : List A) (d : A) → Each P xs → (i : ℕ) → i < length xs → P (get_or xs i d)
unfolding Each
each_at P [] d p i h = absurd (not-suc-le-zero h)
each_at P (x ∷ xs) d p zero h = p.0
each_at P (x ∷ xs) d p (suc i) h = each_at P xs d p.1 i (le_of_suc-le-suc h)

pub each_mem : {A : Type 0} (P : A → Type 0) (xs : List A) → Each P xs → (x : A) → Memᴰ x xs → P x
unfolding Each
each_mem P [] p x m = absurd (Memᴰ.not-nil m)
each_mem P (y ∷ xs) p x m = ⊎_elim (λ e. rw e p.0) (λ n. each_mem P xs p.1 x n) (Memᴰ.cases_cons m)

-- ---- tables

-- a test that holds of a whole list holds of each of its elements
pub each : {A : Type 0} (f : A → Bool) {x : A} (xs : List A) → all_of f xs ≡ true → Memᴰ x xs → f x ≡ true
unfolding all_of
each f [] e m = absurd (Memᴰ.not-nil m)
each f (y ∷ ys) e m =
    let b = (and-eq-true_iff (f y) (all_of f ys)).0 e in
    ⊎_elim (λ q. ap f q ∙ b.0) (λ n. each f ys b.1 n) (Memᴰ.cases_cons m)

pub same_is : (xs ys : List ℕ) → same xs ys ≡ true → xs ≡ ys
unfolding same
same_is [] [] e = refl
same_is [] (y ∷ ys) e = absurd (false≢true e)
same_is (x ∷ xs) [] e = absurd (false≢true e)
same_is (x ∷ xs) (y ∷ ys) e =
    let b = (and-eq-true_iff (eqb x y) (same xs ys)).0 e in
    ap₂ ◌∷◌ (eqb-true x y b.0) (same_is xs ys b.1)
