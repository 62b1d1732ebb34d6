-- Those of a list that have a property, lists of lists put together, and lists in which no number comes twice. Assumes nothing.
use mathlib.Core.Path.{◌≡◌, refl, sym, ap, ap₂, ◌∙◌}
use mathlib.Core.Bool.{Bool, true, false, not, ◌&&◌, ◌||◌, and-false}
use mathlib.Core.Logic.{⊎_elim}
use mathlib.Core.List.{List, [], ◌∷◌, ◌++◌, map, flatten, append-nil, append_assoc}
use Prim.Native.Nat.{ℕ, zero, suc, ◌+◌, ◌≤◌, ◌<◌}
use native.Mathlib.Nat.{add-zero, zero-add, not-suc-le-zero, le_of_suc-le-suc}
use native.Mathlib.Omega.{arith}
use lib.Dec.{eqb}
use lib.ListN.{length, get_or, take}
use borrow.Author.Tests.{eq-eqb, eqb-true, not-true}
use Rattle.lists.specs.Below.{keep_if, bit, count_from, list_from}
use Rattle.lists.specs.Lists.{any_of, only, elem, distinct}
use Rattle.lists.proofs.Bools.{clash, and_both, cases, is_false}
use Rattle.lists.proofs.Ranges.{count_all, count_parts}
use Rattle.lists.proofs.Lists.{elem_append, elem_left, elem_right, elem_head, elem_tail, in_cons, in_append}
use Rattle.lists.proofs.Once.{Once, once_missing}

-- ---- those that have a property

elem_kept : (f : ℕ → Bool) (x : ℕ) (xs ys : List ℕ) (i : ℕ) (b : Bool) → f x ≡ b → elem i ys ≡ (elem i xs && f i)
    → elem i (keep_if b x ys) ≡ (elem i (x ∷ xs) && f i)
unfolding elem any_of
elem_kept f x xs ys i true e h = cases (eqb i x) (λ q. rw q (sym (ap f (eqb-true i x q) ∙ e))) (λ q. rw q h)
elem_kept f x xs ys i false e h =
    cases (eqb i x)
    (λ q. let w : f i ≡ false = ap f (eqb-true i x q) ∙ e in h ∙ rw w (and-false (elem i xs) ∙ sym (and-false (eqb i x || elem i xs))))
    (λ q. rw q h)

pub elem_only : (f : ℕ → Bool) (xs : List ℕ) (i : ℕ) → elem i (only f xs) ≡ (elem i xs && f i)
unfolding only elem any_of
elem_only f [] i = refl
elem_only f (x ∷ xs) i = elem_kept f x xs (only f xs) i (f x) refl (elem_only f xs i)

distinct_kept : (b : Bool) (x : ℕ) (xs : List ℕ) → elem x xs ≡ false → distinct xs ≡ true → distinct (keep_if b x xs) ≡ true
unfolding distinct
distinct_kept true x xs e d = ap₂ (λ (b c : Bool). not b && c) e d
distinct_kept false x xs e d = d

pub distinct_only : (f : ℕ → Bool) (xs : List ℕ) → distinct xs ≡ true → distinct (only f xs) ≡ true
unfolding only distinct
distinct_only f [] d = refl
distinct_only f (x ∷ xs) d =
    let b = and_both (not (elem x xs)) (distinct xs) d in
    distinct_kept (f x) x (only f xs) (elem_only f xs x ∙ ap (λ (c : Bool). c && f x) (not-true (elem x xs) b.0)) (distinct_only f xs b.1)

-- properties that agree on the list
pub only_ext : (f g : ℕ → Bool) (xs : List ℕ) → ((i : ℕ) → elem i xs ≡ true → f i ≡ g i) → only f xs ≡ only g xs
unfolding only
only_ext f g [] h = refl
only_ext f g (x ∷ xs) h =
    ap₂ (λ (b : Bool) (l : List ℕ). keep_if b x l) (h x (elem_head x xs)) (only_ext f g xs (λ i m. h i (elem_tail i x xs m)))

-- who has f has g: those of the ones with g that have f
pub only_within : (f g : ℕ → Bool) (xs : List ℕ) → ((i : ℕ) → f i ≡ true → g i ≡ true) → only f (only g xs) ≡ only f xs
unfolding only
only_within f g [] h = refl
only_within f g (x ∷ xs) h = kept (g x) refl ∙ ap (keep_if (f x) x) (only_within f g xs h)
  where
    kept : (b : Bool) → g x ≡ b → only f (keep_if b x (only g xs)) ≡ keep_if (f x) x (only f (only g xs))
    kept true e = refl
    kept false e = ap (λ (c : Bool). keep_if c x (only f (only g xs))) (sym (is_false (f x) (λ q. clash (h x q) e)))

only_none : (f : ℕ → Bool) (xs : List ℕ) → ((i : ℕ) → elem i xs ≡ true → f i ≡ false) → only f xs ≡ []
unfolding only
only_none f [] h = refl
only_none f (x ∷ xs) h =
    ap₂ (λ (b : Bool) (l : List ℕ). keep_if b x l) (h x (elem_head x xs)) (only_none f xs (λ i m. h i (elem_tail i x xs m)))

-- a property of one number, which stands in the list once
pub only_one : (f : ℕ → Bool) (s : ℕ) (xs : List ℕ) → ((i : ℕ) → f i ≡ eqb i s) → distinct xs ≡ true → elem s xs ≡ true → only f xs ≡ s ∷ []
unfolding only distinct elem any_of
only_one f s [] e d m = clash m refl
only_one f s (x ∷ xs) e d m =
    let b = and_both (not (elem x xs)) (distinct xs) d in
    let out : (i : ℕ) → i ≡ x → elem i xs ≡ true → f i ≡ false =
    λ i z q. clash (ap (λ (j : ℕ). elem j xs) (sym z) ∙ q) (not-true (elem x xs) b.0) in
    ⊎_elim
    (λ (z : s ≡ x).
    ap₂ (λ (b : Bool) (l : List ℕ). keep_if b x l) (e x ∙ eq-eqb x s (sym z))
    (only_none f xs (λ i q. is_false (f i) (λ w. out i (eqb-true i s (sym (e i) ∙ w) ∙ z) q)))
    ∙ ap (λ (j : ℕ). j ∷ []) (sym z))
    (λ (q : elem s xs ≡ true).
    ap₂ (λ (b : Bool) (l : List ℕ). keep_if b x l)
    (is_false (f x) (λ w. clash (ap (λ (j : ℕ). elem j xs) (eqb-true x s (sym (e x) ∙ w)) ∙ q) (not-true (elem x xs) b.0)))
    (only_one f s xs e b.1 q))
    (in_cons s x xs m)

pub length_only : (f : ℕ → Bool) (xs : List ℕ) → length (only f xs) ≤ length xs
unfolding only
length_only f [] = omega arith
length_only f (x ∷ xs) = kept (f x) (length_only f xs)
  where
    kept : (b : Bool) → length (only f xs) ≤ length xs → length (keep_if b x (only f xs)) ≤ suc (length xs)
    kept true h = omega arith
    kept false h = omega arith

pub only_append : (f : ℕ → Bool) (xs ys : List ℕ) → only f (xs ++ ys) ≡ only f xs ++ only f ys
unfolding only
only_append f [] ys = refl
only_append f (x ∷ xs) ys =
    let rest = only_append f xs ys in cases (f x) (λ e. rw e (ap (λ (l : List ℕ). x ∷ l) rest)) (λ e. rw e rest)

-- the first that has it stands no later than any that has it
pub only_first : (f : ℕ → Bool) (xs : List ℕ) (i d : ℕ) → i < length xs → f (get_or xs i 0) ≡ true
    → elem (get_or (only f xs) 0 d) (take (suc i) xs) ≡ true
unfolding only
only_first f [] i d l e = absurd (not-suc-le-zero l)
only_first f (x ∷ xs) zero d l e = rw e (elem_head x [])
only_first f (x ∷ xs) (suc i) d l e =
    cases (f x) (λ q. rw q (elem_head x (take (suc i) xs)))
    (λ q. rw q (elem_tail (get_or (only f xs) 0 d) x (take (suc i) xs) (only_first f xs i d (le_of_suc-le-suc l) e)))

-- the places of those that have it, upwards: `ys` goes on from place d as `xs` does
places : (f : ℕ → Bool) (ys xs : List ℕ) (d : ℕ) → ((j : ℕ) → get_or ys (d + j) 0 ≡ get_or xs j 0)
    → map (λ j. get_or ys j 0) (list_from (λ j. f (get_or ys j 0)) (length xs) d) ≡ only f xs
unfolding only list_from
places f ys [] d h = refl
places f ys (x ∷ xs) d h =
    let z : get_or ys d 0 ≡ x = ap (λ (n : ℕ). get_or ys n 0) (sym (add-zero d)) ∙ h 0 in
    let rest = places f ys xs (suc d) (λ j. ap (λ (n : ℕ). get_or ys n 0) (omega arith) ∙ h (suc j)) in
    cases (f x) (λ e. rw (e, ap f z ∙ e) (ap₂ ◌∷◌ z rest)) (λ e. rw (e, ap f z ∙ e) rest)

pub only_places : (f : ℕ → Bool) (xs : List ℕ) → map (λ j. get_or xs j 0) (list_from (λ j. f (get_or xs j 0)) (length xs) 0) ≡ only f xs
only_places f xs = places f xs xs 0 (λ j. ap (λ (n : ℕ). get_or xs n 0) (zero-add j))

-- ---- what stands where

pub get_d_map : {A B : Type 0} (f : A → B) (l : List A) (i : ℕ) (c : A) (d : B) → i < length l → get_or (map f l) i d ≡ f (get_or l i c)
get_d_map f [] i c d h = absurd (not-suc-le-zero h)
get_d_map f (x ∷ l) zero c d h = refl
get_d_map f (x ∷ l) (suc i) c d h = get_d_map f l i c d (le_of_suc-le-suc h)

-- an element has a place
pub place_of : (xs : List ℕ) (i : ℕ) → elem i xs ≡ true → (k : ℕ) × (k < length xs) × (get_or xs k 0 ≡ i)
unfolding elem any_of
place_of [] i e = clash e refl
place_of (x ∷ xs) i e =
    ⊎_elim
    (λ z. (0, (omega arith), sym z))
    (λ m. let u = place_of xs i m in (suc u.0, (omega (arith, u.1)), u.2))
    (in_cons i x xs e)

-- where there is an element the first is one, whatever stands for it elsewhere
pub first_elem : (xs : List ℕ) (d : ℕ) → elem d xs ≡ true → elem (get_or xs 0 d) xs ≡ true
first_elem [] d e = e
first_elem (x ∷ xs) d e = elem_head x xs

pub first_same : (xs : List ℕ) (i c d : ℕ) → elem i xs ≡ true → get_or xs 0 c ≡ get_or xs 0 d
unfolding elem any_of
first_same [] i c d e = clash e refl
first_same (x ∷ xs) i c d e = refl

-- ---- none twice

-- numbers below n, none of them twice, are as many as there are numbers below n in the list
pub once_count : (n : ℕ) (l : List ℕ) → Once n l → length l ≡ count_from (λ i. elem i l) n 0
once_count n l h =
    omega (arith, once_missing n l h, count_all n 0, count_parts (λ i. true) (λ i. elem i l) (λ i. not (elem i l)) n 0 (λ j. go (elem j l)))
  where
    go : (b : Bool) → bit true ≡ bit b + bit (not b)
    go true = refl
    go false = refl

pub distinct_append : (xs ys : List ℕ) → distinct xs ≡ true → distinct ys ≡ true → ((i : ℕ) → elem i xs ≡ true → elem i ys ≡ false)
    → distinct (xs ++ ys) ≡ true
unfolding distinct
distinct_append [] ys d e h = e
distinct_append (x ∷ xs) ys d e h =
    let b = and_both (not (elem x xs)) (distinct xs) d in
    ap₂ (λ (b c : Bool). not b && c)
    (elem_append x xs ys ∙ ap₂ ◌||◌ (not-true (elem x xs) b.0) (h x (elem_head x xs)))
    (distinct_append xs ys b.1 e (λ i m. h i (elem_tail i x xs m)))

-- ---- lists of lists put together

pub flatten_append : (xss yss : List (List ℕ)) → flatten (xss ++ yss) ≡ flatten xss ++ flatten yss
unfolding flatten
flatten_append [] yss = refl
flatten_append (xs ∷ xss) yss = ap (λ (l : List ℕ). xs ++ l) (flatten_append xss yss) ∙ sym (append_assoc xs (flatten xss) (flatten yss))

pub flatten_snoc : (xss : List (List ℕ)) (xs : List ℕ) → flatten (xss ++ (xs ∷ [])) ≡ flatten xss ++ xs
unfolding flatten
flatten_snoc xss xs = flatten_append xss (xs ∷ []) ∙ ap (λ (l : List ℕ). flatten xss ++ l) (append-nil xs)

-- one of the lists that has x
pub record Among (f : ℕ → List ℕ) (ls : List ℕ) (x : ℕ) : Type 0 where
  pub of : ℕ
  pub listed : elem of ls ≡ true
  pub here : elem x (f of) ≡ true

pub in_flatten : (f : ℕ → List ℕ) (ls : List ℕ) (x : ℕ) → elem x (flatten (map f ls)) ≡ true → Among f ls x
unfolding flatten elem any_of
in_flatten f [] x e = clash e refl
in_flatten f (l ∷ ls) x e =
    ⊎_elim
    (λ m. record { of = l; listed = elem_head l ls; here = m })
    (λ m. let u = in_flatten f ls x m in record { of = u.of; listed = elem_tail u.of l ls u.listed; here = u.here })
    (in_append x (f l) (flatten (map f ls)) e)

pub flatten_in : (f : ℕ → List ℕ) (ls : List ℕ) (x l : ℕ) → elem l ls ≡ true → elem x (f l) ≡ true → elem x (flatten (map f ls)) ≡ true
unfolding flatten elem any_of
flatten_in f [] x l m e = clash m refl
flatten_in f (k ∷ ls) x l m e =
    ⊎_elim
    (λ z. elem_left x (f k) (flatten (map f ls)) (rw z at e))
    (λ n. elem_right x (f k) (flatten (map f ls)) (flatten_in f ls x l n e))
    (in_cons l k ls m)

-- lists without repeats, of which each element tells its list
pub distinct_flatten : (f : ℕ → List ℕ) (h : ℕ → ℕ) (ls : List ℕ) → distinct ls ≡ true → ((l : ℕ) → elem l ls ≡ true → distinct (f l) ≡ true)
    → ((l x : ℕ) → elem l ls ≡ true → elem x (f l) ≡ true → h x ≡ l) → distinct (flatten (map f ls)) ≡ true
unfolding flatten distinct
distinct_flatten f h [] d each tells = refl
distinct_flatten f h (l ∷ ls) d each tells =
    let b = and_both (not (elem l ls)) (distinct ls) d in
    distinct_append (f l) (flatten (map f ls)) (each l (elem_head l ls))
    (distinct_flatten f h ls b.1 (λ k m. each k (elem_tail k l ls m)) (λ k x m. tells k x (elem_tail k l ls m)))
    (λ x m. is_false (elem x (flatten (map f ls))) (λ e.
    let u = in_flatten f ls x e in
    let z : u.of ≡ l = sym (tells u.of x (elem_tail u.of l ls u.listed) u.here) ∙ tells l x (elem_head l ls) m in
    clash (rw z at u.listed) (not-true (elem l ls) b.0)))
