-- Lists of numbers: how many numbers below a bound a list leaves out, and lists in which none comes twice. Assumes nothing.
use mathlib.Core.Path.{◌≡◌, refl, sym, ap, ap₂, ◌∙◌}
use mathlib.Core.Bool.{Bool, true, false, not, ◌&&◌, ◌||◌, and-true, or_comm, or-false}
use mathlib.Core.Logic.{⊎_elim}
use mathlib.Core.List.{List, [], ◌∷◌, ◌++◌}
use Prim.Native.Nat.{ℕ, suc, ◌+◌, ◌≤◌, ◌<◌}
use native.Mathlib.Omega.{arith}
use lib.Dec.{eqb}
use lib.ListN.{length}
use borrow.Author.Tests.{eqb-true, ne_eqb, not-true, not-false}
use Rattle.lists.specs.Below.{bit, count_from}
use Rattle.lists.specs.Lists.{any_of, elem, distinct}
use Rattle.lists.proofs.Bools.{clash, and_both, not_or, is_false, cases}
use Rattle.lists.proofs.Below.{count_ext, count_without}
use Rattle.lists.proofs.Ranges.{count_all, count_none, count_zero, count_but, count_parts}
use Rattle.lists.proofs.Lists.{elem_snoc, elem_head, elem_tail, in_snoc, distinct_snoc}

-- ---- what a list leaves out

-- how many numbers below n are not in the list
abbrev pub missing : ℕ → List ℕ → ℕ
missing n l = count_from (λ i. not (elem i l)) n 0

-- of the empty list all are missing
pub missing_all : (n : ℕ) → missing n [] ≡ n
unfolding elem any_of
missing_all n = count_all n 0

-- none is missing exactly if each is there
pub none_missing : (n : ℕ) (l : List ℕ) → missing n l ≤ 0 → (i : ℕ) → i < n → elem i l ≡ true
none_missing n l e i h = not-false (elem i l) (count_zero (λ i. not (elem i l)) n e i h)

pub all_there : (n : ℕ) (l : List ℕ) → ((i : ℕ) → i < n → elem i l ≡ true) → missing n l ≡ 0
all_there n l h = count_none (λ i. not (elem i l)) n (λ i b. ap not (h i b))

-- m has what l has, and t
module _ (n t : ℕ) (l m : List ℕ) (more : (j : ℕ) → elem j m ≡ (elem j l || eqb j t)) where
  -- one fewer is missing, where t is below n and was missing
  pub missing_fewer : t < n → elem t l ≡ false → missing n l ≡ suc (missing n m)
  missing_fewer b e =
      count_without (λ i. not (elem i l)) (λ i. not (elem i m)) n 0 t (omega arith) (omega arith) (ap not e)
      (λ j _ _. ap not (more j) ∙ not_or (elem j l) (eqb j t))

  -- and as many, where it was not
  pub missing_same : (t < n → elem t l ≡ true) → missing n m ≡ missing n l
  missing_same h = count_ext (λ i. not (elem i m)) (λ i. not (elem i l)) n 0 (λ j _ b. ap not (more j ∙ there j (omega arith)))
    where
      there : (j : ℕ) → j < n → (elem j l || eqb j t) ≡ elem j l
      there j b = cases (eqb j t) (λ e. let z : j ≡ t = eqb-true j t e in rw (z, h (rw z at b))) (λ e. rw e (or-false (elem j l)))

-- one more at the end, or at the head
pub missing_snoc : (n : ℕ) (l : List ℕ) (t : ℕ) → t < n → elem t l ≡ false → missing n l ≡ suc (missing n (l ++ (t ∷ [])))
missing_snoc n l t = missing_fewer n t l (l ++ (t ∷ [])) (λ j. elem_snoc j t l)

elem_cons : (j x : ℕ) (xs : List ℕ) → elem j (x ∷ xs) ≡ (elem j xs || eqb j x)
unfolding elem any_of
elem_cons j x xs = or_comm (eqb j x) (elem j xs)

pub missing_cons : (n : ℕ) (l : List ℕ) (t : ℕ) → t < n → elem t l ≡ false → missing n l ≡ suc (missing n (t ∷ l))
missing_cons n l t = missing_fewer n t l (t ∷ l) (λ j. elem_cons j t l)

pub missing_again : (n : ℕ) (l : List ℕ) (t : ℕ) → (t < n → elem t l ≡ true) → missing n (t ∷ l) ≡ missing n l
missing_again n l t = missing_same n t l (t ∷ l) (λ j. elem_cons j t l)

-- ---- none twice

-- numbers below n, none of them twice
pub record Once (n : ℕ) (l : List ℕ) : Type 0 where
  pub below : (i : ℕ) → elem i l ≡ true → i < n
  pub once : distinct l ≡ true

pub once_none : (n : ℕ) → Once n []
unfolding distinct elem any_of
once_none n = record { below = λ i e. clash e refl; once = refl }

pub once_more : (n : ℕ) (l : List ℕ) (t : ℕ) → t < n → elem t l ≡ false → Once n l → Once n (l ++ (t ∷ []))
once_more n l t b e h = record {
  below = λ i m. ⊎_elim (λ p. h.below i p) (λ p. omega arith) (in_snoc i t l m);
  once = distinct_snoc l t ∙ ap₂ (λ (c d : Bool). c && not d) h.once e;
}

-- they and what is missing are n together
pub once_missing : (n : ℕ) (l : List ℕ) → Once n l → length l + missing n l ≡ n
unfolding distinct
once_missing n [] h = omega (arith, missing_all n)
once_missing n (x ∷ xs) h =
    let d = and_both (not (elem x xs)) (distinct xs) h.once in
    omega (
      arith,
      missing_cons n xs x (h.below x (elem_head x xs)) (not-true (elem x xs) d.0),
      once_missing n xs (record { below = λ i m. h.below i (elem_tail i x xs m); once = d.1 }),
    )

-- ---- no more than a list has

-- numbers that are all in a list are no more than its elements
pub count_in : (c : List ℕ) (f : ℕ → Bool) (k : ℕ) → ((j : ℕ) → f j ≡ true → elem j c ≡ true) → count_from f k 0 ≤ length c
unfolding elem any_of
count_in [] f k h = omega (arith, count_none f k (λ j _. is_false (f j) (λ e. e ∙ sym (h j e))))
count_in (x ∷ xs) f k h =
    let g : ℕ → Bool = λ j. f j && not (eqb j x) in
    omega (arith, count_but f g x k 0 (λ j n. rw (ne_eqb j x n) (sym (and-true (f j)))), count_in xs g k later)
  where
    later : (j : ℕ) → (f j && not (eqb j x)) ≡ true → elem j xs ≡ true
    later j e =
        let p = and_both (f j) (not (eqb j x)) e in
        ap (λ (b : Bool). b || elem j xs) (sym (not-true (eqb j x) p.1)) ∙ h j p.0

-- so a list leaves out n less its elements at least
pub missing_least : (n : ℕ) (l : List ℕ) → n ≤ length l + missing n l
missing_least n l =
    omega (
      arith,
      count_all n 0,
      count_parts (λ i. true) (λ i. elem i l) (λ i. not (elem i l)) n 0 (λ j. go (elem j l)),
      count_in l (λ i. elem i l) n (λ j e. e),
    )
  where
    go : (b : Bool) → bit true ≡ bit b + bit (not b)
    go true = refl
    go false = refl
