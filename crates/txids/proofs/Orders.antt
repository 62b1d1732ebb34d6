-- Laws of the order of lists, first element first, and of the test whether two are the same. Assumes nothing.
use Prim.Native.Nat.{ℕ, ◌<◌}
use native.Mathlib.Omega.{arith}
use mathlib.Core.Path.{◌≡◌, refl, sym, ap, ap₂, ◌∙◌}
use mathlib.Core.Bool.{Bool, true, false, ◌&&◌, cond}
use mathlib.Core.Logic.{⊎_elim}
use mathlib.Core.List.{List, [], ◌∷◌, ◌++◌}
use lib.Dec.{eqb, ltb}
use lib.ListN.{length}
use borrow.Author.Tests.{lt-ltb, le-ltb, eq-eqb, ne_eqb}
use Rattle.lists.specs.Lists.{same}
use Rattle.lists.proofs.Bools.{clash}
use Rattle.lists.proofs.Numbers.{lt_or_ge}
use Rattle.txids.specs.Txids.{lex_before}

-- two numbers are in order, in the other order, or equal
pub by_order : {A : Type 0} (x y : ℕ) → (x < y → A) → (y < x → A) → (x ≡ y → A) → A
by_order x y l g e = ⊎_elim l (λ p. ⊎_elim g (λ q. e (omega arith)) (lt_or_ge y x)) (lt_or_ge x y)

-- ---- by the first elements

module _ (x y : ℕ) (xs ys : List ℕ) where
  pub lex_heads : (x ≡ y → ⊥) → lex_before (x ∷ xs) (y ∷ ys) ≡ ltb x y
  unfolding lex_before
  lex_heads n = ap (λ (b : Bool). cond b (lex_before xs ys) (ltb x y)) (ne_eqb x y n)

  pub lex_tails : x ≡ y → lex_before (x ∷ xs) (y ∷ ys) ≡ lex_before xs ys
  unfolding lex_before
  lex_tails e = ap (λ (b : Bool). cond b (lex_before xs ys) (ltb x y)) (eq-eqb x y e)

  pub lex_lt : x < y → lex_before (x ∷ xs) (y ∷ ys) ≡ true
  lex_lt l = lex_heads (λ e. omega arith) ∙ lt-ltb x y l

  pub lex_gt : y < x → lex_before (x ∷ xs) (y ∷ ys) ≡ false
  lex_gt l = lex_heads (λ e. omega arith) ∙ le-ltb x y (omega arith)

  pub same_heads : (x ≡ y → ⊥) → same (x ∷ xs) (y ∷ ys) ≡ false
  unfolding same
  same_heads n = ap (λ (b : Bool). b && same xs ys) (ne_eqb x y n)

  pub same_tails : x ≡ y → same (x ∷ xs) (y ∷ ys) ≡ same xs ys
  unfolding same
  same_tails e = ap (λ (b : Bool). b && same xs ys) (eq-eqb x y e)

-- ---- a strict total order

pub lex_irreflexive : (xs : List ℕ) → lex_before xs xs ≡ false
unfolding lex_before
lex_irreflexive [] = refl
lex_irreflexive (x ∷ xs) = lex_tails x x xs xs refl ∙ lex_irreflexive xs

pub lex_transitive : (xs ys zs : List ℕ) → lex_before xs ys ≡ true → lex_before ys zs ≡ true → lex_before xs zs ≡ true
unfolding lex_before
lex_transitive [] [] zs p q = clash refl (sym p)
lex_transitive [] (y ∷ ys) [] p q = clash refl (sym q)
lex_transitive [] (y ∷ ys) (z ∷ zs) p q = refl
lex_transitive (x ∷ xs) [] zs p q = clash refl (sym p)
lex_transitive (x ∷ xs) (y ∷ ys) [] p q = clash refl (sym q)
lex_transitive (x ∷ xs) (y ∷ ys) (z ∷ zs) p q =
    let r = lex_transitive xs ys zs in
    by_order x y
    (λ l. by_order y z
    (λ m. lex_lt x z xs zs (omega arith))
    (λ m. clash q (lex_gt y z ys zs m))
    (λ m. lex_lt x z xs zs (omega arith)))
    (λ l. clash p (lex_gt x y xs ys l))
    (λ l. by_order y z
    (λ m. lex_lt x z xs zs (omega arith))
    (λ m. clash q (lex_gt y z ys zs m))
    (λ m. lex_tails x z xs zs (l ∙ m) ∙ r (sym (lex_tails x y xs ys l) ∙ p) (sym (lex_tails y z ys zs m) ∙ q)))

-- of two that differ, one comes first
pub lex_total : (xs ys : List ℕ) → lex_before xs ys ≡ false → lex_before ys xs ≡ false → xs ≡ ys
unfolding lex_before
lex_total [] [] p q = refl
lex_total [] (y ∷ ys) p q = clash refl p
lex_total (x ∷ xs) [] p q = clash refl q
lex_total (x ∷ xs) (y ∷ ys) p q =
    let r = lex_total xs ys in
    by_order x y
    (λ l. clash (lex_lt x y xs ys l) p)
    (λ l. clash (lex_lt y x ys xs l) q)
    (λ l. ap₂ ◌∷◌ l (r (sym (lex_tails x y xs ys l) ∙ p) (sym (lex_tails y x ys xs (sym l)) ∙ q)))

-- ---- lists in parts of equal length

pub lex_append : (xs ys us vs : List ℕ) → length xs ≡ length ys
    → lex_before (xs ++ us) (ys ++ vs) ≡ cond (same xs ys) (lex_before us vs) (lex_before xs ys)
unfolding lex_before same
lex_append [] [] us vs h = refl
lex_append [] (y ∷ ys) us vs h = absurd (omega arith)
lex_append (x ∷ xs) [] us vs h = absurd (omega arith)
lex_append (x ∷ xs) (y ∷ ys) us vs h = go (eqb x y) (ltb x y) (lex_append xs ys us vs (omega arith))
  where
    go : (e l : Bool) → lex_before (xs ++ us) (ys ++ vs) ≡ cond (same xs ys) (lex_before us vs) (lex_before xs ys)
        → cond e (lex_before (xs ++ us) (ys ++ vs)) l ≡ cond (e && same xs ys) (lex_before us vs) (cond e (lex_before xs ys) l)
    go true l r = r
    go false l r = refl

pub same_append : (xs ys us vs : List ℕ) → length xs ≡ length ys → same (xs ++ us) (ys ++ vs) ≡ (same xs ys && same us vs)
unfolding same
same_append [] [] us vs h = refl
same_append [] (y ∷ ys) us vs h = absurd (omega arith)
same_append (x ∷ xs) [] us vs h = absurd (omega arith)
same_append (x ∷ xs) (y ∷ ys) us vs h = go (eqb x y) (same_append xs ys us vs (omega arith))
  where
    go : (e : Bool) → same (xs ++ us) (ys ++ vs) ≡ (same xs ys && same us vs)
        → (e && same (xs ++ us) (ys ++ vs)) ≡ ((e && same xs ys) && same us vs)
    go true r = r
    go false r = refl

pub same_self : (xs : List ℕ) → same xs xs ≡ true
unfolding same
same_self [] = refl
same_self (x ∷ xs) = same_tails x x xs xs refl ∙ same_self xs
