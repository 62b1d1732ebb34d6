-- A relation of numbers that another becomes by one number more: what has a way to where in it. Assumes nothing.
use mathlib.Core.Path.{◌≡◌, refl, sym, ap, ◌∙◌}
use mathlib.Core.Bool.{Bool, true, false, not, ◌||◌, or-true}
use mathlib.Core.Logic.{◌⊎◌, ⊎_elim}
use Prim.Native.Nat.{ℕ, ◌<◌}
use lib.Dec.{eqb}
use borrow.Author.Tests.{eq-eqb, ne_eqb, eqb-true}
use Rattle.lists.proofs.Bools.{clash, or_either, is_false}
use Rattle.lists.proofs.Numbers.{by_number}
use Rattle.ways.specs.Ways.{Way, step, further, Bounded}
use Rattle.ways.proofs.Ways.{way_stays}
use Rattle.ways.proofs.Cycles.{onward, onward_self, onward_way, onward_either, onward_trans}
use Rattle.pool_clusters.proofs.Reached.{reached, reached_from, from_reached, reached_seed, reached_on, onward_closed}

-- ---- where no step leads to x, no way does

away : (x i : ℕ) → (i ≡ x → ⊥) → not (eqb i x) ≡ true
away x i n = ap not (ne_eqb i x n)

unreached : {s : ℕ → ℕ → Bool} (x : ℕ) → ((i j : ℕ) → s i j ≡ true → j ≡ x → ⊥) → {i : ℕ} → Way s i x → ⊥
unreached x to {i} (step e) = to i x e refl
unreached x to {i} (further {p = p} e u) =
    clash (way_stays (λ j. not (eqb j x)) (λ i j _ e. away x j (to i j e)) u (away x p (to i p e))) (ap not (eq-eqb x x refl))

-- ---- no step of s leads to x, and from elsewhere it is one of r: no way closes that did not

module _ {r s : ℕ → ℕ → Bool} (x : ℕ) (to : (i j : ℕ) → s i j ≡ true → j ≡ x → ⊥) (else : (i j : ℕ) → (i ≡ x → ⊥) → s i j ≡ true → r i j ≡ true) where
  way_else : {i a : ℕ} → Way s i a → (i ≡ x → ⊥) → Way r i a
  way_else {i} {a} (step e) n = step (else i a n e)
  way_else {i} (further {p = p} e u) n = further (else i p n e) (way_else u (to i p e))

  pub still_open : ((i : ℕ) → Way r i i → ⊥) → (i : ℕ) → Way s i i → ⊥
  still_open h = by_number (λ i. Way s i i → ⊥) x (unreached x to) (λ i n u. h i (way_else u (λ e. n (sym e))))

-- ---- x is joined both ways to the numbers of a set f, and to no other

pub record Joins (r s : ℕ → ℕ → Bool) (n x : ℕ) (f : ℕ → Bool) : Type 0 where
  pub below : (i : ℕ) → f i ≡ true → i < n
  pub apart : f x ≡ false
  pub alone : (i j : ℕ) → r i j ≡ true → (i ≡ x → ⊥) × (j ≡ x → ⊥)
  pub more : (i j : ℕ) → s i j ≡ true → (r i j ≡ true) ⊎ (((i ≡ x) × (f j ≡ true)) ⊎ ((f i ≡ true) × (j ≡ x)))

-- x, and what the set has a way to
abbrev pub joined : (ℕ → ℕ → Bool) → ℕ → ℕ → (ℕ → Bool) → ℕ → Bool
joined r n x f i = eqb i x || reached r n f i

module _ {r s : ℕ → ℕ → Bool} {n x : ℕ} {f : ℕ → Bool} (bound : Bounded r n) (h : Joins r s n x f) where
  -- before, nothing had a way to x
  pub was_alone : (i : ℕ) → onward r n i x ≡ true → i ≡ x
  was_alone i e = ⊎_elim (λ z. z) (λ u. absurd (unreached x (λ i j d. (h.alone i j d).1) u)) (onward_either r n i x e)

  pub not_reached : reached r n f x ≡ false
  not_reached =
      is_false (reached r n f x)
      (λ e. let u = reached_from r n f x e in clash (ap f (sym (was_alone u.seed u.on)) ∙ u.chosen) h.apart)

  reached_joined : (i : ℕ) → reached r n f i ≡ true → joined r n x f i ≡ true
  reached_joined i e = ap (λ (b : Bool). eqb i x || b) e ∙ or-true (eqb i x)

  self_joined : (i : ℕ) → i ≡ x → joined r n x f i ≡ true
  self_joined i e = ap (λ (b : Bool). b || reached r n f i) (eq-eqb i x e)

  -- no step leaves these
  joined_step : (i j : ℕ) → joined r n x f i ≡ true → s i j ≡ true → joined r n x f j ≡ true
  joined_step i j m e =
      ⊎_elim
      (λ d.
      ⊎_elim
      (λ z. absurd ((h.alone i j d).0 (eqb-true i x z)))
      (λ u. reached_joined j (reached_on bound f i j u d))
      (or_either (eqb i x) (reached r n f i) m))
      (λ d.
      ⊎_elim
      (λ u. reached_joined j (reached_seed r n f j (h.below j u.1) u.1))
      (λ u. self_joined j u.1)
      d)
      (h.more i j e)

  pub joined_on : (i j : ℕ) → joined r n x f i ≡ true → onward s n i j ≡ true → joined r n x f j ≡ true
  joined_on i j m e = onward_closed s n (joined r n x f) joined_step i j e m

  -- and from elsewhere all is as it was, where r goes both ways
  module _ (back : (i j : ℕ) → onward r n i j ≡ true → onward r n j i ≡ true) (i : ℕ) (out : joined r n x f i ≡ false) where
    else_step : (j k : ℕ) → onward r n i j ≡ true → s j k ≡ true → onward r n i k ≡ true
    else_step j k m e =
        ⊎_elim
        (λ d. onward_trans bound i j k m (onward_way bound (step d)))
        (λ d.
        ⊎_elim
        (λ u. clash (self_joined i (was_alone i (ap (onward r n i) (sym u.0) ∙ m))) out)
        (λ u.
        clash (reached_joined i (from_reached r n f i (record { seed = j; below = h.below j u.0; chosen = u.0; on = back i j m }))) out)
        d)
        (h.more j k e)

    pub else_on : (j : ℕ) → onward s n i j ≡ true → onward r n i j ≡ true
    else_on j e = onward_closed s n (onward r n i) else_step i j e (onward_self r n i)
