-- What every step of specs/Candidates.antt keeps, for any members and any ancestors. Assumes nothing.
use mathlib.Core.Path.{◌≡◌, refl, sym, ap, ap₂, ◌∙◌, subst}
use mathlib.Core.Bool.{Bool, true, false, cond, not, ◌&&◌}
use mathlib.Core.Logic.{⊎_elim}
use mathlib.Core.List.{List, [], ◌∷◌, ◌++◌, append-nil}
use Prim.Native.Nat.{ℕ, zero, suc, ◌≤◌, ◌<◌}
use native.Mathlib.Omega.{arith}
use lib.Dec.{ltb}
use lib.IntN.{ℤ}
use lib.ListN.{length}
use borrow.Author.Tests.{ltb-true, ltb-false, not-true}
use Rattle.lists.specs.Below.{count_from}
use Rattle.lists.specs.Lists.{any_of, elem}
use Rattle.lists.proofs.Bools.{clash, and_left, and_right, is_true}
use Rattle.lists.proofs.Below.{elem_in, elem_below, count_list}
use Rattle.lists.proofs.Lists.{length_nil, elem_head, elem_tail, in_cons, After, after_snoc}
use Rattle.lists.proofs.Once.{missing, missing_snoc}
use Rattle.feeset.specs.Scan.{scan, best, ranks_above}
use Rattle.feeset.proofs.Scan.{best_elem}
use Rattle.candidates.specs.Candidates.{ancestor_sum, remaining, candidate, remaining_ancestors, fewer_ancestors}
use Rattle.candidates.specs.Candidates.{append_ancestors, append_for, rounds}
use Rattle.candidates.proofs.Rounds.{rounds_none}

-- t is a member, an ancestor of i, and not out yet
pub record Fresh (n : ℕ) (anc : ℕ → ℕ → Bool) (i : ℕ) (out : List ℕ) (t : ℕ) : Type 0 where
  pub below : t < n
  pub of : anc i t ≡ true
  pub new : elem t out ≡ false

-- t is the next to be appended for i
abbrev pub Next : ℕ → (ℕ → ℕ → Bool) → ℕ → List ℕ → ℕ → Type 0
Next n anc i out t = best (fewer_ancestors n anc) (remaining_ancestors n anc i out) ≡ t ∷ []

pub next_fresh : (n : ℕ) (anc : ℕ → ℕ → Bool) (i : ℕ) (out : List ℕ) (t : ℕ) → Next n anc i out t → Fresh n anc i out t
unfolding remaining_ancestors
next_fresh n anc i out t e =
    let p = elem_below (λ a. anc i a && not (elem a out)) n t (best_elem (fewer_ancestors n anc) (remaining_ancestors n anc i out) t e) in
    record {
      below = p.0;
      of = and_left (anc i t) (not (elem t out)) p.1;
      new = not-true (elem t out) (and_right (anc i t) (not (elem t out)) p.1);
    }

-- what one more of those that are to be appended keeps, every step keeps
module _
    (n : ℕ)
    (anc : ℕ → ℕ → Bool)
    (P : List ℕ → Type 0)
    (step : (i : ℕ) (out : List ℕ) (t : ℕ) → i < n → Next n anc i out t → P out → P (out ++ (t ∷ []))) where
  one : (i : ℕ) (out l : List ℕ) → i < n → remaining_ancestors n anc i out ≡ l → P out → P (out ++ best (fewer_ancestors n anc) l)
  unfolding best
  one i out [] m e p = rw append-nil p
  one i out (x ∷ xs) m e p = step i out (scan (fewer_ancestors n anc) x xs) m (ap (best (fewer_ancestors n anc)) e) p

  pub keeps_append : (i k : ℕ) (out : List ℕ) → i < n → P out → P (append_ancestors n anc i k out)
  unfolding append_ancestors
  keeps_append i zero out m p = p
  keeps_append i (suc k) out m p =
      keeps_append i k (out ++ best (fewer_ancestors n anc) (remaining_ancestors n anc i out)) m
      (one i out (remaining_ancestors n anc i out) m refl p)

  for : (above : ℕ → ℕ → Bool) (out l : List ℕ) → remaining n out ≡ l → P out → P (append_for n anc out (best above l))
  unfolding append_for best remaining
  for above out [] e p = p
  for above out (x ∷ xs) e p =
      let i = scan above x xs in
      keeps_append i (length (remaining_ancestors n anc i out)) out
      (elem_below (λ a. not (elem a out)) n i (ap (elem i) e ∙ best_elem above (x ∷ xs) i refl)).0 p

  pub keeps_rounds : (fs : List ℤ) (ss : List ℕ) (desc : ℕ → ℕ → Bool) (k : ℕ) (out : List ℕ) → P out → P (rounds fs ss n anc desc k out)
  unfolding rounds candidate
  keeps_rounds fs ss desc zero out p = p
  keeps_rounds fs ss desc (suc k) out p =
      keeps_rounds fs ss desc k (append_for n anc out (candidate fs ss n anc desc out))
      (for (ranks_above (ancestor_sum fs ss n anc desc out)) out (remaining n out) refl p)

-- ---- all members

module _ (n : ℕ) (anc : ℕ → ℕ → Bool) where
  -- a step leaves no more
  no_more : (m i : ℕ) (out : List ℕ) (t : ℕ) → i < n → Next n anc i out t → missing n out ≤ m → missing n (out ++ (t ∷ [])) ≤ m
  no_more m i out t l e h = let f = next_fresh n anc i out t e in omega (arith, missing_snoc n out t f.below f.new)

  -- the ancestors of a member, itself among them: appending them leaves fewer
  append_less : (i : ℕ) (out l : List ℕ) → i < n → remaining_ancestors n anc i out ≡ l → elem i l ≡ true
      → missing n (append_ancestors n anc i (length l) out) < missing n out
  unfolding append_ancestors best elem any_of
  append_less i out [] b e m = clash m refl
  append_less i out (x ∷ xs) b e m =
      let t = scan (fewer_ancestors n anc) x xs in
      let next : Next n anc i out t = ap (best (fewer_ancestors n anc)) e in
      let f = next_fresh n anc i out t next in
      let m = missing n (out ++ (t ∷ [])) in
      let less = keeps_append n anc (λ o. missing n o ≤ m) (no_more m) i (length xs) (out ++ (t ∷ [])) b (omega arith) in
      subst (λ (o : List ℕ). missing n (append_ancestors n anc i (length xs) (out ++ o)) < missing n out) (sym next)
      (omega (arith, missing_snoc n out t f.below f.new, less))

  module _ (self : (i : ℕ) → i < n → anc i i ≡ true) (fs : List ℤ) (ss : List ℕ) (desc : ℕ → ℕ → Bool) where
    -- while a member is left, a round leaves fewer
    round_less : (out l : List ℕ) → remaining n out ≡ l → (l ≡ [] → ⊥)
        → missing n (append_for n anc out (best (ranks_above (ancestor_sum fs ss n anc desc out)) l)) < missing n out
    unfolding append_for best remaining remaining_ancestors
    round_less out [] e m = absurd (m refl)
    round_less out (x ∷ xs) e m =
        let above = ranks_above (ancestor_sum fs ss n anc desc out) in
        let i = scan above x xs in
        let p = elem_below (λ a. not (elem a out)) n i (ap (elem i) e ∙ best_elem above (x ∷ xs) i refl) in
        append_less i out (remaining_ancestors n anc i out) p.0 refl
        (elem_in (λ a. anc i a && not (elem a out)) n 0 i (omega arith) (omega (arith, p.0)) ∙ ap₂ ◌&&◌ (self i p.0) p.1)

    more : (k : ℕ) (out : List ℕ) → missing n out ≤ suc k → (l : List ℕ) → remaining n out ≡ l
        → (let next = append_for n anc out (candidate fs ss n anc desc out) in missing n next ≤ k → remaining n (rounds fs ss n anc desc k next) ≡ [])
        → remaining n (rounds fs ss n anc desc (suc k) out) ≡ []
    unfolding rounds candidate
    more k out h [] e ih = ap (remaining n) (rounds_none fs ss n anc desc (suc k) out e) ∙ e
    more k out h (x ∷ xs) e ih =
        let less = round_less out (remaining n out) refl (λ z. let b : ◌≡◌ {A = ℕ} 0 1 = cc in omega arith) in
        ih (omega arith)

    -- as many rounds as members are left are enough
    pub rounds_all : (k : ℕ) (out : List ℕ) → missing n out ≤ k → remaining n (rounds fs ss n anc desc k out) ≡ []
    unfolding rounds candidate remaining
    rounds_all zero out h = length_nil (remaining n out) (omega (arith, count_list (λ i. not (elem i out)) n 0))
    rounds_all (suc k) out h = more k out h (remaining n out) refl (rounds_all k (append_for n anc out (candidate fs ss n anc desc out)))

-- ---- ancestors first

-- what the scan gives has the least key
module _ (above : ℕ → ℕ → Bool) (key : ℕ → ℕ) (by : (x y : ℕ) → above x y ≡ ltb (key x) (key y)) where
  scan_least : (found : ℕ) (xs : List ℕ) → (x : ℕ) → elem x (found ∷ xs) ≡ true → key (scan above found xs) ≤ key x
  unfolding scan
  scan_least found [] x e = ⊎_elim (λ z. rw z (omega arith)) (λ m. clash m none) (in_cons x found [] e)
    where
      none : elem x [] ≡ false
      none = unfold elem any_of in refl
  scan_least found (y ∷ ys) x e =
      let h = scan_least (cond (above y found) y found) ys in
      let l = low (above y found) (sym (by y found)) in
      let top = h (cond (above y found) y found) (elem_head (cond (above y found) y found) ys) in
      ⊎_elim
      (λ z. rw z (omega (arith, l.0)))
      (λ m. ⊎_elim (λ z. rw z (omega (arith, l.1))) (λ n. h x (elem_tail x (cond (above y found) y found) ys n)) (in_cons x y ys m))
      (in_cons x found (y ∷ ys) e)
    where
      low : (b : Bool) → ltb (key y) (key found) ≡ b → (key (cond b y found) ≤ key found) × (key (cond b y found) ≤ key y)
      low true e = let l : key y < key found = ltb-true (key y) (key found) e in (omega arith, omega arith)
      low false e = let l : key found ≤ key y = ltb-false (key y) (key found) e in (omega arith, omega arith)

  pub best_least : (xs : List ℕ) (t : ℕ) → best above xs ≡ t ∷ [] → (x : ℕ) → elem x xs ≡ true → key t ≤ key x
  unfolding best elem any_of
  best_least [] t e x m = clash m refl
  best_least (y ∷ ys) t e x m =
      let z : scan above y ys ≡ t = cc in
      rw (← z) (scan_least y ys x m)

module _
    (n : ℕ)
    (anc : ℕ → ℕ → Bool)
    (through : (i a b : ℕ) → i < n → a < n → b < n → anc i a ≡ true → anc a b ≡ true → anc i b ≡ true)
    (fewer : (i a : ℕ) → i < n → a < n → anc i a ≡ true → (a ≡ i → ⊥) → count_from (anc a) n 0 < count_from (anc i) n 0) where
  -- an ancestor of the next one is out: else it would have come before it
  out_before : (i : ℕ) (out : List ℕ) (t a : ℕ) → i < n → Next n anc i out t → a < n → anc t a ≡ true → (a ≡ t → ⊥) → elem a out ≡ true
  unfolding fewer_ancestors remaining_ancestors
  out_before i out t a l e m p q =
      is_true (elem a out) (λ z.
      let f = next_fresh n anc i out t e in
      let here : elem a (remaining_ancestors n anc i out) ≡ true =
      elem_in (λ a. anc i a && not (elem a out)) n 0 a (omega arith) (omega arith)
      ∙ ap₂ (λ (b c : Bool). b && not c) (through i t a l f.below m f.of p) z in
      let least = best_least (fewer_ancestors n anc) (λ x. count_from (anc x) n 0) (λ x y. refl) (remaining_ancestors n anc i out) t e a here in
      absurd (omega (arith, least, fewer t a f.below m p q)))

  pub after_more : (i : ℕ) (out : List ℕ) (t : ℕ) → i < n → Next n anc i out t → After n anc out → After n anc (out ++ (t ∷ []))
  after_more i out t l e = after_snoc n anc out t (λ a m p q. out_before i out t a l e m p q)
