-- Laws of specs/Scan.antt: a scan over the members of a set, and two orders that agree on what is scanned. Assumes nothing.
use mathlib.Core.Path.{◌≡◌, refl, sym, ap, ap₂, ◌∙◌}
use mathlib.Core.Bool.{Bool, true, false, cond, not, ◌&&◌}
use mathlib.Core.List.{List, [], ◌∷◌}
use Prim.Native.Nat.{ℕ}
use native.Mathlib.Omega.{arith}
use lib.Dec.{eqb}
use Rattle.txset.specs.declared.TxSet.{TxSet}
use Rattle.lists.specs.Lists.{elem}
use Rattle.txset.specs.Sets.{mem, members, is_empty, lowest_of}
use Rattle.txset.proofs.Walk.{walk_step, walk_done}
use Rattle.feeset.specs.Scan.{scan, best}
use Rattle.lists.proofs.Bools.{cond_where}
use Rattle.lists.proofs.Lists.{elem_head, elem_tail}

-- a scan of `all` on its way: `found` and its value, and what is left of it is the set `rest`
pub record Scanning {A : Type 0} (above : ℕ → ℕ → Bool) (value : ℕ → A) (all : List ℕ) (found : ℕ) (worth : A) (rest : TxSet) : Type 0 where
  pub known : worth ≡ value found
  pub gives : best above (found ∷ members rest) ≡ best above all

-- the scan of s is that of the rest, t, with the lowest found
pub scan_start : (above : ℕ → ℕ → Bool) (s t : TxSet) (i : ℕ) → is_empty s ≡ false → i ≡ lowest_of s
    → ((j : ℕ) → mem t j ≡ (mem s j && not (eqb j (lowest_of s)))) → best above (members s) ≡ best above (i ∷ members t)
scan_start above s t i left first next =
    ap (best above) (walk_step s t next left) ∙ ap (λ (x : ℕ). best above (x ∷ members t)) (sym first)

-- nothing is left to scan: the one found is the best
pub scan_stop : {A : Type 0} {above : ℕ → ℕ → Bool} {value : ℕ → A} {all : List ℕ} {found : ℕ} {worth : A} {s : TxSet}
    → Scanning above value all found worth s → is_empty s ≡ true → best above all ≡ found ∷ []
unfolding best scan
scan_stop {above = above} {found = found} {s = s} h e = sym h.gives ∙ ap (λ (l : List ℕ). best above (found ∷ l)) (walk_done s e)

-- a turn: t is what is left of s without its lowest, i, of the value v; x is above y by their values
module _
    {A : Type 0}
    (above : ℕ → ℕ → Bool)
    (value : ℕ → A)
    (over : A → A → Bool)
    (by : (x y : ℕ) → above x y ≡ over (value x) (value y))
    (all : List ℕ)
    (found : ℕ)
    (worth : A)
    (s t : TxSet)
    (i : ℕ)
    (v : A)
    (h : Scanning above value all found worth s)
    (left : is_empty s ≡ false)
    (first : i ≡ lowest_of s)
    (next : (j : ℕ) → mem t j ≡ (mem s j && not (eqb j (lowest_of s))))
    (is : v ≡ value i) where
  turn : (b : Bool) → over v worth ≡ b → best above (cond b i found ∷ members t) ≡ best above all
  unfolding best scan
  turn b e =
      ap (λ (c : Bool). best above (cond c i found ∷ members t)) (sym e ∙ ap₂ over is h.known ∙ sym (by i found))
      ∙ ap (λ (x : ℕ). best above (found ∷ x ∷ members t)) first
      ∙ ap (λ (l : List ℕ). best above (found ∷ l)) (sym (walk_step s t next left))
      ∙ h.gives

  -- the one found yields to one that is above it
  pub scan_yields : over v worth ≡ true → Scanning above value all i v t
  scan_yields e = record { known = is; gives = turn true e }

  -- and to no other
  pub scan_holds : over v worth ≡ false → Scanning above value all found worth t
  scan_holds e = record { known = h.known; gives = turn false e }

-- ---- what is scanned

-- each of the list has P
abbrev Each : (ℕ → Type 0) → List ℕ → Type 0
Each P xs = (i : ℕ) → elem i xs ≡ true → P i

-- what is found has what each of the list has
scan_has : (P : ℕ → Type 0) (above : ℕ → ℕ → Bool) (found : ℕ) (xs : List ℕ) → P found → Each P xs → P (scan above found xs)
unfolding scan
scan_has P above found [] p h = p
scan_has P above found (x ∷ xs) p h =
    scan_has P above (cond (above x found) x found) xs (cond_where P (above x found) (λ _. h x (elem_head x xs)) (λ _. p)) (λ i e. h i (elem_tail i x xs e))

-- the best is one of the list
pub best_elem : (above : ℕ → ℕ → Bool) (xs : List ℕ) (t : ℕ) → best above xs ≡ t ∷ [] → elem t xs ≡ true
unfolding best
best_elem above [] t e = let z : ◌≡◌ {A = ℕ} 0 1 = cc in absurd (omega arith)
best_elem above (x ∷ xs) t e =
    let z : scan above x xs ≡ t = cc in
    rw (← z) (scan_has (λ i. elem i (x ∷ xs) ≡ true) above x xs (elem_head x xs) (λ i e. elem_tail i x xs e))

-- two orders that agree on what has P scan alike
scan_ext : (P : ℕ → Type 0) (above over : ℕ → ℕ → Bool) → ((x y : ℕ) → P x → P y → above x y ≡ over x y) → (found : ℕ) (xs : List ℕ)
    → P found → Each P xs → scan above found xs ≡ scan over found xs
unfolding scan
scan_ext P above over same found [] p h = refl
scan_ext P above over same found (x ∷ xs) p h =
    ap (λ (b : Bool). scan above (cond b x found) xs) (same x found (h x (elem_head x xs)) p)
    ∙ scan_ext P above over same (cond (over x found) x found) xs (cond_where P (over x found) (λ _. h x (elem_head x xs)) (λ _. p))
    (λ i e. h i (elem_tail i x xs e))

-- two orders that agree on the list have the same best
pub best_ext : (above over : ℕ → ℕ → Bool) (xs : List ℕ)
    → ((x y : ℕ) → elem x xs ≡ true → elem y xs ≡ true → above x y ≡ over x y) → best above xs ≡ best over xs
unfolding best
best_ext above over [] same = refl
best_ext above over (x ∷ xs) same =
    ap (λ (t : ℕ). t ∷ [])
    (scan_ext (λ i. elem i (x ∷ xs) ≡ true) above over same x xs (elem_head x xs) (λ i e. elem_tail i x xs e))
