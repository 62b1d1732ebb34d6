-- A walk upwards over the members of a set that changes by f what is read at each of them. Assumes nothing.
use mathlib.Core.Path.{◌≡◌, refl, sym, ap, ap₂, ◌∙◌}
use mathlib.Core.Bool.{Bool, true, false, cond, not, ◌&&◌, and-true, and-false}
use Prim.Native.Nat.{ℕ}
use lib.Dec.{eqb}
use borrow.Author.Tests.{eqb-true, eqb-false, eq-eqb, ne_eqb}
use Rattle.txset.specs.declared.TxSet.{TxSet}
use Rattle.txset.specs.Sets.{mem, is_empty, lowest_of}
use Rattle.txset.proofs.Sets.{empty_mem}
use Rattle.txset.proofs.Walk.{lowest_mem}

-- what is read at i once the members of s are changed
abbrev pub changed : {A : Type 0} → (A → A) → TxSet → (ℕ → A) → ℕ → A
changed f s at i = cond (mem s i) (f (at i)) (at i)

-- on the way: what is read with the rest yet to be changed is what it was at first with all changed
pub record Changing {A : Type 0} (f : A → A) (all : TxSet) (was now : ℕ → A) (rest : TxSet) : Type 0 where
  pub same : (i : ℕ) → changed f rest now i ≡ changed f all was i

-- all are left
pub change_start : {A : Type 0} (f : A → A) (all : TxSet) (was : ℕ → A) → Changing f all was was all
change_start f all was = record { same = λ i. refl }

-- none is left: all are changed
pub change_stop : {A : Type 0} {f : A → A} {all : TxSet} {was now : ℕ → A} {rest : TxSet} → Changing f all was now rest → is_empty rest ≡ true
    → (i : ℕ) → now i ≡ changed f all was i
change_stop {f = f} {now = now} {rest = rest} h e i = ap (λ (b : Bool). cond b (f (now i)) (now i)) (sym (empty_mem rest e i)) ∙ h.same i

-- t is what is left of s without its lowest, d; d is changed, and nothing else is
pub change_turn : {A : Type 0} (f : A → A) (all : TxSet) (was now next : ℕ → A) (s t : TxSet) (d : ℕ)
    → is_empty s ≡ false → d ≡ lowest_of s → ((j : ℕ) → mem t j ≡ (mem s j && not (eqb j (lowest_of s))))
    → next d ≡ f (now d) → ((j : ℕ) → (j ≡ d → ⊥) → next j ≡ now j)
    → Changing f all was now s → Changing f all was next t
change_turn {A} f all was now next s t d some first less is others h = record { same = λ i. go i (eqb i d) refl ∙ h.same i }
  where
    out : (i : ℕ) (b : Bool) → eqb i (lowest_of s) ≡ b → mem t i ≡ (mem s i && not b)
    out i b e = less i ∙ ap (λ (b : Bool). mem s i && not b) e

    go : (i : ℕ) (b : Bool) → eqb i d ≡ b → changed f t next i ≡ changed f s now i
    go i true e =
        let z : i ≡ d = eqb-true i d e in
        ap (λ (b : Bool). cond b (f (next i)) (next i)) (out i true (eq-eqb i (lowest_of s) (z ∙ first)) ∙ and-false (mem s i))
        ∙ rw z is
        ∙ ap (λ (b : Bool). cond b (f (now i)) (now i)) (sym (ap (mem s) (z ∙ first) ∙ lowest_mem s some))
    go i false e =
        let n = eqb-false i d e in
        ap₂ (λ (b : Bool) (x : A). cond b (f x) x)
        (out i false (ne_eqb i (lowest_of s) (λ z. n (z ∙ sym first))) ∙ and-true (mem s i))
        (others i n)
