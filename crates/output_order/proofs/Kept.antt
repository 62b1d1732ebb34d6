-- What every round of specs/Output.antt keeps, for any chunks and any ancestors. Assumes nothing.
use Prim.Native.Nat.{ℕ, zero, suc, ◌<◌}
use native.Mathlib.Omega.{arith}
use mathlib.Core.Path.{◌≡◌, refl, sym, ap, ◌∙◌}
use mathlib.Core.Bool.{Bool, true, false, not, ◌&&◌, ◌||◌}
use mathlib.Core.Logic.{◌⊎◌, inl, inr, ⊎_elim}
use mathlib.Core.List.{List, [], ◌∷◌, ◌++◌, append-nil}
use lib.Dec.{eqb}
use lib.ListN.{length}
use lib.IntN.{ℤ}
use borrow.Author.Tests.{ne_eqb, not-true}
use Rattle.feefrac.specs.Rate.{rate_at}
use Rattle.lists.specs.Below.{list_from}
use Rattle.lists.specs.Lists.{any_of, elem}
use Rattle.lists.proofs.Below.{elem_in, all_at, elem_below}
use Rattle.lists.proofs.Bools.{and_left, and_right}
use Rattle.lists.proofs.Lists.{After, after_snoc}
use Rattle.feeset.specs.Scan.{scan, best, ranks_above}
use Rattle.feeset.proofs.Scan.{best_elem}
use Rattle.chunking.specs.Orders.{chunk_at}
use Rattle.output_order.specs.Output.{member_ready, inside, put_out, next_chunk, chunks_out}

-- ---- the best of some positions

-- t is the best of the positions below n that have f
pub record Best (above : ℕ → ℕ → Bool) (f : ℕ → Bool) (n t : ℕ) : Type 0 where
  pub is : best above (list_from f n 0) ≡ t ∷ []
  pub below : t < n
  pub has : f t ≡ true

-- none has f, or there is a best
pub none_or_best : (above : ℕ → ℕ → Bool) (f : ℕ → Bool) (n : ℕ)
    → ((best above (list_from f n 0) ≡ []) × ((i : ℕ) → i < n → f i ≡ false)) ⊎ ((t : ℕ) × Best above f n t)
unfolding best elem any_of
none_or_best above f n = go (list_from f n 0) refl
  where
    go : (l : List ℕ) → list_from f n 0 ≡ l
        → ((best above (list_from f n 0) ≡ []) × ((i : ℕ) → i < n → f i ≡ false)) ⊎ ((t : ℕ) × Best above f n t)
    go [] e = inl (ap (best above) e, λ i l. sym (elem_in f n 0 i (omega arith) (omega arith)) ∙ ap (elem i) e)
    go (x ∷ xs) e =
        let t = scan above x xs in
        let p = elem_below f n t (ap (elem t) e ∙ best_elem above (x ∷ xs) t refl) in
        inr (t, record { is = ap (best above) e; below = p.0; has = p.1 })

-- ---- what each step keeps

-- of the chunk c the members that may come next
abbrev pub may_come : ℕ → (ℕ → ℕ → Bool) → List ℕ → List ℕ → ℕ → Bool
may_come n anc c out t = (elem t c && not (elem t out)) && member_ready n anc out t

-- t is a member, of the chunk c and not out yet, and its other ancestors are out
pub record Ready (n : ℕ) (anc : ℕ → ℕ → Bool) (c out : List ℕ) (t : ℕ) : Type 0 where
  pub below : t < n
  pub of : elem t c ≡ true
  pub new : elem t out ≡ false
  pub ready : member_ready n anc out t ≡ true

pub may_ready : (n : ℕ) (anc : ℕ → ℕ → Bool) (c out : List ℕ) (t : ℕ) → t < n → may_come n anc c out t ≡ true → Ready n anc c out t
may_ready n anc c out t l h =
    let p = and_left (elem t c && not (elem t out)) (member_ready n anc out t) h in
    record {
      below = l;
      of = and_left (elem t c) (not (elem t out)) p;
      new = not-true (elem t out) (and_right (elem t c) (not (elem t out)) p);
      ready = and_right (elem t c && not (elem t out)) (member_ready n anc out t) h;
    }

-- what one more that is ready keeps, every round keeps
module _
    (fs : List ℤ)
    (ss : List ℕ)
    (n : ℕ)
    (anc : ℕ → ℕ → Bool)
    (P : List ℕ → Type 0)
    (step : (c out : List ℕ) (t : ℕ) → Ready n anc c out t → P out → P (out ++ (t ∷ []))) where
  pub keeps_inside : (c : List ℕ) (k : ℕ) (out : List ℕ) → P out → P (inside fs ss n anc c k out)
  unfolding inside
  keeps_inside c zero out p = p
  keeps_inside c (suc k) out p =
      keeps_inside c k (out ++ best (ranks_above (rate_at fs ss)) (list_from (may_come n anc c out) n 0))
      (⊎_elim
      (λ h. rw (h.0, append-nil) p)
      (λ h. rw h.1.is (step c out h.0 (may_ready n anc c out h.0 h.1.below h.1.has) p))
      (none_or_best (ranks_above (rate_at fs ss)) (may_come n anc c out) n))

  keeps_put : (cs : List (List ℕ)) (out ks : List ℕ) → P out → P (put_out fs ss n anc cs out ks)
  unfolding put_out
  keeps_put cs out [] p = p
  keeps_put cs out (k ∷ ks) p = keeps_inside (chunk_at cs k) (length (chunk_at cs k)) out p

  pub keeps_out : (cs : List (List ℕ)) (r : ℕ) (gone out : List ℕ) → P out → P (chunks_out fs ss n anc cs r gone out)
  unfolding chunks_out
  keeps_out cs zero gone out p = p
  keeps_out cs (suc r) gone out p =
      let ks = next_chunk fs ss n anc cs gone out in
      keeps_out cs r (ks ++ gone) (put_out fs ss n anc cs out ks) (keeps_put cs out ks p)

-- ---- ancestors first

-- an ancestor of one that is ready is out, or is that one
pub ready_out : (n : ℕ) (anc : ℕ → ℕ → Bool) (out : List ℕ) (t : ℕ) → member_ready n anc out t ≡ true
    → (a : ℕ) → a < n → anc t a ≡ true → (a ≡ t → ⊥) → elem a out ≡ true
unfolding member_ready
ready_out n anc out t h a l p q =
    rw (p, ne_eqb a t q) at (all_at (λ a. not (anc t a) || (eqb a t || elem a out)) n 0 h a (omega arith) (omega arith))

-- so it may come next
pub after_ready : (n : ℕ) (anc : ℕ → ℕ → Bool) (out : List ℕ) (t : ℕ) → member_ready n anc out t ≡ true → After n anc out
    → After n anc (out ++ (t ∷ []))
after_ready n anc out t r = after_snoc n anc out t (ready_out n anc out t r)
