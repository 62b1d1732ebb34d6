-- What the calls over members and their parents share: the tests of the lengths, and a graph as its parents have it. Assumes nothing.
use Prim.Native.Nat.{ℕ, ◌≤◌}
use mathlib.Core.Path.{◌≡◌, sym, ap, ap₂, ◌∙◌, fun_ext}
use mathlib.Core.Bool.{Bool, true, false, not, ◌||◌, or-true}
use mathlib.Core.List.{List}
use lib.ListN.{drop, replicate, length-replicate}
use borrow.Author.Tests.{eq-eqb, ne_eqb}
use Rattle.txset.specs.Sets.{positions, mem_at}
use Rattle.depgraph.specs.declared.DepGraph.{DepGraph}
use Rattle.depgraph.specs.Closed.{Room, Closed}
use Rattle.depgraph.specs.Graph.{is_ancestor, is_descendant}
use Rattle.refusals.specs.Refusals.{Line, reply_of, kept_unless, differ, differ₃}
use Rattle.refusals.proofs.Lines.{Past}

-- ---- refusal 1

module _ (m n k : ℕ) where
  unlike : (a b : ℕ) → (b ≡ a → ⊥) → differ a b ≡ true
  unlike a b h = ap not (ne_eqb a b (λ e. h (sym e)))

  pub sizes_differ : (n ≡ m → ⊥) → differ₃ m n k ≡ true
  sizes_differ h = ap (λ (b : Bool). b || differ m k) (unlike m n h)

  pub parents_differ : (k ≡ m → ⊥) → differ₃ m n k ≡ true
  parents_differ h = ap (λ (b : Bool). differ m n || b) (unlike m k h) ∙ or-true (differ m n)

  pub all_alike : n ≡ m → k ≡ m → differ₃ m n k ≡ false
  all_alike e f = ap₂ (λ (a b : Bool). not a || not b) (eq-eqb m n (sym e)) (eq-eqb m k (sym f))

-- ---- the refusals before the n-th do not hold: the others decide

module _ {R A : Type 0} {ls : List Line} {n : ℕ} (p : Past ls n) (refused : ℕ → R) (done : R) (old new : A) where
  pub others : {r : R} {out : A} → r ≡ reply_of refused (drop n ls) done → out ≡ kept_unless (drop n ls) old new
      → (r ≡ reply_of refused ls done) × (out ≡ kept_unless ls old new)
  unfolding reply_of kept_unless
  others e o = (e ∙ rw p.same, o ∙ rw p.same)

-- ---- the graph

-- n members have a place in new tables of k
pub new_room : {n : ℕ} (k : ℕ) → n ≤ positions → n ≤ k → Room n (replicate k 0) (replicate k 0)
new_room k h l = record { few = h; ups = rw length-replicate l; downs = rw length-replicate l }

module _ {ps up down : List ℕ} {g : DepGraph} (c : Closed ps up down g) where
  pub ancestors_are : mem_at up ≡ is_ancestor ps
  ancestors_are = fun_ext (λ t. fun_ext (λ a. c.ancestors t a))

  pub descendants_are : mem_at down ≡ is_descendant ps
  descendants_are = fun_ext (λ t. fun_ext (λ d. c.descendants t d))
