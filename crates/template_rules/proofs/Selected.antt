-- What holds of every list that is selected (specs/Filling.antt) in a sound pool: no slot twice, entries alone, each after all its
-- ancestors, so that there are no more than the pool has entries. Assumes nothing.
use mathlib.Core.Path.{◌≡◌, refl, sym, ap, ap₂, ◌∙◌}
use mathlib.Core.Bool.{Bool, true, not, ◌&&◌, false≢true}
use mathlib.Core.Logic.{⊎_elim}
use mathlib.Core.List.{List, [], ◌∷◌, ◌++◌}
use Prim.Native.Nat.{ℕ, ◌≤◌}
use native.Mathlib.Omega.{arith}
use lib.ListN.{length, length-append}
use Rattle.lists.specs.Lists.{any_of, elem, distinct}
use Rattle.lists.proofs.Ranges.{count_within}
use Rattle.lists.proofs.Lists.{elem_left, in_cons, in_snoc, split_snoc, distinct_snoc}
use Rattle.slotsets.specs.SlotSets.{capacity}
use Rattle.ways.specs.Ways.{Way, step, further}
use Rattle.pool_table.specs.Pool.{Pool, slot_count, occupied, entries}
use Rattle.pool_table.specs.Links.{is_parent}
use Rattle.pool_links.proofs.Mutual.{occupied_in}
use Rattle.pool_rules.proofs.Sound.{Sound}
use Rattle.pool_members.proofs.Only.{once_count}
use Rattle.template_rules.specs.Filling.{collect, grown}
use Rattle.template_rules.proofs.Ancestors.{ancestors}
use Rattle.template_rules.proofs.Collect.{Kept, Entries, collect_keeps, grown_keeps}

-- an element, and what stands around it
pub elem_split : (x : ℕ) (l : List ℕ) → elem x l ≡ true → (xs : List ℕ) × (ys : List ℕ) × (l ≡ xs ++ (x ∷ ys))
unfolding elem any_of
elem_split x [] m = absurd (false≢true m)
elem_split x (y ∷ l) m =
    ⊎_elim
    (λ (e : x ≡ y). ([], l, ap (λ (z : ℕ). z ∷ l) (sym e)))
    (λ n. let c = elem_split x l n in (y ∷ c.0, c.1, ap (λ (k : List ℕ). y ∷ k) c.2))
    (in_cons x y l m)

pub record Selected (p : Pool) (out : List ℕ) : Type 0 where
  pub once : distinct out ≡ true
  pub held : Entries p out
  pub ordered : (xs ys : List ℕ) (s a : ℕ) → out ≡ xs ++ (s ∷ ys) → Way (is_parent p) s a → elem a xs ≡ true

module _ (p : Pool) where
  pub selected_none : Selected p []
  unfolding distinct elem any_of
  selected_none =
      record {
        once = refl;
        held = λ s m. absurd (false≢true m);
        ordered = λ xs ys s a e u. absurd (omega (arith, ap length e, length-append xs (s ∷ ys)));
      }

  -- ---- one more behind its parents

  -- where its parents are there, so are its ancestors
  all_above : {out : List ℕ} → Selected p out → (s : ℕ) → ((a : ℕ) → is_parent p s a ≡ true → elem a out ≡ true) → (a : ℕ) → Way (is_parent p) s a
      → elem a out ≡ true
  all_above q s up a (step e) = up a e
  all_above {out} q s up a (further {p = b} e u) =
      let c = elem_split b out (up b e) in
      ap (elem a) c.2 ∙ elem_left a c.0 (b ∷ c.1) (q.ordered c.0 c.1 b a c.2 u)

  selected_kept : Kept p (Selected p)
  selected_kept out s o e up q =
      record {
        once = distinct_snoc out s ∙ ap₂ (λ (a b : Bool). a && not b) q.once e;
        held = λ x m. ⊎_elim (q.held x) (λ (z : x ≡ s). rw z o) (in_snoc x s out m);
        ordered =
            λ xs ys x a z u.
            ⊎_elim
            (λ c. rw c.0 (all_above q s up a (rw c.1 at u)))
            (λ c. q.ordered xs c.0 x a c.1 u)
            (split_snoc out s xs ys x z);
      }

  module _ (h : Sound p) (few : slot_count p ≤ capacity) where
    pub collect_selected : (k : ℕ) (out : List ℕ) (s : ℕ) → occupied p s ≡ true → ancestors p s ≤ k → Selected p out → Selected p (collect p k out s)
    collect_selected = collect_keeps p h few (Selected p) selected_kept

    pub grown_selected : (out slots : List ℕ) → Entries p slots → Selected p out → Selected p (grown p out slots)
    grown_selected = grown_keeps p h few (Selected p) selected_kept

  -- ---- how many

  pub selected_few : {out : List ℕ} → Selected p out → length out ≤ entries p
  unfolding entries
  selected_few {out} q =
      let n = slot_count p in
      omega (
        arith,
        once_count n out (record { below = λ i m. occupied_in p i (q.held i m); once = q.once }),
        count_within (occupied p) (λ i. elem i out) n 0 (λ j _ _. q.held j),
      )
