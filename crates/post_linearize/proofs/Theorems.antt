-- What post_linearize leaves as it is: the members, and an order in which each stands behind its ancestors. Assumes nothing.
use mathlib.Core.Path.{◌≡◌, refl, ◌∙◌}
use mathlib.Core.Bool.{true}
use mathlib.Core.List.{List}
use Prim.Native.Nat.{ℕ, ◌<◌}
use lib.IntN.{ℤ}
use Rattle.lists.specs.Lists.{elem, distinct}
use Rattle.depgraph.specs.Graph.{is_ancestor, is_descendant}
use Rattle.passes.specs.Pass.{back_pass}
use Rattle.passes.proofs.Theorems.{Same, back_same, forward_same}
use Rattle.lists.proofs.Lists.{After}
use Rattle.passes.proofs.Ordered.{ordered, back_ordered, forward_ordered, after_ordered, ordered_after}
use Rattle.post_linearize.specs.PostLinearize.{post_linearize}

same_trans : {xs ys zs : List ℕ} → Same xs ys → Same ys zs → Same xs zs
same_trans p q =
    record {
      each = λ i. q.each i ∙ p.each i;
      members = λ i. q.members i ∙ p.members i;
      long = q.long ∙ p.long;
      once = λ h. q.once (p.once h);
    }

module _ (fs : List ℤ) (ss ps order : List ℕ) where
  -- the result has the elements of the order, each as often
  pub post_same : Same order (post_linearize fs ss ps order)
  unfolding post_linearize
  post_same =
      same_trans (back_same fs ss (is_descendant ps) order) (forward_same fs ss (is_ancestor ps) (back_pass fs ss (is_descendant ps) order))

  -- a topological order stays one: no element has an ancestor behind it
  pub post_topological : ordered (is_ancestor ps) order ≡ true → ordered (is_ancestor ps) (post_linearize fs ss ps order) ≡ true
  unfolding post_linearize
  post_topological h =
      forward_ordered fs ss (is_ancestor ps) (back_pass fs ss (is_descendant ps) order)
      (back_ordered fs ss (is_ancestor ps) (is_descendant ps) (λ t d. refl) order h)

  -- the same of an order of the members below n, said of every place: each element stands behind all of its ancestors
  pub post_after : (n : ℕ) → ((i : ℕ) → i < n → elem i order ≡ true) → ((i : ℕ) → elem i order ≡ true → i < n) → distinct order ≡ true
      → After n (is_ancestor ps) order → After n (is_ancestor ps) (post_linearize fs ss ps order)
  post_after n every below once h =
      ordered_after n (is_ancestor ps) (post_linearize fs ss ps order)
      (λ i l. post_same.members i ∙ every i l)
      (post_topological (after_ordered n (is_ancestor ps) order below once h))
