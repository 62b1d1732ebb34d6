-- What the order of a cluster without a cycle is, for readers: each member once, after all its ancestors. Assumes nothing.
use Prim.Native.Nat.{ℕ, ◌<◌}
use mathlib.Core.Path.{◌≡◌, sym, ◌∙◌}
use mathlib.Core.Bool.{true, false}
use mathlib.Core.List.{List}
use native.Mathlib.Omega.{arith}
use lib.ListN.{length}
use lib.IntN.{ℤ}
use Rattle.lists.specs.Lists.{elem, distinct}
use Rattle.depgraph.specs.Graph.{is_ancestor, is_descendant, is_cyclic}
use Rattle.depgraph.proofs.Theorems.{ancestor_refl, ancestor_trans, fewer}
use Rattle.candidates.specs.Candidates.{ancestor_order}
use Rattle.candidates.proofs.Theorems.{each_below, none_twice, every_member, after_ancestors}
use Rattle.lists.proofs.Lists.{After}
use Rattle.post_linearize.specs.PostLinearize.{post_linearize}
use Rattle.post_linearize.proofs.Theorems.{post_same, post_after}
use Rattle.output_order.proofs.Theorems.{out_below, out_once, out_after_lem, out_every, out_length}
use Rattle.linearize.specs.Linearize.{linear_order}

module _ (fs : List ℤ) (ss ps : List ℕ) where
  -- no element is anything but a member, and none comes twice
  pub linear_below : (i : ℕ) → elem i (linear_order fs ss ps) ≡ true → i < length fs
  unfolding linear_order
  linear_below = out_below fs ss (is_ancestor ps) (post_linearize fs ss ps (ancestor_order fs ss (is_ancestor ps) (is_descendant ps)))

  pub linear_once : distinct (linear_order fs ss ps) ≡ true
  unfolding linear_order
  linear_once = out_once fs ss (is_ancestor ps) (post_linearize fs ss ps (ancestor_order fs ss (is_ancestor ps) (is_descendant ps)))

  -- every member comes after all its ancestors
  pub linear_after : After (length fs) (is_ancestor ps) (linear_order fs ss ps)
  unfolding linear_order
  linear_after = out_after_lem fs ss (is_ancestor ps) (post_linearize fs ss ps (ancestor_order fs ss (is_ancestor ps) (is_descendant ps)))

  module _ (as_long : length ps ≡ length fs) (acyclic : is_cyclic ps ≡ false) where
    self : (i : ℕ) → i < length fs → is_ancestor ps i i ≡ true
    self i l = ancestor_refl ps i (omega arith)

    -- the order that the passes leave has each member, after its ancestors
    every : (i : ℕ) → i < length fs → elem i (post_linearize fs ss ps (ancestor_order fs ss (is_ancestor ps) (is_descendant ps))) ≡ true
    every i l = (post_same fs ss ps (ancestor_order fs ss (is_ancestor ps) (is_descendant ps))).members i ∙ every_member fs ss (is_ancestor ps) (is_descendant ps) self i l

    passed : After (length fs) (is_ancestor ps) (post_linearize fs ss ps (ancestor_order fs ss (is_ancestor ps) (is_descendant ps)))
    passed =
        post_after fs ss ps (ancestor_order fs ss (is_ancestor ps) (is_descendant ps)) (length fs)
        (every_member fs ss (is_ancestor ps) (is_descendant ps) self) (each_below fs ss (is_ancestor ps) (is_descendant ps)) (none_twice fs ss (is_ancestor ps) (is_descendant ps))
        (after_ancestors fs ss (is_ancestor ps) (is_descendant ps)
        (λ i a b _ _ _ p q. ancestor_trans ps i a b p q)
        (λ i a l m p n. rw (← as_long) (fewer ps i a acyclic p (λ e. n (sym e)))))

    -- every member is in the order, so it has as many places as there are members
    pub linear_every : (i : ℕ) → i < length fs → elem i (linear_order fs ss ps) ≡ true
    unfolding linear_order
    linear_every = out_every fs ss (is_ancestor ps) (post_linearize fs ss ps (ancestor_order fs ss (is_ancestor ps) (is_descendant ps))) passed every

    pub linear_length : length (linear_order fs ss ps) ≡ length fs
    unfolding linear_order
    linear_length = out_length fs ss (is_ancestor ps) (post_linearize fs ss ps (ancestor_order fs ss (is_ancestor ps) (is_descendant ps))) passed every
