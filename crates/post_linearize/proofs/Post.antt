-- The two passes of post_linearize on lists of at most 64. Assumes nothing.
use Prim.Native.Nat.{ℕ, ◌≤◌}
use native.Mathlib.Omega.{arith}
use mathlib.Core.Path.{◌≡◌, ap, ◌∙◌}
use mathlib.Core.Bool.{Bool, cond}
use mathlib.Core.List.{List}
use lib.ListN.{length}
use lib.Dec.{leb}
use lib.IntN.{ℤ}
use borrow.Author.Tests.{le-leb}
use Rattle.txset.specs.Sets.{positions}
use Rattle.depgraph.specs.Graph.{is_ancestor, is_descendant}
use Rattle.passes.specs.Pass.{back_pass, forward_pass}
use Rattle.passes.proofs.Theorems.{back_same}
use Rattle.post_linearize.specs.PostLinearize.{post_linearize}

-- what the two passes leave of a list of at most 64
module _ (fs : List ℤ) (ss ps order : List ℕ) (anc desc : ℕ → ℕ → Bool) (h : length order ≤ positions) where
  pub passes : anc ≡ is_ancestor ps → desc ≡ is_descendant ps → (mid out : List ℕ)
      → mid ≡ cond (leb (length order) positions) (back_pass fs ss desc order) order
      → out ≡ cond (leb (length mid) positions) (forward_pass fs ss anc mid) mid → out ≡ post_linearize fs ss ps order
  unfolding post_linearize
  passes p q mid out m o =
      let back : mid ≡ back_pass fs ss (is_descendant ps) order = m ∙ rw (le-leb (length order) positions h, q) in
      let long : length mid ≤ positions = omega (arith, ap length back, (back_same fs ss (is_descendant ps) order).long) in
      let fore : out ≡ forward_pass fs ss (is_ancestor ps) (back_pass fs ss (is_descendant ps) order) = o ∙ rw (le-leb (length mid) positions long, p, back) in
      fore
