-- Document 01's call post_linearize: it "reads a permutation, topological or not, from its own slice, which takes the result too".
-- Assumes nothing.
use Rattle.std.specs.Prelude.{ℕ, not, List, [], ◌∷◌, length, ℤ}
use Rattle.depgraph.specs.Graph.{is_ancestor, is_descendant, is_cyclic}
use Rattle.passes.specs.Pass.{back_pass, forward_pass}
use Rattle.refusals.specs.declared.Reply.{Reply}
use Rattle.refusals.specs.Refusals.{Line, line, refusal, success, reply_of, kept_unless, differ₃, too_many, any_outside, is_order}

-- "Two passes. The first runs from the back with .. descendants as dependencies, the second forward with ancestors."
unfoldable pub post_linearize : List ℤ → List ℕ → List ℕ → List ℕ → List ℕ
post_linearize fs ss ps order = forward_pass fs ss (is_ancestor ps) (back_pass fs ss (is_descendant ps) order)

-- those that need the graph or read the order
abbrev pub last_refusals : List ℤ → List ℕ → List ℕ → List Line
last_refusals fs ps order = line 4 (is_cyclic ps) ∷ line 5 (not (is_order (length fs) order)) ∷ []

-- "Orders: clusters 1, 2, 11, 3, 4, 5"; "its length must be n, else 5, and 11 is not for it"
unfoldable pub refusals : List ℤ → List ℕ → List ℕ → List ℕ → List Line
refusals fs ss ps order =
    line 1 (differ₃ (length fs) (length ss) (length ps)) ∷ line 2 (too_many (length fs)) ∷ line 3 (any_outside fs) ∷ last_refusals fs ps order

-- "Success reports how many places it wrote": the n positions
unfoldable pub reply : List ℤ → List ℕ → List ℕ → List ℕ → Reply
reply fs ss ps order = reply_of refusal (refusals fs ss ps order) (success (length fs))

unfoldable pub order_after : List ℤ → List ℕ → List ℕ → List ℕ → List ℕ
order_after fs ss ps order = kept_unless (refusals fs ss ps order) order (post_linearize fs ss ps order)
