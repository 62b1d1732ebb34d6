-- Document 01's call linearize: "Then post_linearize, then module 7." Assumes nothing.
use Rattle.std.specs.Prelude.{ℕ, List, [], ◌∷◌, length, ℤ}
use Rattle.lists.specs.Lists.{overwrite}
use Rattle.depgraph.specs.Graph.{is_ancestor, is_descendant, is_cyclic}
use Rattle.refusals.specs.declared.Reply.{Reply}
use Rattle.refusals.specs.Refusals.{Line, line, refusal, success, reply_of, kept_unless, differ₃, too_many, short, any_outside}
use Rattle.candidates.specs.Candidates.{ancestor_order}
use Rattle.output_order.specs.Output.{output_order}
use Rattle.post_linearize.specs.PostLinearize.{post_linearize}

-- the order of a cluster
unfoldable pub linear_order : List ℤ → List ℕ → List ℕ → List ℕ
linear_order fs ss ps = output_order fs ss (is_ancestor ps) (post_linearize fs ss ps (ancestor_order fs ss (is_ancestor ps) (is_descendant ps)))

-- the one that needs the graph
abbrev pub last_refusals : List ℕ → List Line
last_refusals ps = line 4 (is_cyclic ps) ∷ []

-- "Orders: clusters 1, 2, 11, 3, 4, 5", of which 5 is for a given order
unfoldable pub refusals : List ℤ → List ℕ → List ℕ → List ℕ → List Line
refusals fs ss ps room =
    line 1 (differ₃ (length fs) (length ss) (length ps)) ∷ line 2 (too_many (length fs)) ∷ line 11 (short (length room) (length fs))
    ∷ line 3 (any_outside fs) ∷ last_refusals ps

unfoldable pub reply : List ℤ → List ℕ → List ℕ → List ℕ → Reply
reply fs ss ps room = reply_of refusal (refusals fs ss ps room) (success (length (linear_order fs ss ps)))

-- the order at the room's start; "the rest stays"
unfoldable pub room_after : List ℤ → List ℕ → List ℕ → List ℕ → List ℕ
room_after fs ss ps room =
    kept_unless (refusals fs ss ps room) room (overwrite (linear_order fs ss ps) room)
