-- Document 01, module 4 (chunk_lengths), on the feerates of a list in its order. A list of chunks has the last chunk first.
-- Assumes nothing.
use Rattle.std.specs.Prelude.{ℕ, ◌+◌, cond, List, [], ◌∷◌, ◌++◌, length, ℤ}
use Rattle.lists.specs.Lists.{overwrite}
use Rattle.feefrac.specs.declared.FeeFrac.{FeeFrac}
use Rattle.feefrac.specs.Rate.{sum, higher}
use Rattle.refusals.specs.declared.Reply.{Reply}
use Rattle.refusals.specs.Refusals.{Line, line, refusal, success, reply_of, kept_unless, differ, too_many, short, any_outside}
use Rattle.chunking.specs.declared.Chunk.{Chunk}

-- "Each member starts as a group"
abbrev pub alone : FeeFrac → Chunk
alone r = record { rate = r; len = 1 }

-- a group that has swallowed a chunk
abbrev pub joined : Chunk → Chunk → Chunk
joined c t = record { rate = sum c.rate t.rate; len = c.len + t.len }

-- "while it is strictly higher than the chunk before it, it swallows that chunk"
unfoldable pub swallow : Chunk → List Chunk → List Chunk
swallow c [] = c ∷ []
swallow c (t ∷ ts) = cond (higher c.rate t.rate) (swallow (joined c t) ts) (c ∷ t ∷ ts)

-- the members come one after the other
unfoldable pub chunks_after : List Chunk → List FeeFrac → List Chunk
chunks_after cs [] = cs
chunks_after cs (r ∷ rs) = chunks_after (swallow (alone r) cs) rs

-- the lengths, the first chunk's first
unfoldable pub lengths_of : List Chunk → List ℕ
lengths_of [] = []
lengths_of (c ∷ cs) = lengths_of cs ++ (c.len ∷ [])

unfoldable pub chunk_lengths : List FeeFrac → List ℕ
chunk_lengths rs = lengths_of (chunks_after [] rs)

-- the feerates of a list of fees and one of sizes, as far as both go
unfoldable pub rates : List ℤ → List ℕ → List FeeFrac
rates [] ss = []
rates (f ∷ fs) [] = []
rates (f ∷ fs) (s ∷ ss) = record { fee = f; size = s } ∷ rates fs ss

-- "Orders: clusters 1, 2, 11, 3, 4, 5", of which "chunk lengths need no parents", and take no order
unfoldable pub refusals : List ℤ → List ℕ → List ℕ → List Line
refusals fs ss room =
    line 1 (differ (length fs) (length ss)) ∷ line 2 (too_many (length fs)) ∷ line 11 (short (length room) (length fs)) ∷ line 3 (any_outside fs) ∷ []

-- "Success reports how many places it wrote from the room's start": here as many as there are chunks
unfoldable pub reply : List ℤ → List ℕ → List ℕ → Reply
reply fs ss room = reply_of refusal (refusals fs ss room) (success (length (chunk_lengths (rates fs ss))))

-- "the chunk lengths .. the rest stays"
unfoldable pub room_after : List ℤ → List ℕ → List ℕ → List ℕ
room_after fs ss room =
    kept_unless (refusals fs ss room) room (overwrite (chunk_lengths (rates fs ss)) room)
