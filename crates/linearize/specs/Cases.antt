-- Document 01, "Values to hold against": the cases marked P as one table, and a test of one line of it. That the test holds of every
-- line is computed in proofs/Cases.antt. Assumes nothing.
use Rattle.std.specs.Prelude.{ℕ, ◌≡◌, Bool, ◌&&◌, List, [], ◌∷◌, map, eqb, ℤ, pos}
use Rattle.feefrac.specs.Rate.{rate_at}
use Rattle.lists.specs.Lists.{same}
use Rattle.refusals.specs.Refusals.{answer_of}
use Rattle.chunking.specs.Chunks.{chunk_lengths, rates}
use Rattle.linearize.specs.Linearize.{refusals, linear_order}

-- members by fees, sizes and parents (bit p of a word for the parent p)
pub data Case : Type 0 where
  orders : List ℤ → List ℕ → List ℕ → List ℕ → List ℕ → Case
  refuses : List ℤ → List ℕ → List ℕ → ℕ → Case
  cuts : List ℤ → List ℕ → List ℕ → Case

-- the chunk lengths of a cluster's order
abbrev pub cluster_chunks : List ℤ → List ℕ → List ℕ → List ℕ
cluster_chunks fs ss ps = chunk_lengths (map (rate_at fs ss) (linear_order fs ss ps))

-- what a line says: that a cluster is answered with an order and chunk lengths; that it is refused, in a room as long as its members; or the
-- chunk lengths of a list as it stands
abbrev pub Says : Case → Type 0
Says (orders fs ss ps order chunks) = (answer_of (refusals fs ss ps ss) ≡ 0) × (linear_order fs ss ps ≡ order) × (cluster_chunks fs ss ps ≡ chunks)
Says (refuses fs ss ps k) = answer_of (refusals fs ss ps ss) ≡ k
Says (cuts fs ss chunks) = chunk_lengths (rates fs ss) ≡ chunks

-- the same as a test
unfoldable pub right : Case → Bool
right (orders fs ss ps order chunks) = eqb (answer_of (refusals fs ss ps ss)) 0 && (same (linear_order fs ss ps) order && same (cluster_chunks fs ss ps) chunks)
right (refuses fs ss ps k) = eqb (answer_of (refusals fs ss ps ss)) k
right (cuts fs ss chunks) = same (chunk_lengths (rates fs ss)) chunks

unfoldable pub cases : List Case
cases =
    -- "empty gives empty"
    orders [] [] [] [] []
    -- "one member: order 0, chunks 1", and "A sole member naming itself: order 0"
    ∷ orders (pos 7 ∷ []) (100 ∷ []) (0 ∷ []) (0 ∷ []) (1 ∷ [])
    ∷ orders (pos 7 ∷ []) (100 ∷ []) (1 ∷ []) (0 ∷ []) (1 ∷ [])
    -- "(0,100), (300,100;0): order 0,1; chunks 2"
    ∷ orders (pos 0 ∷ pos 300 ∷ []) (100 ∷ 100 ∷ []) (0 ∷ 1 ∷ []) (0 ∷ 1 ∷ []) (2 ∷ [])
    -- "(100,100), (100,100;0): 0,1; chunks 1,1"
    ∷ orders (pos 100 ∷ pos 100 ∷ []) (100 ∷ 100 ∷ []) (0 ∷ 1 ∷ []) (0 ∷ 1 ∷ []) (1 ∷ 1 ∷ [])
    -- "(200,200), (100,100): 1,0; chunks 1,1"
    ∷ orders (pos 200 ∷ pos 100 ∷ []) (200 ∷ 100 ∷ []) (0 ∷ 0 ∷ []) (1 ∷ 0 ∷ []) (1 ∷ 1 ∷ [])
    -- "(10,100), (20,100), (30,100): 2,1,0"
    ∷ orders (pos 10 ∷ pos 20 ∷ pos 30 ∷ []) (100 ∷ 100 ∷ 100 ∷ []) (0 ∷ 0 ∷ 0 ∷ []) (2 ∷ 1 ∷ 0 ∷ []) (1 ∷ 1 ∷ 1 ∷ [])
    -- "(0,100), (100,100;0), (300,100;0): 0,2,1; chunks 2,1"
    ∷ orders (pos 0 ∷ pos 100 ∷ pos 300 ∷ []) (100 ∷ 100 ∷ 100 ∷ []) (0 ∷ 1 ∷ 1 ∷ []) (0 ∷ 2 ∷ 1 ∷ []) (2 ∷ 1 ∷ [])
    -- "chunk list (1,1), (0,1), (2,1): 1,2", "(0,0), (0,0): 1,1", "(1,1), (5,0): 2"
    ∷ cuts (pos 1 ∷ pos 0 ∷ pos 2 ∷ []) (1 ∷ 1 ∷ 1 ∷ []) (1 ∷ 2 ∷ [])
    ∷ cuts (pos 0 ∷ pos 0 ∷ []) (0 ∷ 0 ∷ []) (1 ∷ 1 ∷ [])
    ∷ cuts (pos 1 ∷ pos 5 ∷ []) (1 ∷ 0 ∷ []) (2 ∷ [])
    -- not of the document, one for each wrong program that it names, which answers otherwise although the later steps repair what they
    -- can. "choosing the first ancestor set well and then running by position" would give 0,2,4,1,3
    ∷ orders (pos 6 ∷ pos 4 ∷ pos 1 ∷ pos 8 ∷ pos 2 ∷ []) (2 ∷ 1 ∷ 1 ∷ 2 ∷ 2 ∷ []) (0 ∷ 21 ∷ 0 ∷ 16 ∷ 0 ∷ []) (0 ∷ 4 ∷ 3 ∷ 2 ∷ 1 ∷ []) (1 ∷ 2 ∷ 2 ∷ [])
    -- "Using ancestor sums without giving back the members already out": 3,0,4,1,2
    ∷ orders (pos 1 ∷ pos 4 ∷ pos 3 ∷ pos 5 ∷ pos 0 ∷ []) (3 ∷ 2 ∷ 2 ∷ 1 ∷ 1 ∷ []) (8 ∷ 25 ∷ 16 ∷ 0 ∷ 0 ∷ []) (3 ∷ 4 ∷ 2 ∷ 0 ∷ 1 ∷ []) (1 ∷ 2 ∷ 2 ∷ [])
    -- "Joining chunks at equal feerate", where the order is cut: 2,0,1
    ∷ orders (pos 0 ∷ pos 1 ∷ pos 1 ∷ []) (1 ∷ 1 ∷ 2 ∷ []) (0 ∷ 1 ∷ 0 ∷ []) (0 ∷ 1 ∷ 2 ∷ []) (2 ∷ 1 ∷ [])
    -- the same, where a post pass goes on at equal feerates: 2,3,1,0,5,4
    ∷ orders (pos 3 ∷ pos 8 ∷ pos 0 ∷ pos 9 ∷ pos 9 ∷ pos 7 ∷ []) (3 ∷ 2 ∷ 2 ∷ 2 ∷ 1 ∷ 3 ∷ []) (0 ∷ 4 ∷ 0 ∷ 4 ∷ 44 ∷ 1 ∷ []) (0 ∷ 5 ∷ 2 ∷ 3 ∷ 4 ∷ 1 ∷ []) (6 ∷ [])
    -- "Comparing fee / size after division": 0,1
    ∷ orders (pos 0 ∷ pos 1 ∷ []) (1 ∷ 2 ∷ []) (0 ∷ 0 ∷ []) (1 ∷ 0 ∷ []) (1 ∷ 1 ∷ [])
    -- "or products in 64 bits": 0,1, since 2^50 × 2^13 is taken for a number below 0
    ∷ orders (pos 1 ∷ pos 1125899906842624 ∷ []) (8192 ∷ 1 ∷ []) (0 ∷ 0 ∷ []) (1 ∷ 0 ∷ []) (1 ∷ 1 ∷ [])
    -- "0 and 1 parents of each other: refusal 4"
    ∷ refuses (pos 1 ∷ pos 2 ∷ []) (1 ∷ 1 ∷ []) (2 ∷ 1 ∷ []) 4
    ∷ []
