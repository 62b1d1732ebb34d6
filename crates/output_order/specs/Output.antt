-- Document 01, module 7 (output_order): the chunks of a linearization, and the members inside each, put out in their final order.
-- `n` is the number of members, `anc i a` says that a is an ancestor of i, `out` lists what is out. Assumes nothing.
use Rattle.std.specs.Prelude.{ℕ, zero, suc, Bool, cond, not, ◌&&◌, ◌||◌, List, [], ◌∷◌, ◌++◌, length, eqb, leb, ℤ}
use Rattle.feefrac.specs.declared.FeeFrac.{FeeFrac}
use Rattle.feefrac.specs.Rate.{rank_order, size_order, then_by, is_greater, rate_at}
use Rattle.lists.specs.Below.{all_from, list_from}
use Rattle.lists.specs.Lists.{elem, highest_of, overwrite}
use Rattle.txset.specs.Sets.{positions}
use Rattle.feeset.specs.Total.{total}
use Rattle.chunking.specs.Orders.{chunks_of, chunk_at}
use Rattle.feeset.specs.Scan.{best, ranks_above}

-- a chunk's feerate sum
unfoldable pub chunk_rate : List ℤ → List ℕ → ℕ → List ℕ → FeeFrac
chunk_rate fs ss n c = total fs ss (list_from (λ i. elem i c) n 0)

-- "take the highest rank, then the lowest highest-position"
unfoldable pub chunk_above : List ℤ → List ℕ → ℕ → List (List ℕ) → ℕ → ℕ → Bool
chunk_above fs ss n cs j k =
    is_greater (then_by (rank_order (chunk_rate fs ss n (chunk_at cs j)) (chunk_rate fs ss n (chunk_at cs k))) (size_order (highest_of (chunk_at cs k)) (highest_of (chunk_at cs j))))

-- "every outside ancestor already out": each ancestor of a member is in the chunk or out
unfoldable pub chunk_ready : ℕ → (ℕ → ℕ → Bool) → List ℕ → List ℕ → Bool
chunk_ready n anc out c = all_from (λ t. not (elem t c) || all_from (λ a. not (anc t a) || (elem a c || elem a out)) n 0) n 0

-- "the members with their other ancestors out"
unfoldable pub member_ready : ℕ → (ℕ → ℕ → Bool) → List ℕ → ℕ → Bool
member_ready n anc out t = all_from (λ a. not (anc t a) || (eqb a t || elem a out)) n 0

-- "Inside, of the members with their other ancestors out, the highest own rank, then the lowest position": k of them
unfoldable pub inside : List ℤ → List ℕ → ℕ → (ℕ → ℕ → Bool) → List ℕ → ℕ → List ℕ → List ℕ
inside fs ss n anc c zero out = out
inside fs ss n anc c (suc k) out =
    inside fs ss n anc c k (out ++ best (ranks_above (rate_at fs ss)) (list_from (λ t. (elem t c && not (elem t out)) && member_ready n anc out t) n 0))

-- all members of the chunk taken
unfoldable pub put_out : List ℤ → List ℕ → ℕ → (ℕ → ℕ → Bool) → List (List ℕ) → List ℕ → List ℕ → List ℕ
put_out fs ss n anc cs out [] = out
put_out fs ss n anc cs out (k ∷ ks) = inside fs ss n anc (chunk_at cs k) (length (chunk_at cs k)) out

-- "Of the chunks with every outside ancestor already out, take the highest .."; `gone` lists the chunks taken
unfoldable pub next_chunk : List ℤ → List ℕ → ℕ → (ℕ → ℕ → Bool) → List (List ℕ) → List ℕ → List ℕ → List ℕ
next_chunk fs ss n anc cs gone out =
    best (chunk_above fs ss n cs) (list_from (λ k. not (elem k gone) && chunk_ready n anc out (chunk_at cs k)) (length cs) 0)

-- a chunk a round
unfoldable pub chunks_out : List ℤ → List ℕ → ℕ → (ℕ → ℕ → Bool) → List (List ℕ) → ℕ → List ℕ → List ℕ → List ℕ
chunks_out fs ss n anc cs zero gone out = out
chunks_out fs ss n anc cs (suc r) gone out = chunks_out fs ss n anc cs r (ks ++ gone) (put_out fs ss n anc cs out ks)
  where
    ks : List ℕ
    ks = next_chunk fs ss n anc cs gone out

unfoldable pub output_order : List ℤ → List ℕ → (ℕ → ℕ → Bool) → List ℕ → List ℕ
output_order fs ss anc order = chunks_out fs ss (length fs) anc (chunks_of fs ss order) (length (chunks_of fs ss order)) [] []

-- ---- what the function between crates promises for any input

-- whether there are at most 64 members, an order of at most as many, and a place for each
unfoldable pub fits : List ℤ → List ℕ → List ℕ → Bool
fits fs order room = leb (length fs) positions && (leb (length order) (length fs) && leb (length fs) (length room))

unfoldable pub written : List ℤ → List ℕ → (ℕ → ℕ → Bool) → List ℕ → List ℕ → ℕ
written fs ss anc order room = cond (fits fs order room) (length (output_order fs ss anc order)) 0

unfoldable pub filled : List ℤ → List ℕ → (ℕ → ℕ → Bool) → List ℕ → List ℕ → List ℕ
filled fs ss anc order room = cond (fits fs order room) (overwrite (output_order fs ss anc order) room) room
