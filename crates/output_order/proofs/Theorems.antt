-- What the order of specs/Output.antt is, for readers: each member once, and after its ancestors; and where the order given is whole and has
-- each member after its ancestors, all members, since no round is idle. `fs` are the fees of the members, `ss` their sizes, `anc i a` says
-- that a is an ancestor of i, and `order` is what is cut into chunks. Assumes nothing.
use Prim.Native.Nat.{ℕ, ◌≤◌, ◌<◌}
use native.Mathlib.Omega.{arith}
use mathlib.Core.Path.{◌≡◌}
use mathlib.Core.Bool.{Bool, true, false}
use mathlib.Core.List.{List, [], ◌∷◌, ◌++◌, map}
use lib.IntN.{ℤ}
use lib.ListN.{length, length-map}
use Rattle.feefrac.specs.Rate.{rate_at}
use Rattle.lists.specs.Below.{list_from}
use Rattle.lists.specs.Lists.{elem, distinct}
use Rattle.feeset.specs.Scan.{best, ranks_above}
use Rattle.chunking.specs.Chunks.{chunk_lengths}
use Rattle.chunking.proofs.Theorems.{lengths_sum}
use Rattle.lists.proofs.Lists.{After, after_none}
use Rattle.lists.proofs.Once.{Once, once_none, once_more, all_there, once_missing}
use Rattle.chunking.specs.Orders.{chunks_of, chunk_at}
use Rattle.output_order.specs.Output.{chunk_ready, member_ready, next_chunk, output_order}
use Rattle.chunking.proofs.Orders.{length_cut}
use Rattle.output_order.proofs.Kept.{may_come, Ready, keeps_out, after_ready}
use Rattle.output_order.proofs.Progress.{Parts, cut_stands, cut_covers, first_member, first_chunk, next_member}
use Rattle.output_order.proofs.Progress.{stage, stage_out, sound, found, all_out}

module _ (fs : List ℤ) (ss : List ℕ) (anc : ℕ → ℕ → Bool) (order : List ℕ) where
  -- what one more that is ready keeps, the output has
  kept : (P : List ℕ → Type 0) → ((c out : List ℕ) (t : ℕ) → Ready (length fs) anc c out t → P out → P (out ++ (t ∷ []))) → P []
      → P (output_order fs ss anc order)
  unfolding output_order
  kept P step = keeps_out fs ss (length fs) anc P step (chunks_of fs ss order) (length (chunks_of fs ss order)) [] []

  taken : Once (length fs) (output_order fs ss anc order)
  taken = kept (Once (length fs)) (λ c out t r. once_more (length fs) out t r.below r.new) (once_none (length fs))

  -- each element is a member
  pub out_below : (i : ℕ) → elem i (output_order fs ss anc order) ≡ true → i < length fs
  out_below = taken.below

  -- no element comes twice
  pub out_once : distinct (output_order fs ss anc order) ≡ true
  out_once = taken.once

  -- every element comes after its ancestors
  pub out_after_lem : (xs ys : List ℕ) (i a : ℕ) → output_order fs ss anc order ≡ xs ++ (i ∷ ys) → a < length fs → anc i a ≡ true → (a ≡ i → ⊥)
      → elem a xs ≡ true
  out_after_lem = kept (After (length fs) anc) (λ c out t r. after_ready (length fs) anc out t r.ready) (after_none (length fs) anc)

  -- the chunks that are gone, and what is out, after r rounds
  abbrev pub gone_after : ℕ → List ℕ
  gone_after r = (stage fs ss (length fs) anc (chunks_of fs ss order) r).gone

  abbrev pub out_after : ℕ → List ℕ
  out_after r = (stage fs ss (length fs) anc (chunks_of fs ss order) r).out

  -- the output is what is out after as many rounds as there are chunks
  pub rounds_out : output_order fs ss anc order ≡ out_after (length (chunks_of fs ss order))
  unfolding output_order stage
  rounds_out = let r = length (chunks_of fs ss order) in stage_out fs ss (length fs) anc (chunks_of fs ss order) r 0 r (omega arith)

  parts : Parts (chunks_of fs ss order) order
  unfolding chunks_of
  parts = cut_stands (chunk_lengths (map (rate_at fs ss) order)) order

  -- each of the order is in some chunk
  in_chunk : (i : ℕ) → elem i order ≡ true
      → (k : ℕ) × ((k < length (chunks_of fs ss order)) × (elem i (chunk_at (chunks_of fs ss order) k) ≡ true))
  unfolding chunks_of
  in_chunk i e =
      let rs = map (rate_at fs ss) order in
      let c = cut_covers (chunk_lengths rs) order (omega (arith, lengths_sum rs, length-map order (rate_at fs ss))) i e in
      (c.0, (omega (arith, c.1.0, length_cut (chunk_lengths rs) order), c.1.1))

  -- where each member stands in the order after its ancestors
  module _
      (after : (xs ys : List ℕ) (i a : ℕ) → order ≡ xs ++ (i ∷ ys) → a < length fs → anc i a ≡ true → (a ≡ i → ⊥) → elem a xs ≡ true) where
    -- inside a ready chunk, of the members not out the first in the order is ready
    pub ready_member : (c out xs ys : List ℕ) (t : ℕ) → chunk_ready (length fs) anc out c ≡ true → order ≡ xs ++ (t ∷ ys) → t < length fs
        → elem t c ≡ true → ((x : ℕ) → x < length fs → elem x xs ≡ true → elem x c ≡ true → elem x out ≡ true)
        → member_ready (length fs) anc out t ≡ true
    ready_member = first_member (length fs) anc order after

    -- and each is in the order
    module _ (whole : (i : ℕ) → i < length fs → elem i order ≡ true) where
      -- so a member is found while one is not out
      pub member_found : (c out : List ℕ) (i : ℕ) → chunk_ready (length fs) anc out c ≡ true → i < length fs → elem i c ≡ true → elem i out ≡ false
          → (t : ℕ) × (best (ranks_above (rate_at fs ss)) (list_from (may_come (length fs) anc c out) (length fs) 0) ≡ t ∷ [])
      member_found c out i h l e q = let b = next_member (length fs) anc order after fs ss whole c out i h l e q in (b.0, b.1.is)

      -- in every round, of the chunks not gone the first is ready
      pub ready_chunk : (r k : ℕ) → r ≤ length (chunks_of fs ss order) → ((j : ℕ) → j < k → elem j (gone_after r) ≡ true)
          → chunk_ready (length fs) anc (out_after r) (chunk_at (chunks_of fs ss order) k) ≡ true
      ready_chunk r k l =
          first_chunk (length fs) anc order after (chunks_of fs ss order) parts (gone_after r) (out_after r) k
          (sound (length fs) anc order after fs ss whole (chunks_of fs ss order) parts r l).outs

      -- so every round finds a chunk
      pub chunk_found : (r : ℕ) → r < length (chunks_of fs ss order)
          → (k : ℕ) × (next_chunk fs ss (length fs) anc (chunks_of fs ss order) (gone_after r) (out_after r) ≡ k ∷ [])
      chunk_found = found (length fs) anc order after fs ss whole (chunks_of fs ss order) parts

      -- each member is an element
      pub out_every : (i : ℕ) → i < length fs → elem i (output_order fs ss anc order) ≡ true
      unfolding output_order
      out_every i l =
          let c = in_chunk i (whole i l) in
          all_out (length fs) anc order after fs ss whole (chunks_of fs ss order) parts c.0 i c.1.0 l c.1.1

      -- there are as many elements as members
      pub out_length : length (output_order fs ss anc order) ≡ length fs
      out_length =
          let out = output_order fs ss anc order in
          omega (arith, once_missing (length fs) out taken, all_there (length fs) out out_every)
