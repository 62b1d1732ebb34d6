-- The loop of `survey` as a record over plain values, with a law for each thing that the code does: it starts, takes a turn, is done; and
-- the sums of sets as those of chunks. Assumes nothing.
use Rattle.std.proofs.Common.{Option, Some}
use Prim.Native.Nat.{ℕ, ◌+◌, ◌≤◌, ◌<◌}
use native.Mathlib.Omega.{arith}
use mathlib.Core.Path.{◌≡◌, refl, ap, ap₂, ◌∙◌}
use mathlib.Core.Bool.{Bool}
use mathlib.Core.List.{List}
use lib.ListN.{length, set, length-set}
use lib.Seq.{get_or-set_same, get_or-set_other}
use lib.IntN.{ℤ}
use borrow.Author.Count.{below_none, below_more}
use Rattle.feefrac.specs.declared.FeeFrac.{FeeFrac}
use Rattle.lists.specs.Lists.{elem}
use Rattle.txset.specs.Sets.{positions, mem, members}
use Rattle.lists.proofs.Ranges.{list_below}
use Rattle.feeset.specs.Total.{total}
use Rattle.chunking.specs.Orders.{chunk_at}
use Rattle.output_order.specs.Output.{chunk_rate}
use Rattle.output_order.specs.declared.Fall.{Fall}
use Rattle.output_order.specs.declared.Piece.{Piece}
use Rattle.output_order.specs.Steps.{no_piece, piece_at, rate_of, summed, Cut, Summed, Drops, Fallen, FallsFrom, FallsOn}
use Rattle.output_order.proofs.Falling.{fallen_done}

-- the sum of the j-th set
abbrev sum_of : List ℤ → List ℕ → List Piece → ℕ → FeeFrac
sum_of fs ss ps j = total fs ss (members (piece_at ps j).set)

-- the first k of `old` have got their sums, and `fall` is what is known of them
pub record Surveying (fs : List ℤ) (ss : List ℕ) (old new : List Piece) (fall : Option Fall) (k : ℕ) : Type 0 where
  pub long : length new ≡ positions
  pub sums : Summed fs ss old new k
  pub rest : (j : ℕ) → k ≤ j → piece_at new j ≡ piece_at old j
  pub fallen : Fallen (sum_of fs ss old) fall k

-- the k-th gets its sum, r
abbrev pub with_rate : FeeFrac → Piece → Piece
with_rate r p = record { rate = r; set = p.set; outside = p.outside; top = p.top }

module _ {fs : List ℤ} {ss : List ℕ} {old new : List Piece} {k : ℕ} (sums : Summed fs ss old new k) (rest : (j : ℕ) → k ≤ j → piece_at new j ≡ piece_at old j)
    (b : k < length new) {r : FeeFrac} (e : r ≡ total fs ss (members (piece_at new k).set)) where
  sum_is : r ≡ sum_of fs ss old k
  sum_is = e ∙ ap (λ (p : Piece). total fs ss (members p.set)) (rest k (omega arith))

  summed_turn : Summed fs ss old (set new k (with_rate r (piece_at new k))) (k + 1)
  summed_turn = record {
    are = below_more (λ j. piece_at (set new k (with_rate r (piece_at new k))) j ≡ summed fs ss (piece_at old j)) k
        (λ j l. get_or-set_other new k j (with_rate r (piece_at new k)) no_piece (λ z. omega arith) ∙ sums.are j l)
        (get_or-set_same new k (with_rate r (piece_at new k)) no_piece b ∙ ap₂ with_rate sum_is (rest k (omega arith)));
  }

  rest_turn : (j : ℕ) → k + 1 ≤ j → piece_at (set new k (with_rate r (piece_at new k))) j ≡ piece_at old j
  rest_turn j l = get_or-set_other new k j (with_rate r (piece_at new k)) no_piece (λ z. omega arith) ∙ rest j (omega arith)

-- the first
pub survey_start : {fs : List ℤ} {ss : List ℕ} (old : List Piece) → length old ≡ positions → {r : FeeFrac} {fall : Option Fall}
    → r ≡ total fs ss (members (piece_at old 0).set) → FallsFrom r fall → Surveying fs ss old (set old 0 (with_rate r (piece_at old 0))) fall 1
survey_start {fs} {ss} old l {r} e from =
    let none : Summed fs ss old old 0 = record { are = below_none _ } in
    let b : 0 < length old = omega (arith, l) in
    record {
      long = length-set old 0 (with_rate r (piece_at old 0)) ∙ l;
      sums = summed_turn none (λ j _. refl) b e;
      rest = rest_turn none (λ j _. refl) b e;
      fallen = from.known (sum_of fs ss old) e;
    }

module _ {fs : List ℤ} {ss : List ℕ} {old new : List Piece} {fall : Option Fall} {k : ℕ} (h : Surveying fs ss old new fall k) where
  -- one more
  pub survey_turn : k < positions → {r : FeeFrac} {next : Option Fall} → r ≡ total fs ss (members (piece_at new k).set) → FallsOn fall r k next
      → Surveying fs ss old (set new k (with_rate r (piece_at new k))) next (k + 1)
  survey_turn l {r} e on =
      let b : k < length new = omega (arith, h.long) in
      record {
        long = length-set new k (with_rate r (piece_at new k)) ∙ h.long;
        sums = summed_turn h.sums h.rest b e;
        rest = rest_turn h.sums h.rest b e;
        fallen = on.known (sum_of fs ss old) (sum_is h.sums h.rest b e) h.fallen;
      }

  -- as many as were asked for
  pub survey_sums : {r : ℕ} → r ≤ k → Summed fs ss old new r
  survey_sums l = record { are = λ j b. h.sums.are j (omega arith) }

  pub survey_drops : {r : ℕ} {f : Fall} → r ≤ k → fall ≡ Some f → Drops (rate_of new) r f.drops
  survey_drops {f = f} l is =
      let fallen : Fallen (sum_of fs ss old) (Some f) k = rw is at h.fallen in
      fallen_done (rate_of new) fallen l (λ i b. ap (λ (p : Piece). p.rate) (h.sums.are i (omega arith)))

-- so where the pieces hold the chunks, they still do, and each sum is that of its chunk
module _ {fs : List ℤ} {ss : List ℕ} {n : ℕ} {anc : ℕ → ℕ → Bool} {old new : List Piece} {r : ℕ} {cs : List (List ℕ)} (c : Cut n anc cs old r)
    (sums : Summed fs ss old new r) where
  pub chunks_stay : Cut n anc cs new r
  chunks_stay = record { count = c.count; few = c.few; holds = λ k l. rw (sums.are k l) (c.holds k l) }

  pub chunk_rates : n ≤ positions → (k : ℕ) → k < r → rate_of new k ≡ chunk_rate fs ss n (chunk_at cs k)
  unfolding chunk_rate members
  chunk_rates few k l =
      ap (λ (p : Piece). p.rate) (sums.are k l)
      ∙ ap (total fs ss) (list_below (mem (piece_at old k).set) (λ i. elem i (chunk_at cs k)) n positions few (c.holds k l).members)
