-- What the functions that choose and put out speak of: no contract outside this crate cites these. Assumes nothing.
use Rattle.std.specs.Prelude.{ℕ, ◌≤◌, ◌<◌, ◌≡◌, Bool, true, not, ◌&&◌, ◌||◌, List, [], ◌∷◌, ◌++◌, length, drop, eqb, ltb, ℤ, Option, Some, None}
use Rattle.feefrac.specs.Rate.{rank_order, size_order, then_by, is_greater, rate_at}
use Rattle.txset.specs.declared.TxSet.{TxSet}
use Rattle.lists.specs.Below.{all_from}
use Rattle.lists.specs.Lists.{elem, only}
use Rattle.txset.specs.Sets.{positions, mem, members, size, is_subset, set_at}
use Rattle.feeset.specs.Scan.{best, ranks_above}
use Rattle.output_order.specs.declared.Out.{Out}
use Rattle.output_order.specs.declared.Piece.{Piece}
use Rattle.output_order.specs.Steps.{piece_at}
use Rattle.output_order.specs.Output.{inside}

-- what was chosen, as a list of one or none
abbrev pub chosen : Option ℕ → List ℕ
chosen (Some k) = k ∷ []
chosen None = []

-- one chunk goes before another, by their sums and their highest positions
unfoldable pub piece_above : Piece → Piece → Bool
piece_above p q = is_greater (then_by (rank_order p.rate q.rate) (size_order q.top p.top))

abbrev pub sum_above : List Piece → ℕ → ℕ → Bool
sum_above ps j k = piece_above (piece_at ps j) (piece_at ps k)

-- what chunk k has outside it is done
abbrev pub covered : List Piece → TxSet → ℕ → Bool
covered ps done k = is_subset (piece_at ps k).outside done

-- the ancestors of t other than t that are in `all` are done
unfoldable pub freed : List ℕ → TxSet → TxSet → ℕ → Bool
freed ancestors all done t = all_from (λ a. not ((mem (set_at ancestors t) a && mem all a) && not (eqb a t)) || mem done a) positions 0

-- of the chunks left the one to go next, by the sets; none where none is ready
abbrev pub chunk_of : List Piece → TxSet → TxSet → List ℕ
chunk_of ps left done = best (sum_above ps) (only (covered ps done) (members left))

-- of the members left the one to go next, by the sets; none where none is ready
abbrev pub member_of : List ℤ → List ℕ → List ℕ → TxSet → TxSet → TxSet → List ℕ
member_of fs ss ancestors all left done = best (ranks_above (rate_at fs ss)) (only (freed ancestors all done) (members left))

-- the ancestors of those left are left or done, as far as they are in `all`
pub record Within (ancestors : List ℕ) (all left done : TxSet) : Type 0 where
  pub either : (t a : ℕ) → mem left t ≡ true → mem (set_at ancestors t) a ≡ true → mem all a ≡ true → (mem left a || mem done a) ≡ true

-- what is done are `len` of the n members, and the room has a place for each
pub record Standing (n : ℕ) (done : TxSet) (len : ℕ) (room : List ℕ) : Type 0 where
  pub below : (i : ℕ) → mem done i ≡ true → i < n
  pub count : len ≡ size done
  pub place : n ≤ length room

-- `out` is out: as a set, and at the start of a room that was `old`
pub record Placed (out : List ℕ) (done : TxSet) (len : ℕ) (old room : List ℕ) : Type 0 where
  pub member : (i : ℕ) → mem done i ≡ elem i out
  pub count : len ≡ length out
  pub are : room ≡ out ++ drop len old
  pub long : length room ≡ length old

-- what is done and in the room after the members of a chunk were put out
pub record Put (fs : List ℤ) (ss : List ℕ) (n : ℕ) (anc : ℕ → ℕ → Bool) (chunk done : TxSet) (len : ℕ) (room : List ℕ)
    (done' : TxSet) (len' : ℕ) (room' : List ℕ) : Type 0 where
  pub stands : Standing n done' len' room'
  pub puts : (c out old : List ℕ) → ((i : ℕ) → mem chunk i ≡ (ltb i n && elem i c)) → Placed out done len old room
      → Placed (inside fs ss n anc c (length c) out) done' len' old room'

-- the same of what is out before and after
abbrev pub PutOut : List ℤ → List ℕ → (ℕ → ℕ → Bool) → TxSet → Out → List ℕ → Out → List ℕ → Type 0
PutOut fs ss anc chunk before room after room' = Put fs ss (length fs) anc chunk before.done before.len room after.done after.len room'
