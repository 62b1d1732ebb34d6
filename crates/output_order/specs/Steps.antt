-- What the functions below output_order speak of: no contract outside this crate cites these. Assumes nothing.
use Rattle.std.specs.Prelude.{ℕ, ◌+◌, ◌-◌, ◌≤◌, ◌<◌, ◌≡◌, Bool, true, false, not, ◌&&◌, List, [], ◌∷◌, ◌++◌, length, get_or, ltb, ℤ, Option, IfSome}
use Rattle.feefrac.specs.declared.FeeFrac.{FeeFrac}
use Rattle.feefrac.specs.Rate.{zero_rate, higher}
use Rattle.txset.specs.declared.TxSet.{TxSet}
use Rattle.lists.specs.Lists.{any_of, elem, highest_of}
use Rattle.txset.specs.Sets.{positions, mem, members}
use Rattle.feeset.specs.Total.{total}
use Rattle.chunking.specs.declared.Chunk.{Chunk}
use Rattle.chunking.specs.Chunks.{swallow}
use Rattle.chunking.specs.Orders.{chunk_at}
use Rattle.output_order.specs.declared.Piece.{Piece}
use Rattle.output_order.specs.declared.Fall.{Fall}

-- `all` is the set of the n members, at most 64
pub record All (n : ℕ) (all : TxSet) : Type 0 where
  pub few : n ≤ positions
  pub are : (i : ℕ) → mem all i ≡ ltb i n

-- ---- the cut

-- whether a is an ancestor of a member in c
unfoldable pub needed : ℕ → (ℕ → ℕ → Bool) → List ℕ → ℕ → Bool
needed n anc c a = any_of (λ t. ltb t n && anc t a) c

-- what is held of a chunk: its members as a set, the ancestors that these have outside it, and its highest position
pub record Holds (n : ℕ) (anc : ℕ → ℕ → Bool) (c : List ℕ) (set outside : TxSet) (top : ℕ) : Type 0 where
  pub members : (i : ℕ) → mem set i ≡ (ltb i n && elem i c)
  pub outsiders : (a : ℕ) → mem outside a ≡ (ltb a n && (needed n anc c a && not (elem a c)))
  pub highest : top ≡ highest_of c

-- what a list of chunks has at a place; past its end, a chunk of no members
abbrev pub no_piece : Piece
no_piece = record { rate = zero_rate; set = record { word = 0 }; outside = record { word = 0 }; top = 0 }

abbrev pub piece_at : List Piece → ℕ → Piece
piece_at ps k = get_or ps k no_piece

abbrev pub rate_of : List Piece → ℕ → FeeFrac
rate_of ps k = (piece_at ps k).rate

-- what a piece is of a chunk
abbrev pub HoldsAs : ℕ → (ℕ → ℕ → Bool) → List ℕ → Piece → Type 0
HoldsAs n anc c p = Holds n anc c p.set p.outside p.top

-- r chunks, and what is held of each
pub record Cut (n : ℕ) (anc : ℕ → ℕ → Bool) (cs : List (List ℕ)) (ps : List Piece) (r : ℕ) : Type 0 where
  pub count : r ≡ length cs
  pub few : r ≤ positions
  pub holds : (k : ℕ) → k < r → HoldsAs n anc (chunk_at cs k) (piece_at ps k)

-- p is t alone, with its feerate
pub record Alone (n : ℕ) (anc : ℕ → ℕ → Bool) (rate : FeeFrac) (t : ℕ) (p : Piece) : Type 0 where
  pub holds : HoldsAs n anc (t ∷ []) p
  pub rate_is : p.rate ≡ rate

-- a pile of chunks, the last first: each has P at its place, which is the number of those below it
unfoldable pub Piled : (ℕ → List ℕ → Type 0) → List (List ℕ) → Type 0
Piled P [] = Unit {0}
Piled P (c ∷ cs) = P (length cs) c × Piled P cs

-- the members of a pile in their order
unfoldable pub in_order : List (List ℕ) → List ℕ
in_order [] = []
in_order (c ∷ cs) = in_order cs ++ c

-- a pile as module 4 has it, by the feerates at its places
abbrev pub rated : FeeFrac → List ℕ → Chunk
rated r c = record { rate = r; len = length c }

unfoldable pub rated_pile : (ℕ → FeeFrac) → List (List ℕ) → List Chunk
rated_pile rate [] = []
rated_pile rate (c ∷ cs) = rated (rate (length cs)) c ∷ rated_pile rate cs

-- what the list holds of a chunk at a place
abbrev pub HeldAt : ℕ → (ℕ → ℕ → Bool) → List Piece → ℕ → List ℕ → Type 0
HeldAt n anc ps k c = HoldsAs n anc c (piece_at ps k)

-- a piece that was c with the feerate r, on a pile cs, has become q, of `chunk` on the pile `below` of `at` chunks, with the same members in the same
-- order; module 4's swallowing gives the same from here
pub record Grown (n : ℕ) (anc : ℕ → ℕ → Bool) (ps : List Piece) (r : FeeFrac) (c : List ℕ) (cs : List (List ℕ)) (q : Piece) (at : ℕ) : Type 0 where
  pub chunk : List ℕ
  pub below : List (List ℕ)
  pub place : length below ≡ at
  pub holds : HoldsAs n anc chunk q
  pub piled : Piled (HeldAt n anc ps) below
  pub ordered : in_order (chunk ∷ below) ≡ in_order (c ∷ cs)
  pub same : swallow (rated q.rate chunk) (rated_pile (rate_of ps) below) ≡ swallow (rated r c) (rated_pile (rate_of ps) cs)

-- so it is for whatever the piece p held, and whatever `count` chunks it stood on
pub record Growing (ps : List Piece) (p : Piece) (count : ℕ) (q : Piece) (at : ℕ) : Type 0 where
  pub down : at ≤ count
  pub grown : (n : ℕ) (anc : ℕ → ℕ → Bool) (c : List ℕ) (cs : List (List ℕ)) → length cs ≡ count → HoldsAs n anc c p
      → Piled (HeldAt n anc ps) cs → Grown n anc ps p.rate c cs q at

-- and nothing more is swallowed
pub record Swallowed (ps : List Piece) (p : Piece) (count : ℕ) (q : Piece) (at : ℕ) : Type 0 where
  pub growing : Growing ps p count q at
  pub stopped : (c : List ℕ) (cs : List (List ℕ)) → length cs ≡ at
      → swallow (rated q.rate c) (rated_pile (rate_of ps) cs) ≡ rated q.rate c ∷ rated_pile (rate_of ps) cs

-- ---- what is known of the chunks

-- a piece with the feerate sum of its set
abbrev pub summed : List ℤ → List ℕ → Piece → Piece
summed fs ss p = record { rate = total fs ss (members p.set); set = p.set; outside = p.outside; top = p.top }

-- so are the first r
pub record Summed (fs : List ℤ) (ss : List ℕ) (old new : List Piece) (r : ℕ) : Type 0 where
  pub are : (k : ℕ) → k < r → piece_at new k ≡ summed fs ss (piece_at old k)

-- each of `drops`, and each behind it in `left`, is below all before it
pub record Below (rate : ℕ → FeeFrac) (left drops : TxSet) : Type 0 where
  pub falls : (i d j : ℕ) → mem drops d ≡ true → i < d → d ≤ j → mem left j ≡ true → higher (rate i) (rate j) ≡ true

-- the same of the first r
pub record Drops (rate : ℕ → FeeFrac) (r : ℕ) (drops : TxSet) : Type 0 where
  pub falls : (i d j : ℕ) → mem drops d ≡ true → i < d → d ≤ j → j < r → higher (rate i) (rate j) ≡ true

-- the first k fall, `last` is the last of them, and each of `drops` is below all before it, as is each behind it
pub record Falling (rate : ℕ → FeeFrac) (last : FeeFrac) (k : ℕ) (drops : TxSet) : Type 0 where
  pub some : 1 ≤ k
  pub is : last ≡ rate (k - 1)
  pub sized : (i : ℕ) → i < k → 0 < (rate i).size
  pub falls : (i j : ℕ) → i < j → j < k → higher (rate j) (rate i) ≡ false
  pub within : (d : ℕ) → mem drops d ≡ true → d < k
  pub below : (i d j : ℕ) → mem drops d ≡ true → i < d → d ≤ j → j < k → higher (rate i) (rate j) ≡ true

-- what is known of the first k: that they fall, or nothing
abbrev pub Fallen : (ℕ → FeeFrac) → Option Fall → ℕ → Type 0
Fallen rate fall k = IfSome fall (λ f. Falling rate f.last k f.drops)

-- f is what is known of one alone
pub record FallsFrom (first : FeeFrac) (f : Option Fall) : Type 0 where
  pub known : (rate : ℕ → FeeFrac) → first ≡ rate 0 → Fallen rate f 1

-- f has become g by one more, the k-th
pub record FallsOn (f : Option Fall) (next : FeeFrac) (k : ℕ) (g : Option Fall) : Type 0 where
  pub known : (rate : ℕ → FeeFrac) → next ≡ rate k → Fallen rate f k → Fallen rate g (k + 1)
