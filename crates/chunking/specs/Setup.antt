-- What the functions of this crate say to each other: no contract outside this crate cites it. Assumes nothing.
use Rattle.std.specs.Prelude.{ℕ, zero, suc, ◌<◌, ◌≤◌, ◌≡◌, List, [], ◌∷◌, length, get_or}
use Rattle.feefrac.specs.declared.FeeFrac.{FeeFrac}
use Rattle.feefrac.specs.Rate.{zero_rate}
use Rattle.txset.specs.Sets.{positions}
use Rattle.chunking.specs.declared.Chunk.{Chunk}
use Rattle.chunking.specs.Chunks.{chunks_after}

-- at most 64 members, of these feerates: what may be called with a number below n answers the one that stands there in the list
pub record Rated (n : ℕ) (callable : ℕ → Type 0) (answers : ℕ → FeeFrac → Type 0) (rs : List FeeFrac) : Type 0 where
  pub few : n ≤ positions
  pub many : length rs ≡ n
  pub may : (i : ℕ) → i < n → callable i
  pub each : (i : ℕ) (r : FeeFrac) → i < n → answers i r → r ≡ get_or rs i zero_rate

abbrev pub no_chunk : Chunk
no_chunk = record { rate = zero_rate; len = 0 }

-- the first n of a list of chunks, the last of them first
unfoldable pub stk : List Chunk → ℕ → List Chunk
stk xs zero = []
stk xs (suc n) = get_or xs n no_chunk ∷ stk xs n

-- the first n of a stack are the chunks of these members
pub record Stacked (xs : List Chunk) (n : ℕ) (rs : List FeeFrac) : Type 0 where
  pub wide : n ≤ length xs
  pub few : n ≤ length rs
  pub same : stk xs n ≡ chunks_after [] rs
