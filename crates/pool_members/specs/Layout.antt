-- What the function between crates promises: the clusters of a pool in arrays. Of free slots `firsts` and `ups` say nothing. Assumes nothing.
use Rattle.std.specs.Prelude.{ℕ, ◌≡◌, true, List, length, get_or, take, drop}
use Rattle.pool_table.specs.Pool.{Pool, occupied}
use Rattle.pool_members.specs.Members.{members_of, parents_of, clusters}
use Rattle.pool_members.specs.Rows.{Rows}

-- by slot: where its cluster starts among all members, and its parents as positions in its cluster
pub record Places (p : Pool) (members firsts ups : List ℕ) : Type 0 where
  pub cluster : (s : ℕ) → occupied p s ≡ true → take (length (members_of p s)) (drop (get_or firsts s 0) members) ≡ members_of p s
  pub parents : (s : ℕ) → occupied p s ≡ true → get_or ups s 0 ≡ parents_of p (members_of p s) s

-- the clusters one after the other, the members of cluster k from `bounds` k to `bounds` (k + 1)
pub record LaidOut (p : Pool) (count : ℕ) (members bounds firsts ups : List ℕ) : Type 0 where
  pub many : count ≡ length (clusters p)
  pub rows : Rows members bounds (clusters p)
  pub places : Places p members firsts ups
