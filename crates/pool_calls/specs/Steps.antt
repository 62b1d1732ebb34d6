-- What the steps of `remove` hand to each other: no contract outside this crate cites this. Assumes nothing.
use Rattle.std.specs.Prelude.{ℕ, ◌≤◌, ◌≡◌, true, List, length}
use Rattle.pool_table.specs.Pool.{Pool, weight_at}
use Rattle.pool_table.specs.Words.{is_legal, pool_of}
use Rattle.pool_table.specs.Changes.{unlinked}
use Rattle.pool_rules.specs.Module8.{with_slots}

-- no slot names r any more
unfoldable pub unlinked_all : ℕ → Pool → Pool
unlinked_all r p = with_slots p p.total (λ s x. unlinked r x)

-- a table from which slot r can be taken: of a legal length, with a total that has the slot's weight in it
pub record Takable (t : List ℕ) (r : ℕ) : Type 0 where
  pub legal : is_legal (length t) ≡ true
  pub within : weight_at (pool_of t) r ≤ (pool_of t).total
