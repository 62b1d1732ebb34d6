-- What the steps of `DepGraph::new` hand to each other: no contract outside this crate cites this. Assumes nothing.
use Rattle.std.specs.Prelude.{ℕ, ◌≤◌, ◌<◌, ◌≡◌, Bool, true, false, ◌&&◌, ◌||◌, List, length, take, eqb, ltb}
use Rattle.lists.specs.Below.{any_from}
use Rattle.txset.specs.declared.TxSet.{TxSet}
use Rattle.txset.specs.Sets.{mem, set_at}
use Rattle.depgraph.specs.Closed.{Room, placed}

-- the two lists of sets hold the relation f, once from each side: a is in the i-th set of `up`, and i in the a-th of `down`, exactly where f i a
pub record Holds (f : ℕ → ℕ → Bool) (up down : List ℕ) : Type 0 where
  pub above : (i a : ℕ) → mem (set_at up i) a ≡ f i a
  pub below : (i a : ℕ) → mem (set_at down a) i ≡ f i a

-- each of a walk has a set in the list
pub record Within (walk : TxSet) (ws : List ℕ) : Type 0 where
  pub has : (i : ℕ) → mem walk i ≡ true → i < length ws

-- no one is related
abbrev pub nothing : ℕ → ℕ → Bool
nothing i a = false

-- a relation, and each number below i to itself
abbrev pub with_own : ℕ → (ℕ → ℕ → Bool) → ℕ → ℕ → Bool
with_own i f j a = f j a || (ltb j i && eqb j a)

-- the sets hold f, and the own position of the members below i; whether one of these was related to itself
pub record Owning (f : ℕ → ℕ → Bool) (i : ℕ) (up down : List ℕ) (cyclic : Bool) : Type 0 where
  pub sets : Holds (with_own i f) up down
  pub cycle : cyclic ≡ any_from (λ j. f j j) i 0

-- n is how many of the members with the parents ps have a place
pub record Placed (ps up down : List ℕ) (n : ℕ) : Type 0 where
  pub there : n ≤ length ps
  pub room : Room n up down
  pub same : take n ps ≡ placed ps up down
