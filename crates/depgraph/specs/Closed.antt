-- What the two tables of a DepGraph hold, set by set. Assumes nothing.
use Rattle.std.specs.Prelude.{ℕ, ◌≤◌, ◌≡◌, List, length, take}
use Rattle.txset.specs.Sets.{positions, mem, set_at}
use Rattle.depgraph.specs.declared.DepGraph.{DepGraph}
use Rattle.depgraph.specs.Graph.{is_ancestor, is_descendant, is_cyclic}

-- n members have a position and a set in both tables
pub record Room (n : ℕ) (up down : List ℕ) : Type 0 where
  pub few : n ≤ positions
  pub ups : n ≤ length up
  pub downs : n ≤ length down

-- the members that have a place: the first ones, where they are more than the positions of a set or than the sets of a table
abbrev pub placed : List ℕ → List ℕ → List ℕ → List ℕ
placed ps up down = take (length down) (take (length up) (take positions ps))

-- the sets of `up` and `down` are those of the members with the parents ps; past the members they are empty, as `is_ancestor` is false there
pub record Closed (ps up down : List ℕ) (g : DepGraph) : Type 0 where
  pub ancestors : (i a : ℕ) → mem (set_at up i) a ≡ is_ancestor ps i a
  pub descendants : (i d : ℕ) → mem (set_at down i) d ≡ is_descendant ps i d
  pub cyclic : g.cyclic ≡ is_cyclic ps
