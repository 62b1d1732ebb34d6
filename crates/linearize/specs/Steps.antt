-- What the four steps behind the checks speak of: no contract outside this crate cites these. Assumes nothing.
use Rattle.std.specs.Prelude.{ℕ, ◌≤◌, ◌<◌, ◌≡◌, Bool, true, List, length, ℤ}
use Rattle.txset.specs.Sets.{positions, mem, set_at}
use Rattle.passes.specs.Pass.{back_pass, forward_pass}
use Rattle.candidates.specs.Candidates.{ancestor_order}
use Rattle.output_order.specs.Output.{output_order}

-- the four steps, over any ancestors and descendants
unfoldable pub steps_of : List ℤ → List ℕ → (ℕ → ℕ → Bool) → (ℕ → ℕ → Bool) → List ℕ
steps_of fs ss anc desc = output_order fs ss anc (forward_pass fs ss anc (back_pass fs ss desc (ancestor_order fs ss anc desc)))

-- what the tests before the graph leave: parents for each of at most 64 members, and a room that is long enough
pub record Checked (fs : List ℤ) (ps room : List ℕ) : Type 0 where
  pub same : length ps ≡ length fs
  pub few : length fs ≤ positions
  pub wide : length fs ≤ length room

-- at most 64 members, each its own ancestor, a list as long as they are many and a room at least so
pub record Ready (fs : List ℤ) (ancestors order room : List ℕ) : Type 0 where
  pub few : length fs ≤ positions
  pub own : (i : ℕ) → i < length fs → mem (set_at ancestors i) i ≡ true
  pub long : length order ≡ length fs
  pub wide : length fs ≤ length room
