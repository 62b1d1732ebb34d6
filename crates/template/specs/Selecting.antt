-- What is selected, as the functions have it that collect it: no contract outside this crate cites these. Assumes nothing.
use Rattle.std.specs.Prelude.{ℕ, ◌≤◌, ◌<◌, ◌≡◌, true, List, length, take}
use Rattle.lists.specs.Lists.{elem, distinct}
use Rattle.txset.specs.Sets.{has_in}
use Rattle.slotsets.specs.SlotSets.{capacity, set_words}
use Rattle.pool_table.specs.Pool.{Pool, slot_count, occupied}
use Rattle.pool_table.specs.WellFormed.{sound}
use Rattle.pool_members.specs.Layout.{Places}

-- slots that hold an entry
abbrev pub Occupied : Pool → List ℕ → Type 0
Occupied p l = (x : ℕ) → elem x l ≡ true → occupied p x ≡ true

-- a pool in which nothing is broken, with its layout in arrays
pub record Laid (p : Pool) (members firsts ups : List ℕ) : Type 0 where
  pub stands : sound p ≡ true
  pub few : slot_count p ≤ capacity
  pub places : Places p members firsts ups
  pub wide : slot_count p < length firsts

-- `out` is selected: occupied slots, none twice. It stands at the start of `picked`, n of them, and `taken` has it as a set
pub record Selected (p : Pool) (out taken picked : List ℕ) (n : ℕ) : Type 0 where
  pub once : distinct out ≡ true
  pub held : Occupied p out
  pub count : n ≡ length out
  pub are : take n picked ≡ out
  pub member : (x : ℕ) → has_in taken x ≡ elem x out
  pub words : length taken ≡ set_words
  pub wide : slot_count p < length picked
