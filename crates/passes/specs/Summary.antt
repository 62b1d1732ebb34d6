-- What the code keeps of a group, and of its way forward: the contracts of the ways to make such a summary. Assumes nothing.
use Rattle.std.specs.Prelude.{ℕ, ◌+◌, ◌-◌, ◌≡◌, ◌&&◌, ◌||◌, eqb}
use Rattle.feefrac.specs.declared.FeeFrac.{FeeFrac}
use Rattle.feefrac.specs.Rate.{sum}
use Rattle.txset.specs.declared.TxSet.{TxSet}
use Rattle.txset.specs.Sets.{mem, is_position}
use Rattle.passes.specs.declared.pass.Group.{Group}
use Rattle.passes.specs.declared.pass.Way.{Way}

-- g is the summary of the member t alone
pub record Single (t : ℕ) (on : TxSet) (r : FeeFrac) (g : Group) : Type 0 where
  pub len : g.len ≡ 1
  pub set : (i : ℕ) → mem g.set i ≡ (is_position i && eqb i t)
  pub deps : g.deps ≡ on
  pub rate : g.rate ≡ r

-- g is the summary of the two as one
pub record Joined (prev cur g : Group) : Type 0 where
  pub len : g.len ≡ prev.len + cur.len
  pub set : (i : ℕ) → mem g.set i ≡ (mem cur.set i || mem prev.set i)
  pub deps : (i : ℕ) → mem g.deps i ≡ (mem cur.deps i || mem prev.deps i)
  pub rate : g.rate ≡ sum cur.rate prev.rate

-- what may be called with any member answers the feerate that is its
pub record Rated (callable : ℕ → Type 0) (answers : ℕ → FeeFrac → Type 0) (rates : ℕ → FeeFrac) : Type 0 where
  pub may : (t : ℕ) → callable t
  pub each : (t : ℕ) (r : FeeFrac) → answers t r → r ≡ rates t

-- a group on top of `count` others, whose members are the first k
abbrev pub start_on : ℕ → ℕ → Way
start_on count k = record { below = count; from = k; ahead = 0; over = 0 }

-- a group that has merged the one below it, of `len` members, and one that has stepped in front of it
abbrev pub merged_on : Way → ℕ → Way
merged_on w len = record { below = w.below - 1; from = w.from - len; ahead = 0; over = w.over }

abbrev pub passed_on : Way → ℕ → Way
passed_on w len = record { below = w.below - 1; from = w.from - len; ahead = w.ahead + len; over = w.over + 1 }
