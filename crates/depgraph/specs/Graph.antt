-- Document 01, module 3 (DepGraph): who is whose parent, ancestor and descendant.
-- `ps` has a set of parents for each member, as words (`set_at`). Assumes nothing.
use Rattle.std.specs.Prelude.{ℕ, Bool, not, ◌&&◌, ◌||◌, List, length, eqb, ltb}
use Rattle.ways.specs.Ways as ways
use Rattle.txset.specs.Sets.{mem, set_at}

-- "Parents of i; its own position and positions outside 0..n-1 are ignored."
unfoldable pub is_parent : List ℕ → ℕ → ℕ → Bool
is_parent ps i p = (ltb p (length ps) && not (eqb p i)) && mem (set_at ps i) p

-- a is above i: a parent, or above a parent. What the next definition computes, said without a procedure
abbrev pub Above : List ℕ → ℕ → ℕ → Type 0
Above ps = ways.Way (is_parent ps)

-- whether a is above i
abbrev pub is_above : List ℕ → ℕ → ℕ → Bool
is_above ps = ways.reach (is_parent ps) (length ps)

-- "Ancestors .. include i itself."
unfoldable pub is_ancestor : List ℕ → ℕ → ℕ → Bool
is_ancestor ps i a = ltb i (length ps) && (eqb i a || is_above ps i a)

-- "descendants include i itself": d is a descendant of i exactly where i is an ancestor of d
abbrev pub is_descendant : List ℕ → ℕ → ℕ → Bool
is_descendant ps i d = is_ancestor ps d i

-- 4: "a member is an ancestor of itself through another"
abbrev pub is_cyclic : List ℕ → Bool
is_cyclic ps = ways.is_cyclic (is_parent ps) (length ps)
