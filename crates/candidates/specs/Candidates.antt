-- Document 01, module 6 (linearize), up to the post pass. `n` is the number of members, `anc i a` says that a is an ancestor of i,
-- `desc t i` that i is a descendant of t, and `out` lists the members already out, in their order. Assumes nothing.
use Rattle.std.specs.Prelude.{ℕ, zero, suc, Bool, cond, not, ◌&&◌, List, [], ◌∷◌, ◌++◌, length, ltb, leb, ℤ}
use Rattle.feefrac.specs.declared.FeeFrac.{FeeFrac}
use Rattle.feefrac.specs.Rate.{difference, rate_at}
use Rattle.lists.specs.Below.{count_from, list_from}
use Rattle.lists.specs.Lists.{elem, overwrite}
use Rattle.txset.specs.Sets.{positions}
use Rattle.feeset.specs.Total.{total}
use Rattle.feeset.specs.Scan.{best, ranks_above}

-- "with members already out given back": those of the list that are ancestors, one after the other
unfoldable pub given_back : List ℤ → List ℕ → (ℕ → Bool) → FeeFrac → List ℕ → FeeFrac
given_back fs ss isAnc acc [] = acc
given_back fs ss isAnc acc (t ∷ ts) = given_back fs ss isAnc (cond (isAnc t) (difference acc (rate_at fs ss t)) acc) ts

-- "[its] ancestor sum, with members already out given back": each of them to its descendants
unfoldable pub ancestor_sum : List ℤ → List ℕ → ℕ → (ℕ → ℕ → Bool) → (ℕ → ℕ → Bool) → List ℕ → ℕ → FeeFrac
ancestor_sum fs ss n anc desc out i = given_back fs ss (λ t. desc t i) (total fs ss (list_from (anc i) n 0)) out

-- the remaining members, upwards
unfoldable pub remaining : ℕ → List ℕ → List ℕ
remaining n out = list_from (λ i. not (elem i out)) n 0

-- "Take the remaining member whose ancestor sum .. ranks highest"
unfoldable pub candidate : List ℤ → List ℕ → ℕ → (ℕ → ℕ → Bool) → (ℕ → ℕ → Bool) → List ℕ → List ℕ
candidate fs ss n anc desc out = best (ranks_above (ancestor_sum fs ss n anc desc out)) (remaining n out)

-- its remaining ancestors, upwards
unfoldable pub remaining_ancestors : ℕ → (ℕ → ℕ → Bool) → ℕ → List ℕ → List ℕ
remaining_ancestors n anc i out = list_from (λ a. anc i a && not (elem a out)) n 0

-- "by ancestor count (in the entire cluster), then position": the scan upwards holds the lowest of equal counts
unfoldable pub fewer_ancestors : ℕ → (ℕ → ℕ → Bool) → ℕ → ℕ → Bool
fewer_ancestors n anc x y = ltb (count_from (anc x) n 0) (count_from (anc y) n 0)

-- "append its remaining ancestors": k of them, each time the first by that order
unfoldable pub append_ancestors : ℕ → (ℕ → ℕ → Bool) → ℕ → ℕ → List ℕ → List ℕ
append_ancestors n anc i zero out = out
append_ancestors n anc i (suc k) out = append_ancestors n anc i k (out ++ best (fewer_ancestors n anc) (remaining_ancestors n anc i out))

-- all of them for the member taken
unfoldable pub append_for : ℕ → (ℕ → ℕ → Bool) → List ℕ → List ℕ → List ℕ
append_for n anc out [] = out
append_for n anc out (i ∷ is) = append_ancestors n anc i (length (remaining_ancestors n anc i out)) out

-- "repeat"
unfoldable pub rounds : List ℤ → List ℕ → ℕ → (ℕ → ℕ → Bool) → (ℕ → ℕ → Bool) → ℕ → List ℕ → List ℕ
rounds fs ss n anc desc zero out = out
rounds fs ss n anc desc (suc k) out = rounds fs ss n anc desc k (append_for n anc out (candidate fs ss n anc desc out))

-- each round takes at least one member out, so n rounds are enough
unfoldable pub ancestor_order : List ℤ → List ℕ → (ℕ → ℕ → Bool) → (ℕ → ℕ → Bool) → List ℕ
ancestor_order fs ss anc desc = rounds fs ss (length fs) anc desc (length fs) []

-- ---- what the function between crates promises for any input

-- whether there are at most 64 members and a place for each
unfoldable pub fits : List ℤ → List ℕ → Bool
fits fs room = leb (length fs) positions && leb (length fs) (length room)

unfoldable pub written : List ℤ → List ℕ → (ℕ → ℕ → Bool) → (ℕ → ℕ → Bool) → List ℕ → ℕ
written fs ss anc desc room = cond (fits fs room) (length (ancestor_order fs ss anc desc)) 0

unfoldable pub filled : List ℤ → List ℕ → (ℕ → ℕ → Bool) → (ℕ → ℕ → Bool) → List ℕ → List ℕ
filled fs ss anc desc room = cond (fits fs room) (overwrite (ancestor_order fs ss anc desc) room) room
