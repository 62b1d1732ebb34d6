-- Document 01, module 5 (post_linearize): one pass over any feerates and dependencies, and each of the two passes.
-- A list of groups has the last group first. Assumes nothing.
use Rattle.std.specs.Prelude.{ℕ, Bool, cond, List, [], ◌∷◌, ◌++◌, reverse, leb, length, ℤ}
use Rattle.feefrac.specs.declared.FeeFrac.{FeeFrac}
use Rattle.feefrac.specs.Rate.{sum, negated, higher, rate_at}
use Rattle.lists.specs.Lists.{any_of}
use Rattle.txset.specs.Sets.{positions}

-- some members, in their order, and their feerate sum
pub record Group : Type 0 where
  pub txs : List ℕ
  pub rate : FeeFrac

-- "if it depends on it": one of its members depends on one of the other's
unfoldable pub depends_on : (ℕ → ℕ → Bool) → Group → Group → Bool
depends_on dep cur prev = any_of (λ t. any_of (dep t) prev.txs) cur.txs

-- "it merges it (earlier members first)"
abbrev pub absorb : Group → Group → Group
absorb prev cur = record { txs = prev.txs ++ cur.txs; rate = sum cur.rate prev.rate }

-- "While the current group is higher than the one before it, it merges it .. if it depends on it, else steps in front of it"
unfoldable pub settle : (ℕ → ℕ → Bool) → Group → List Group → List Group
settle dep cur [] = cur ∷ []
settle dep cur (g ∷ gs) =
    cond (higher cur.rate g.rate)
    (cond (depends_on dep cur g) (settle dep (absorb g cur) gs) (g ∷ settle dep cur gs))
    (cur ∷ g ∷ gs)

abbrev pub alone : (ℕ → FeeFrac) → ℕ → Group
alone rate t = record { txs = t ∷ []; rate = rate t }

-- the members come one after the other, each at first a group of its own
unfoldable pub groups_after : (ℕ → FeeFrac) → (ℕ → ℕ → Bool) → List Group → List ℕ → List Group
groups_after rate dep gs [] = gs
groups_after rate dep gs (t ∷ ts) = groups_after rate dep (settle dep (alone rate t) gs) ts

-- the members of the groups, the first group's first
unfoldable pub flat : List Group → List ℕ
flat [] = []
flat (g ∷ gs) = flat gs ++ g.txs

unfoldable pub one_pass : (ℕ → FeeFrac) → (ℕ → ℕ → Bool) → List ℕ → List ℕ
one_pass rate dep order = flat (groups_after rate dep [] order)

-- "The first runs from the back with fees negated and descendants as dependencies"
unfoldable pub back_pass : List ℤ → List ℕ → (ℕ → ℕ → Bool) → List ℕ → List ℕ
back_pass fs ss desc order = reverse (one_pass (λ i. negated (rate_at fs ss i)) desc (reverse order))

-- "the second forward with ancestors"
unfoldable pub forward_pass : List ℤ → List ℕ → (ℕ → ℕ → Bool) → List ℕ → List ℕ
forward_pass fs ss anc order = one_pass (rate_at fs ss) anc order

-- what the functions between crates leave: a list that is longer than a set has positions stays as it is
abbrev pub if_fits : (List ℕ → List ℕ) → List ℕ → List ℕ
if_fits pass order = cond (leb (length order) positions) (pass order) order
