-- Document 01, "How a template is filled": the test of one chunk, with its outcome, and the list that is selected. `out` is what was
-- selected so far, in order. Assumes nothing.
use Rattle.std.specs.Prelude.{ℕ, zero, suc, ◌+◌, Bool, cond, not, List, [], ◌∷◌, ◌++◌, eqb, length, get_or, drop, ℤ}
use Rattle.lists.specs.Lists.{any_of, all_of, only, elem}
use Rattle.refusals.specs.Refusals.{Line, line, answer_of}
use Rattle.chunk_tests.specs.Tests.{is_negative, is_below, over_budget, over_sigops}
use Rattle.pool_table.specs.Pool.{Pool, slot_at, slot_count, weight_at}
use Rattle.pool_table.specs.Links.{is_parent}
use Rattle.pool_order.specs.Order.{slots_by_txid}
use Rattle.pool_chunks.specs.Chunks.{PoolChunk, tried}
use Rattle.template_rules.specs.declared.Terms.{Terms}
use Rattle.template_rules.specs.declared.Reason.{Reason}
use Rattle.template_rules.specs.declared.Reason.TheVariants.{NegativeFee, BelowMinimum, Withheld, NothingUnselected, WithheldAncestor, OverBudget, OverSigops}

-- what a template is asked with: a delta and a mark for each slot, and the block's terms
pub record Settings : Type 0 where
  pub deltas : List ℤ
  pub marks : List ℕ
  pub terms : Terms

abbrev pub settings : List ℤ → List ℕ → Terms → Settings
settings ds marks w = record { deltas = ds; marks = marks; terms = w }

-- "a mark other than 0 withholds"
unfoldable pub withheld : List ℕ → ℕ → Bool
withheld marks s = not (eqb (get_or marks s 0) 0)

-- ---- "the addition goes out"

-- "parents visited in txid order"
unfoldable pub parents_by_txid : Pool → ℕ → List ℕ
parents_by_txid p s = only (is_parent p s) (slots_by_txid p)

-- one after the other, each with what the ones before it left
unfoldable pub each_in_turn : (List ℕ → ℕ → List ℕ) → List ℕ → List ℕ → List ℕ
each_in_turn f out [] = out
each_in_turn f out (s ∷ ss) = each_in_turn f (f out s) ss

-- "its unselected ancestors come first, parents visited in txid order, each followed to its own parents before it is written": what is
-- selected already is not written again. No chain of parents is longer than there are slots, so that as many steps follow it to its end
unfoldable pub collect : Pool → ℕ → List ℕ → ℕ → List ℕ
collect p zero out s = out
collect p (suc k) out s = cond (elem s out) out (each_in_turn (collect p k) out (parents_by_txid p s) ++ (s ∷ []))

-- "for each member": what is selected with a chunk's members behind it, and the addition alone
unfoldable pub grown : Pool → List ℕ → List ℕ → List ℕ
grown p out slots = each_in_turn (collect p (slot_count p)) out slots

unfoldable pub addition : Pool → List ℕ → List ℕ → List ℕ
addition p out slots = drop (length out) (grown p out slots)

-- ---- the test of one chunk: what is asked of its numbers is in chunk_tests

-- "the budget counts raw weight", and the sigop cost: sums over a list of slots
unfoldable pub raw_sum : Pool → List ℕ → ℕ
raw_sum p [] = 0
raw_sum p (s ∷ ss) = weight_at p s + raw_sum p ss

unfoldable pub cost_sum : Pool → List ℕ → ℕ
cost_sum p [] = 0
cost_sum p (s ∷ ss) = (slot_at p s).entry.cost + cost_sum p ss

-- "Whenever an answer is an enum, a definition gives this paper's number and values for each of the enum's cases": the place among
-- the seven reasons, in the order of the document
abbrev pub number_of : Reason → ℕ
number_of NegativeFee = 1
number_of BelowMinimum = 2
number_of Withheld = 3
number_of NothingUnselected = 4
number_of WithheldAncestor = 5
number_of OverBudget = 6
number_of OverSigops = 7

-- "A chunk is passed over if its fee is negative; if ..": the seven, each with its condition
unfoldable pub reasons : Pool → Settings → List ℕ → PoolChunk → List Line
reasons p w out c =
    line (number_of NegativeFee) (is_negative c.rate)
    ∷ line (number_of BelowMinimum) (is_below w.terms.minimum c.rate)
    ∷ line (number_of Withheld) (any_of (withheld w.marks) c.slots)
    ∷ line (number_of NothingUnselected) (all_of (λ s. elem s out) c.slots)
    ∷ line (number_of WithheldAncestor) (any_of (withheld w.marks) (addition p out c.slots))
    ∷ line (number_of OverBudget) (over_budget w.terms.budget.0 (raw_sum p out) (raw_sum p (addition p out c.slots)))
    ∷ line (number_of OverSigops) (over_sigops w.terms.reserve (cost_sum p out) (cost_sum p (addition p out c.slots)))
    ∷ []

-- taken with its addition, or passed over with the number of the first reason that holds
pub data Outcome : Type 0 where
  taken : List ℕ → Outcome
  passed : ℕ → Outcome

abbrev pub outcome_of : ℕ → List ℕ → Outcome
outcome_of zero added = taken added
outcome_of (suc k) added = passed (suc k)

unfoldable pub outcome : Pool → Settings → List ℕ → PoolChunk → Outcome
outcome p w out c = outcome_of (answer_of (reasons p w out c)) (addition p out c.slots)

-- ---- the list

-- "Otherwise the addition goes out". What is passed over leaves no trace
abbrev pub after : List ℕ → Outcome → List ℕ
after out (taken added) = out ++ added
after out (passed reason) = out

-- "Later, smaller chunks are still tried."
unfoldable pub fill : Pool → Settings → List ℕ → List PoolChunk → List ℕ
fill p w out [] = out
fill p w out (c ∷ cs) = fill p w (after out (outcome p w out c)) cs

unfoldable pub template : Pool → Settings → List ℕ
template p w = fill p w [] (tried p w.deltas)
