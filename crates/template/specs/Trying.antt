-- What the test of one chunk, the fill and the function that answers speak of: no contract outside this crate cites these. Assumes nothing.
use Rattle.std.specs.Prelude.{ℕ, ◌≤◌, ◌<◌, min, ◌≡◌, true, List, length, take, ℤ}
use Rattle.feefrac.specs.declared.FeeFrac.{FeeFrac}
use Rattle.weights.specs.Weights.{most}
use Rattle.slotsets.specs.SlotSets.{capacity}
use Rattle.pool_table.specs.Pool.{Pool, slot_count, no_txid}
use Rattle.pool_table.specs.Words.{pool_of}
use Rattle.pool_table.specs.WellFormed.{sound, well_formed}
use Rattle.pool_order.specs.Order.{roomy}
use Rattle.pool_chunks.specs.Chunks.{PoolChunk}
use Rattle.pool_chunks.specs.Sorted.{Arrays, Sorted}
use Rattle.template_rules.specs.Filling.{Settings, addition, raw_sum, cost_sum, number_of, taken, passed, outcome, after}
use Rattle.template_rules.specs.Filling as rules
use Rattle.template.specs.declared.tests.Used.{Used}
use Rattle.template.specs.declared.tests.Outcome.{Outcome}
use Rattle.template.specs.declared.tests.Outcome.TheVariants.{Taken, Passed}
use Rattle.template.specs.Selecting.{Selected}

abbrev pub nothing_used : Used
nothing_used = record { count = 0; weight = record { 0 = 0 }; cost = 0 }

-- some slots in sums
unfoldable pub sums_of : Pool → List ℕ → Used
sums_of p l = record { count = length l; weight = record { 0 = raw_sum p l }; cost = min (cost_sum p l) most }

-- `out` is selected, in the arrays and in sums, which no hold has changed
pub record Stands (p : Pool) (out : List ℕ) (used : Used) (taken picked : List ℕ) : Type 0 where
  pub selected : Selected p out taken picked used.count
  pub weight : used.weight.0 ≡ raw_sum p out
  pub cost : used.cost ≡ cost_sum p out

-- a chunk of these slots and this feerate: the test asks for nothing else
abbrev pub chunk_with : List ℕ → FeeFrac → PoolChunk
chunk_with slots rate = record { slots = slots; rate = rate; least = no_txid; place = 0 }

-- "Whenever an answer is an enum, a definition gives this paper's number and values for each of the enum's cases"
abbrev pub told : Outcome → List ℕ → rules.Outcome
told (Taken used) added = taken added
told (Passed reason) added = passed (number_of reason)

-- what is known once a chunk was tried: the outcome is told; what was selected stands where it stood; and where the chunk is taken, so
-- does the rest
pub record Tried (p : Pool) (w : Settings) (out : List ℕ) (c : PoolChunk) (answer : Outcome) (taken picked : List ℕ) : Type 0 where
  pub tells : told answer (addition p out c.slots) ≡ outcome p w out c
  pub stays : take (length out) picked ≡ out
  pub stands : (used : Used) → answer ≡ Taken used → Stands p (after out (outcome p w out c)) used taken picked

-- ---- the chunks one after the other

-- the chunks of a pool in which nothing is broken, as some deltas sort them
pub record Fillable (p : Pool) (r : Arrays) : Type 0 where
  pub stands : sound p ≡ true
  pub few : slot_count p ≤ capacity
  pub wide : slot_count p < length r.firsts
  pub deltas : List ℤ
  pub sorted : Sorted p deltas r

-- a list of n stands at the start of `picked`
pub record Filled (out picked : List ℕ) (n : ℕ) : Type 0 where
  pub count : n ≡ length out
  pub are : take n picked ≡ out

-- ---- the call

-- rooms of these lengths have a place for each slot of a table that is well-formed, and one more
abbrev pub Wide : List ℕ → List ℕ → Type 0
Wide t rooms = well_formed t ≡ true → roomy (slot_count (pool_of t)) rooms ≡ true
