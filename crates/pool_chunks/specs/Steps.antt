-- What the steps of `cut_all` ask of each other and hand to each other: no contract outside this crate cites these. Assumes nothing.
use Rattle.std.specs.Prelude.{ℕ, ◌+◌, ◌≤◌, ◌<◌, ◌^◌, ◌≡◌, true, false, List, [], ◌∷◌, map, length, get_or, ℤ, pos}
use Rattle.txset.specs.Sets.{positions}
use Rattle.feefrac.specs.declared.FeeFrac.{FeeFrac}
use Rattle.feefrac.specs.Rate.{rate_at}
use Rattle.feeset.specs.Total.{total}
use Rattle.refusals.specs.Refusals.{any_outside}
use Rattle.depgraph.specs.Graph.{is_cyclic}
use Rattle.chunking.specs.Orders.{cut}
use Rattle.pool_table.specs.Pool.{Pool, slot_at, slot_count, occupied}
use Rattle.pool_table.specs.Ranges.{entry_in_range}
use Rattle.pool_members.specs.Members.{members_of, parents_of, clusters}
use Rattle.pool_members.specs.Rows.{Rows}
use Rattle.pool_chunks.specs.Chunks.{fee_of, fees_of, size_of, sizes_of, order_of, parts_of, all_chunks}
use Rattle.pool_chunks.specs.Sorted.{delta_in_range, chunk_at, slot_lists}

-- what slot s counts for
abbrev pub slot_rate : Pool → List ℤ → ℕ → FeeFrac
slot_rate p ds s = record { fee = fee_of p ds s; size = size_of p s }

-- slot s has a delta, and it and the entry's numbers are in their ranges
pub record Payable (p : Pool) (ds : List ℤ) (s : ℕ) : Type 0 where
  pub within : s < length ds
  pub entry : entry_in_range (slot_at p s).entry ≡ true
  pub delta : delta_in_range (get_or ds s (pos 0)) ≡ true

abbrev pub AllPayable : Pool → List ℤ → List ℕ → Type 0
AllPayable p ds ms = (i : ℕ) → i < length ms → Payable p ds (get_or ms i 0)

-- a cluster that is not refused, and a place for each member in both rooms
pub record Answered (fs : List ℤ) (ss ps order lens : List ℕ) : Type 0 where
  pub sizes : length ss ≡ length fs
  pub parents : length ps ≡ length fs
  pub few : length fs ≤ positions
  pub inside : any_outside fs ≡ false
  pub acyclic : is_cyclic ps ≡ false
  pub wide : length fs ≤ length order
  pub wide_lens : length fs ≤ length lens

-- the places at which parts of these lengths end, the first of which starts at `from`
unfoldable pub ends_from : ℕ → List ℕ → List ℕ
ends_from from [] = []
ends_from from (l ∷ ls) = (from + l) ∷ ends_from (from + l) ls

-- and the place at which the last of them does
unfoldable pub last_end : ℕ → List ℕ → ℕ
last_end from [] = from
last_end from (l ∷ ls) = last_end (from + l) ls

-- the feerate sums of the parts of an order, which are so long
abbrev pub fee_sums : List ℤ → List ℕ → List ℕ → List ℕ → List ℤ
fee_sums fs ss order lens = map (λ is. (total fs ss is).fee) (cut lens order)

abbrev pub size_sums : List ℤ → List ℕ → List ℕ → List ℕ → List ℕ
size_sums fs ss order lens = map (λ is. (total fs ss is).size) (cut lens order)

-- a cluster `ms` as `cut_cluster` takes it: `ups` has its members' parents by slot, and there is no cycle among them
pub record Cuttable (p : Pool) (ds : List ℤ) (ms ups : List ℕ) (from : ℕ) : Type 0 where
  pub pay : AllPayable p ds ms
  pub within : (i : ℕ) → i < length ms → get_or ms i 0 < length ups
  pub parents : map (λ s. get_or ups s 0) ms ≡ map (parents_of p ms) ms
  pub few : length ms ≤ positions
  pub acyclic : is_cyclic (map (parents_of p ms) ms) ≡ false
  pub fits : from + length ms < 2 ^ 64

-- what it writes: the slots of its chunks, where these end, and their feerates
abbrev pub slots_in : Pool → List ℤ → List ℕ → List ℕ
slots_in p ds ms = map (λ i. get_or ms i 0) (order_of p ds ms)

abbrev pub ends_in : Pool → List ℤ → List ℕ → ℕ → List ℕ
ends_in p ds ms from = ends_from from (map length (parts_of p ds ms))

abbrev pub fees_in : Pool → List ℤ → List ℕ → List ℤ
fees_in p ds ms = map (λ is. (total (fees_of p ds ms) (sizes_of p ms) is).fee) (parts_of p ds ms)

abbrev pub sizes_in : Pool → List ℤ → List ℕ → List ℕ
sizes_in p ds ms = map (λ is. (total (fees_of p ds ms) (sizes_of p ms) is).size) (parts_of p ds ms)

-- the clusters of a pool in arrays, and the parents by slot
pub record Laying (p : Pool) (count : ℕ) (members bounds ups : List ℕ) : Type 0 where
  pub many : count ≡ length (clusters p)
  pub rows : Rows members bounds (clusters p)
  pub parents : (s : ℕ) → occupied p s ≡ true → get_or ups s 0 ≡ parents_of p (members_of p s) s
  pub in_bounds : slot_count p < length bounds
  pub in_ups : slot_count p < length ups

-- rooms for the chunks: each has more places than the pool has slots
pub record Rooms (p : Pool) (listed starts : List ℕ) (fees : List ℤ) (sizes : List ℕ) : Type 0 where
  pub in_listed : slot_count p < length listed
  pub in_starts : slot_count p < length starts
  pub in_fees : slot_count p < length fees
  pub in_sizes : slot_count p < length sizes

-- the chunks of all clusters stand in four rooms, one after the other
pub record AllCut (p : Pool) (ds : List ℤ) (count : ℕ) (listed starts : List ℕ) (fees : List ℤ) (sizes : List ℕ) : Type 0 where
  pub many : count ≡ length (all_chunks p ds)
  pub few : count ≤ slot_count p
  pub rows : Rows listed starts (slot_lists (all_chunks p ds))
  pub rates : (c : ℕ) → c < count → rate_at fees sizes c ≡ (chunk_at (all_chunks p ds) c).rate
