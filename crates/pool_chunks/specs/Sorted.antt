-- What the function between crates promises: the chunks of a pool in the order in which they are tried, in arrays, or the refusal that its table
-- or its deltas get. Assumes nothing.
use Rattle.std.specs.Prelude.{ℕ, ◌<◌, ◌≡◌, Bool, not, ◌&&◌, List, [], ◌∷◌, map, length, get_or, take, ℤ, pos, negsuc}
use Rattle.std.specs.Int.Signed.{le_z}
use Rattle.lists.specs.Below.{any_from}
use Rattle.feefrac.specs.Rate.{zero_rate, rate_at}
use Rattle.refusals.specs.Refusals.{Line, line, differ}
use Rattle.pool_table.specs.Pool.{Pool, slot_count, occupied, no_txid}
use Rattle.pool_table.specs.Words.{pool_of}
use Rattle.pool_members.specs.Rows.{Rows}
use Rattle.pool_members.specs.Layout.{Places}
use Rattle.pool_chunks.specs.Chunks.{PoolChunk, all_chunks, tried}

-- ---- 3 for deltas

-- "delta: plus or minus that", of "Pool fee: 0 to 2,100,000,000,000,000"
unfoldable pub delta_in_range : ℤ → Bool
delta_in_range d = le_z (negsuc 2099999999999999) d && le_z d (pos 2100000000000000)

-- "(deltas: occupied slots only ..)"
unfoldable pub bad_delta : Pool → List ℤ → Bool
bad_delta p ds = any_from (λ s. occupied p s && not (delta_in_range (get_or ds s (pos 0)))) (slot_count p) 0

-- the refusals that a table and its deltas get, in the order of the calls that take both; `stands` says whether the table does
unfoldable pub delta_refusals : Bool → List ℕ → List ℤ → List Line
delta_refusals stands t ds = line 12 (not stands) ∷ line 1 (differ (length ds) (slot_count (pool_of t))) ∷ line 3 (bad_delta (pool_of t) ds) ∷ []

-- ---- the chunks in arrays

abbrev pub no_chunk : PoolChunk
no_chunk = record { slots = []; rate = zero_rate; least = no_txid; place = 0 }

abbrev pub chunk_at : List PoolChunk → ℕ → PoolChunk
chunk_at cs c = get_or cs c no_chunk

abbrev pub slot_lists : List PoolChunk → List (List ℕ)
slot_lists cs = map (λ c. c.slots) cs

-- the arrays of the chunks and, of the layout below them, what a template reads
pub record Arrays : Type 0 where
  pub count : ℕ
  pub listed : List ℕ
  pub starts : List ℕ
  pub fees : List ℤ
  pub sizes : List ℕ
  pub order : List ℕ
  pub members : List ℕ
  pub firsts : List ℕ
  pub ups : List ℕ

abbrev pub arrays : ℕ → List ℕ → List ℕ → List ℤ → List ℕ → List ℕ → List ℕ → List ℕ → List ℕ → Arrays
arrays count listed starts fees sizes order members firsts ups =
    record {
      count = count;
      listed = listed;
      starts = starts;
      fees = fees;
      sizes = sizes;
      order = order;
      members = members;
      firsts = firsts;
      ups = ups;
    }

-- the chunks stand one after the other, each with its feerate, and `order` has their numbers as they are tried
pub record Sorted (p : Pool) (ds : List ℤ) (r : Arrays) : Type 0 where
  pub count : r.count ≡ length (all_chunks p ds)
  pub rows : Rows r.listed r.starts (slot_lists (all_chunks p ds))
  pub ends : r.count < length r.starts
  pub rates : (c : ℕ) → c < r.count → rate_at r.fees r.sizes c ≡ (chunk_at (all_chunks p ds) c).rate
  pub within : (k : ℕ) → k < r.count → get_or r.order k 0 < r.count
  pub sorted : map (chunk_at (all_chunks p ds)) (take r.count r.order) ≡ tried p ds
  pub places : Places p r.members r.firsts r.ups
