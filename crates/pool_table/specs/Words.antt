-- The words of a lent table, and what they mean as a pool: a header, and a row for each slot. Only what document 01 asks for is stored
-- twice, links at both ends and the total, and a free slot is all zero words. The table of the pool that a table of a legal length means
-- is that table, and the pool of a pool's table is that pool, where each of its sets has 16 words, as in every pool of module 8
-- (proofs/Theorems.antt). So "all lent memory stays" and "follow from the input alone" are equations over `Pool`. A later field is one
-- more offset here. Assumes nothing.
use Rattle.std.specs.Prelude.{ℕ, zero, suc, ◌+◌, ◌-◌, ◌*◌, ◌/◌, ◌<◌, ◌≤◌, ◌≡◌, Bool, true, ◌&&◌, List, [], ◌∷◌, ◌++◌, eqb, leb, length, get_or}
use Rattle.slotsets.specs.SlotSets.{capacity, set_from}
use Rattle.txids.specs.declared.Txid.{Txid}
use Rattle.txids.specs.Txids.{words_of}
use Rattle.pool_table.specs.declared.Limits.{Limits}
use Rattle.pool_table.specs.declared.Entry.{Entry}
use Rattle.pool_table.specs.declared.Side.{Side}
use Rattle.pool_table.specs.declared.Side.TheVariants.{Parents, Children}
use Rattle.pool_table.specs.Pool.{Slot, Pool, slot_at, slot_count}

-- ---- where words stand

-- the header: the count limit, the size limit, the bytes per sigop, the total weight
abbrev pub header : ℕ
header = 4

abbrev pub total_at : ℕ
total_at = 3

-- a row: the txid in four words, the fee, the raw weight, the sigop cost, the parents and the children in 16 words each
abbrev pub row : ℕ
row = 39

abbrev pub fee_at : ℕ
fee_at = 4

abbrev pub raw_at : ℕ
raw_at = 5

abbrev pub cost_at : ℕ
cost_at = 6

abbrev pub parents_at : ℕ
parents_at = 7

abbrev pub children_at : ℕ
children_at = 23

-- where the set of a side starts in a row
abbrev pub side_at : Side → ℕ
side_at Parents = parents_at
side_at Children = children_at

-- where the row of slot s starts
abbrev pub row_at : ℕ → ℕ
row_at s = header + s * row

-- ---- lengths

-- the slots of a table of so many words
unfoldable pub slots_in : ℕ → ℕ
slots_in len = (len - header) / row

-- "1 to 1,024 slots .. slots, whole ones": a header and whole rows, at least one and at most 1,024
unfoldable pub is_legal : ℕ → Bool
is_legal len = eqb (row_at (slots_in len)) len && (leb 1 (slots_in len) && leb (slots_in len) capacity)

-- ---- from words to a pool

unfoldable pub txid_in : List ℕ → ℕ → Txid
txid_in t at = record { w0 = get_or t at 0; w1 = get_or t (at + 1) 0; w2 = get_or t (at + 2) 0; w3 = get_or t (at + 3) 0 }

unfoldable pub entry_in : List ℕ → ℕ → Entry
entry_in t at =
    record {
      txid = txid_in t at;
      fee = get_or t (at + fee_at) 0;
      weight = record { 0 = get_or t (at + raw_at) 0 };
      cost = get_or t (at + cost_at) 0;
    }

unfoldable pub slot_in : List ℕ → ℕ → Slot
slot_in t at = record { entry = entry_in t at; parents = set_from t (at + parents_at); children = set_from t (at + children_at) }

unfoldable pub slots_from : List ℕ → ℕ → ℕ → List Slot
slots_from t zero s = []
slots_from t (suc k) s = slot_in t (row_at s) ∷ slots_from t k (suc s)

unfoldable pub limits_in : List ℕ → Limits
limits_in t = record { count = get_or t 0 0; size = get_or t 1 0; bytes_per_sigop = get_or t 2 0 }

unfoldable pub pool_of : List ℕ → Pool
pool_of t = record { limits = limits_in t; total = get_or t total_at 0; slots = slots_from t (slots_in (length t)) 0 }

-- ---- from a pool to words

unfoldable pub entry_words : Entry → List ℕ
entry_words e = words_of e.txid ++ (e.fee ∷ e.weight.0 ∷ e.cost ∷ [])

unfoldable pub slot_words : Slot → List ℕ
slot_words x = entry_words x.entry ++ (x.parents ++ x.children)

-- slot s is there, and these are the words of its row
pub record IsRow (p : Pool) (s : ℕ) (ws : List ℕ) : Type 0 where
  pub there : s < slot_count p
  pub long : length ws ≡ row
  pub words : ws ≡ slot_words (slot_at p s)

-- slot s of a table of a legal length is there, and where its row starts
pub record HasRow (t : List ℕ) (s at : ℕ) : Type 0 where
  pub legal : is_legal (length t) ≡ true
  pub there : s < slot_count (pool_of t)
  pub start : at ≡ row_at s
  pub within : at + row ≤ length t

unfoldable pub rows_of : List Slot → List ℕ
rows_of [] = []
rows_of (x ∷ xs) = slot_words x ++ rows_of xs

unfoldable pub table_of : Pool → List ℕ
table_of p = (p.limits.count ∷ p.limits.size ∷ p.limits.bytes_per_sigop ∷ p.total ∷ []) ++ rows_of p.slots
