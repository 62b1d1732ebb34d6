-- What a table means and the table that means it are inverse to each other (specs/Words.antt), and a changed table is one table
-- (specs/Changes.antt). Assumes nothing.
use mathlib.Core.Path.{◌≡◌, refl, sym, ap, ap₂, ◌∙◌}
use mathlib.Core.Bool.{Bool, true, false, ◌&&◌}
use mathlib.Core.List.{List, [], ◌∷◌, ◌++◌, append_assoc}
use Prim.Native.Nat.{ℕ, zero, suc, ◌+◌, ◌*◌}
use native.Mathlib.Omega.{arith}
use lib.Dec.{eqb, leb}
use lib.ListN.{length, get_or, length-append, get_or-append}
use lib.Seq.{get_or-append-add}
use borrow.Author.Tests.{eqb-true}
use Rattle.lists.proofs.Bools.{and_left}
use Rattle.slotsets.specs.SlotSets.{capacity, words_from}
use Rattle.pool_table.specs.Pool.{Slot, Pool, free, slot_count}
use Rattle.pool_table.specs.Words.{header, row, row_at, slots_in, is_legal, slots_from, limits_in, pool_of, slot_words, rows_of, table_of}
use Rattle.pool_table.specs.Changes.{Becomes}
use Rattle.pool_table.proofs.Parts.{part_split, part_all}
use Rattle.pool_table.proofs.Rows.{Whole, slot_words_lem, slot_is, length_words}

-- ---- from a table and back

rows_words : (t : List ℕ) (k s : ℕ) → rows_of (slots_from t k s) ≡ words_from t (k * row) (row_at s)
unfolding rows_of slots_from words_from
rows_words t zero s = refl
rows_words t (suc k) s =
    let e : row_at (suc s) ≡ row_at s + 39 = omega arith in
    let m : 39 + k * 39 ≡ suc k * 39 = omega arith in
    ap₂ ◌++◌ (slot_words_lem t (row_at s)) (rows_words t k (suc s) ∙ ap (words_from t (k * row)) e)
    ∙ sym (part_split t row (k * row) (row_at s))
    ∙ ap (λ (n : ℕ). words_from t n (row_at s)) m

-- a table of a legal length is a header and whole rows
pub legal_long : (n : ℕ) → is_legal n ≡ true → row_at (slots_in n) ≡ n
unfolding is_legal
legal_long n h = eqb-true (row_at (slots_in n)) n (and_left (eqb (row_at (slots_in n)) n) (leb 1 (slots_in n) && leb (slots_in n) capacity) h)

pub table_pool : (t : List ℕ) → is_legal (length t) ≡ true → table_of (pool_of t) ≡ t
unfolding table_of pool_of limits_in words_from
table_pool t h =
    let n = slots_in (length t) in
    ap (λ (ws : List ℕ). words_from t header 0 ++ ws) (rows_words t n 0)
    ∙ sym (part_split t header (n * row) 0)
    ∙ ap (λ (k : ℕ). words_from t k 0) (legal_long (length t) h)
    ∙ part_all t

-- ---- from a pool and back

-- both sets of each slot have their 16 words
abbrev pub Wholes : List Slot → Type 0
Wholes xs = (i : ℕ) → Whole (get_or xs i free)

pub length_rows : (xs : List Slot) → Wholes xs → length (rows_of xs) ≡ length xs * row
unfolding rows_of
length_rows [] w = refl
length_rows (x ∷ xs) w =
    length-append (slot_words x) (rows_of xs)
    ∙ omega (arith, length_words x (w 0), length_rows xs (λ i. w (suc i)))

rows_slots : (pre : List ℕ) (xs : List Slot) (s : ℕ) → Wholes xs → length pre ≡ row_at s → slots_from (pre ++ rows_of xs) (length xs) s ≡ xs
unfolding rows_of slots_from
rows_slots pre [] s w e = refl
rows_slots pre (x ∷ xs) s w e =
    ap₂ ◌∷◌
    (slot_is (pre ++ (slot_words x ++ rows_of xs)) (row_at s) x (w 0)
    (λ k l.
    ap (λ (n : ℕ). get_or (pre ++ (slot_words x ++ rows_of xs)) (n + k) 0) (sym e)
    ∙ get_or-append-add pre (slot_words x ++ rows_of xs) k 0
    ∙ get_or-append (slot_words x) (rows_of xs) 0 k (omega (arith, length_words x (w 0)))))
    (ap (λ (t : List ℕ). slots_from t (length xs) (suc s)) (sym (append_assoc pre (slot_words x) (rows_of xs)))
    ∙ rows_slots (pre ++ slot_words x) xs (suc s) (λ i. w (suc i))
    (length-append pre (slot_words x) ∙ omega (arith, length_words x (w 0))))

-- the length of a pool's table
pub length_table : (p : Pool) → Wholes p.slots → length (table_of p) ≡ row_at (slot_count p)
unfolding table_of
length_table p w = omega (arith, length_rows p.slots w)

pub pool_table : (p : Pool) → Wholes p.slots → pool_of (table_of p) ≡ p
unfolding table_of pool_of limits_in slots_in
pool_table p w =
    let l = p.limits in
    let e : slots_in (length (table_of p)) ≡ slot_count p = omega (arith, length_rows p.slots w) in
    ap {B = Pool} (λ (xs : List Slot). record { limits = l; total = p.total; slots = xs })
    (ap (λ (k : ℕ). slots_from (table_of p) k 0) e
    ∙ rows_slots (l.count ∷ l.size ∷ l.bytes_per_sigop ∷ p.total ∷ []) p.slots 0 w refl)

-- ---- a changed table is one table

pub becomes_one : {f : Pool → Pool} {old a b : List ℕ} → Becomes f old a → Becomes f old b → a ≡ b
becomes_one {f} {old} {a} {b} x y = go (is_legal (length old)) refl
  where
    go : (t : Bool) → is_legal (length old) ≡ t → a ≡ b
    go true e =
        sym (table_pool a (ap is_legal x.long ∙ e)) ∙ ap table_of (x.means e ∙ sym (y.means e)) ∙ table_pool b (ap is_legal y.long ∙ e)
    go false e = x.stays e ∙ sym (y.stays e)
