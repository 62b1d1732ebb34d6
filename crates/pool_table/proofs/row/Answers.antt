use mathlib.Core.Path.{◌≡◌, sym, ap, ◌∙◌}
use mathlib.Core.Logic.{◌⊎◌, inl, inr, ⊎_elim}
use mathlib.Core.List.{List}
use Prim.Native.Nat.{ℕ, ◌+◌, ◌-◌, ◌*◌, ◌/◌, ◌≤◌, ◌<◌}
use native.Mathlib.Omega.{arith}
use lib.Dec.{lit<}
use lib.ListN.{length, take, drop}
use Rattle.pool_table.specs.Pool.{slot_at, slot_count}
use Rattle.pool_table.specs.Words.{row, row_at, slots_in, slot_words, pool_of}
use Rattle.pool_table.proofs.Rows.{row_within, row_words, length_words, whole_slot, slot_count_lem}
use Rattle.pool_table.proofs.Parts.{part_take}
use Rattle.pool_table.proofs.row.Goals as goal
use Rattle.pool_table.proofs.row.Goals.{else-s-ge-CAPACITY-via-then-s-ge-CAPACITY+else-slots-s, else-s-ge-CAPACITY-via-else-s-ge-CAPACITY}

-- a slot that is there ends within the table
ends : (t : List ℕ) (s : ℕ) → s < slot_count (pool_of t) → 4 + s * 39 + 39 ≤ length t
ends t s h = omega (arith, row_within t s 38 h (lit< tt))

-- and one that does is there
is_there : (t : List ℕ) (s : ℕ) → 4 + s * 39 + 39 ≤ length t → s < slot_count (pool_of t)
unfolding slots_in
is_there t s h = let e : slot_count (pool_of t) ≡ (length t - 4) / 39 = slot_count_lem t in omega (arith, h)

-- a slot that a pool can have, or one that is there: its place is a number
place : (t : List ℕ) (s : ℕ) → (s < 1024) ⊎ (s < slot_count (pool_of t)) → (s * 39 ≤ 39936) ⊎ (4 + s * 39 + 39 ≤ length t)
place t s (inl l) = inl (omega arith)
place t s (inr l) = inr (ends t s l)

pub overflow_mul-from : goal.overflow_mul-from
overflow_mul-from c =
    ⊎_elim (λ l. omega (arith, l)) (λ l. omega (arith, l))
    (place c.args.table.now c.args.s
    (elim c.else-s-ge-CAPACITY.branch [
      | else-s-ge-CAPACITY-via-then-s-ge-CAPACITY+else-slots-s w ↦ inr (omega (arith, w.slots.ensures, w.if-slots-s.false))
      | else-s-ge-CAPACITY-via-else-s-ge-CAPACITY w ↦ inl (omega (arith, w.if-s-ge-CAPACITY.false))
    ]))

pub overflow_add-from : goal.overflow_add-from
overflow_add-from c =
    ⊎_elim (λ l. omega (arith, l)) (λ l. omega (arith, l))
    (place c.args.table.now c.args.s
    (elim c.else-s-ge-CAPACITY.branch [
      | else-s-ge-CAPACITY-via-then-s-ge-CAPACITY+else-slots-s w ↦ inr (omega (arith, w.slots.ensures, w.if-slots-s.false))
      | else-s-ge-CAPACITY-via-else-s-ge-CAPACITY w ↦ inl (omega (arith, w.if-s-ge-CAPACITY.false))
    ]))

pub overflow_add-end : goal.overflow_add-end
overflow_add-end c =
    ⊎_elim (λ l. omega (arith, l)) (λ l. omega (arith, l))
    (place c.args.table.now c.args.s
    (elim c.else-s-ge-CAPACITY.branch [
      | else-s-ge-CAPACITY-via-then-s-ge-CAPACITY+else-slots-s w ↦ inr (omega (arith, w.slots.ensures, w.if-slots-s.false))
      | else-s-ge-CAPACITY-via-else-s-ge-CAPACITY w ↦ inl (omega (arith, w.if-s-ge-CAPACITY.false))
    ]))

-- what does not end within the table is not there
none : (t : List ℕ) (s : ℕ) → length t < 4 + s * 39 + 39 → slot_count (pool_of t) ≤ s
unfolding slots_in
none t s h = let e : slot_count (pool_of t) ≡ (length t - 4) / 39 = slot_count_lem t in omega (arith, h)

pub returns-then-table-end : goal.returns-then-table-end
returns-then-table-end c = none c.args.table.now c.args.s c.if-table-end.true

pub returns : goal.returns
returns c =
    let t = c.args.table.now in
    let from : ℕ = row_at c.args.s in
    let inside : 4 + c.args.s * 39 + 39 ≤ length t = c.if-table-end.false in
    let there = is_there t c.args.s inside in
    let e : from + row - from ≡ row = omega arith in
    let words : take (from + row - from) (drop from t) ≡ slot_words (slot_at (pool_of t) c.args.s) =
    ap (λ (n : ℕ). take n (drop from t)) e ∙ part_take t row from (omega (arith, inside)) ∙ sym (row_words t c.args.s there) in
    record { there = there; long = ap length words ∙ length_words _ (whole_slot t c.args.s); words = words }
