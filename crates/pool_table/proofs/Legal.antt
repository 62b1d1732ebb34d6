-- Legal lengths of a table. Assumes nothing.
use mathlib.Core.Path.{◌≡◌}
use mathlib.Core.Bool.{true, ◌&&◌}
use mathlib.Core.List.{List}
use Prim.Native.Nat.{ℕ, ◌≤◌}
use native.Mathlib.Omega.{arith}
use lib.Dec.{eqb, leb}
use lib.ListN.{length}
use borrow.Author.Tests.{leb-true}
use Rattle.lists.proofs.Bools.{and_right}
use Rattle.slotsets.specs.SlotSets.{capacity}
use Rattle.pool_table.specs.Pool.{slot_count}
use Rattle.pool_table.specs.Words.{row_at, slots_in, is_legal, pool_of}
use Rattle.pool_table.proofs.Rows.{slot_count_lem}

-- a table of a legal length has at most 1,024 slots
pub few_slots : (t : List ℕ) → is_legal (length t) ≡ true → slot_count (pool_of t) ≤ capacity
unfolding is_legal
few_slots t h =
    let n = slots_in (length t) in
    let within = and_right (eqb (row_at n) (length t)) (leb 1 n && leb n capacity) h in
    omega (arith, slot_count_lem t, leb-true n capacity (and_right (leb 1 n) (leb n capacity) within))
