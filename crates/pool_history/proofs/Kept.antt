-- What every call keeps of a pool, and the tables that mean such a pool: the well-formed ones. Assumes nothing.
use mathlib.Core.Path.{◌≡◌, ap, ap₂, ◌∙◌}
use mathlib.Core.Bool.{true, ◌&&◌}
use mathlib.Core.List.{List}
use Prim.Native.Nat.{ℕ, ◌≤◌}
use native.Mathlib.Omega.{arith}
use lib.Dec.{eqb, leb}
use lib.ListN.{length}
use borrow.Author.Tests.{eq-eqb, le-leb, leb-true}
use Rattle.lists.proofs.Bools.{and_left, and_right}
use Rattle.slotsets.specs.SlotSets.{capacity}
use Rattle.pool_table.specs.declared.Entry.{Entry}
use Rattle.pool_table.specs.declared.Limits.{Limits}
use Rattle.pool_table.specs.Pool.{Pool, slot_count, occupied}
use Rattle.pool_table.specs.Words.{row_at, slots_in, is_legal, pool_of, table_of}
use Rattle.pool_table.specs.Changes.{made}
use Rattle.pool_table.specs.Ranges.{limits_in_range}
use Rattle.pool_table.specs.WellFormed.{sound, well_formed}
use Rattle.pool_table.proofs.Legal.{few_slots}
use Rattle.pool_table.proofs.Pools.{made_count, whole_made}
use Rattle.pool_table.proofs.Rows.{slot_count_lem}
use Rattle.pool_table.proofs.Theorems.{Wholes, length_table, pool_table}
use Rattle.pool_rules.specs.Module8.{added, removed, cost_set, cleared}
use Rattle.pool_rules.proofs.Pools.{whole_pool, whole_added, whole_removed, whole_cost, whole_cleared}
use Rattle.pool_rules.proofs.Sound.{well_legal}
use Rattle.pool_history.proofs.Plain.{Plain, sound_plain}
use Rattle.pool_history.proofs.Made.{sound_made, sound_cleared}
use Rattle.pool_history.proofs.Cost.{cost_count, sound_cost}
use Rattle.pool_history.proofs.Removed.{removed_count, sound_removed}
use Rattle.pool_history.proofs.Newcomer.{added_count}
use Rattle.pool_history.proofs.Added.{Addable, sound_added}

pub record Kept (p : Pool) : Type 0 where
  pub good : sound p ≡ true
  pub whole : Wholes p.slots
  pub some : 1 ≤ slot_count p
  pub few : slot_count p ≤ capacity

pub kept_plain : {p : Pool} → Kept p → Plain p
kept_plain {p} k = sound_plain p k.whole k.good

-- ---- each call

pub kept_made : (l : Limits) (n : ℕ) → limits_in_range l ≡ true → 1 ≤ n → n ≤ capacity → Kept (made l n)
kept_made l n h some few =
    record { good = sound_made l n h; whole = whole_made l n; some = omega (arith, made_count l n); few = omega (arith, made_count l n) }

module _ {p : Pool} (k : Kept p) where
  pub kept_cleared : Kept (cleared p)
  unfolding cleared
  kept_cleared =
      let n = made_count p.limits (slot_count p) in
      record {
        good = sound_cleared p k.good;
        whole = whole_cleared p k.whole;
        some = omega (arith, k.some, n);
        few = omega (arith, k.few, n);
      }

  pub kept_cost : (r c : ℕ) → occupied p r ≡ true → Kept (cost_set p r c)
  kept_cost r c o =
      record {
        good = sound_cost p k.whole k.good r c o;
        whole = whole_cost p k.whole r c;
        some = omega (arith, k.some, cost_count p r c);
        few = omega (arith, k.few, cost_count p r c);
      }

  pub kept_removed : (r : ℕ) → occupied p r ≡ true → Kept (removed p r)
  kept_removed r o =
      record {
        good = sound_removed p k.whole k.good r o;
        whole = whole_removed p k.whole r;
        some = omega (arith, k.some, removed_count p r);
        few = omega (arith, k.few, removed_count p r);
      }

  pub kept_added : (e : Entry) (listed : List ℕ) → Addable p e listed → Kept (added p e listed)
  kept_added e listed can =
      record {
        good = sound_added p k.whole k.few k.good e listed can;
        whole = whole_added p k.whole e listed;
        some = omega (arith, k.some, added_count p e listed);
        few = omega (arith, k.few, added_count p e listed);
      }

-- ---- tables

-- a table of a legal length has a slot
pub some_slot : (t : List ℕ) → is_legal (length t) ≡ true → 1 ≤ slot_count (pool_of t)
unfolding is_legal
some_slot t h =
    let n = slots_in (length t) in
    let within = and_right (eqb (row_at n) (length t)) (leb 1 n && leb n capacity) h in
    omega (arith, slot_count_lem t, leb-true 1 n (and_left (leb 1 n) (leb n capacity) within))

pub well_kept : (t : List ℕ) → well_formed t ≡ true → Kept (pool_of t)
unfolding well_formed
well_kept t h =
    let legal = well_legal t h in
    record { good = and_right (is_legal (length t)) (sound (pool_of t)) h; whole = whole_pool t; some = some_slot t legal; few = few_slots t legal }

pub kept_well : (p : Pool) → Kept p → well_formed (table_of p) ≡ true
unfolding well_formed is_legal slots_in
kept_well p k =
    let t = table_of p in
    let n = slots_in (length t) in
    let e : n ≡ slot_count p = omega (arith, length_table p k.whole) in
    ap₂ ◌&&◌
    (ap₂ ◌&&◌ (eq-eqb (row_at n) (length t) (omega (arith, length_table p k.whole)))
    (ap₂ ◌&&◌ (le-leb 1 n (omega (arith, k.some))) (le-leb n capacity (omega (arith, k.few)))))
    (ap sound (pool_table p k.whole) ∙ k.good)
