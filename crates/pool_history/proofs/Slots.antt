-- Each slot of a pool whose slots are made anew (`with_slots` of pool_rules), and the members of a set with a slot more or one less.
-- Assumes nothing.
use mathlib.Core.Path.{◌≡◌, sym, ◌∙◌, subst}
use mathlib.Core.Bool.{Bool, true, not, ◌&&◌, ◌||◌}
use mathlib.Core.Logic.{⊎_elim}
use mathlib.Core.List.{List}
use Prim.Native.Nat.{ℕ, ◌≤◌, ◌<◌}
use native.Mathlib.Omega.{arith}
use lib.Dec.{eqb, ltb}
use lib.ListN.{length}
use borrow.Author.Tests.{lt-ltb, eqb-true}
use Rattle.lists.proofs.Bools.{clash, and_left, or_either, asked}
use Rattle.lists.proofs.Numbers.{lt_or_ge}
use Rattle.txset.specs.Sets.{has_in}
use Rattle.slotsets.specs.SlotSets.{capacity, set_words, set_of, plus, minus}
use Rattle.slotsets.proofs.SlotSets.{has_in_set, set_past}
use Rattle.pool_table.specs.Pool.{Slot, Pool, free, slot_at, slot_count, is_occupied}
use Rattle.pool_table.proofs.Rows.{slot_past}
use Rattle.pool_rules.specs.Module8.{with_slots}
use Rattle.pool_rules.proofs.Pools.{count_with, slot_with}

-- what holds of each slot made anew, and past the last of a free one, holds of every number
pub each_slot : (p : Pool) (n : ℕ) (f : ℕ → Slot → Slot) (P : ℕ → Slot → Slot → Type 0) → ((s : ℕ) → P s (slot_at p s) (f s (slot_at p s)))
    → ((s : ℕ) → slot_count p ≤ s → P s free free) → (s : ℕ) → P s (slot_at p s) (slot_at (with_slots p n f) s)
each_slot p n f P new none s =
    ⊎_elim
    (λ l. subst (P s (slot_at p s)) (sym (slot_with p n f s l)) (new s))
    (λ l.
    let m : slot_count (with_slots p n f) ≤ s = omega (arith, count_with p n f) in
    subst (λ (x : Slot). P s x (slot_at (with_slots p n f) s)) (sym (slot_past p s l))
    (subst (P s free) (sym (slot_past (with_slots p n f) s m)) (none s l)))
    (lt_or_ge s (slot_count p))

-- slots of one weight are both occupied, or both free
pub same_occupied : (x y : Slot) → x.entry.weight ≡ y.entry.weight → is_occupied x ≡ is_occupied y
unfolding is_occupied
same_occupied x y e = rw e

-- ---- sets

pub has_set : (f : ℕ → Bool) (b : ℕ) → (f b ≡ true → b < capacity) → has_in (set_of f) b ≡ f b
has_set f b l = has_in_set f b ∙ asked (ltb b capacity) (f b) (λ e. lt-ltb b capacity (l e))

pub member_below : (ws : List ℕ) → length ws ≡ set_words → (b : ℕ) → has_in ws b ≡ true → b < capacity
member_below ws long b e = ⊎_elim (λ l. l) (λ l. clash e (set_past ws long b l)) (lt_or_ge b capacity)

module _ (ws : List ℕ) (long : length ws ≡ set_words) (r b : ℕ) where
  pub has_minus : has_in (minus ws r) b ≡ (has_in ws b && not (eqb b r))
  has_minus = has_set _ b (λ e. member_below ws long b (and_left (has_in ws b) (not (eqb b r)) e))

  pub has_plus : r < capacity → has_in (plus ws r) b ≡ (has_in ws b || eqb b r)
  has_plus l = has_set _ b (λ e. ⊎_elim (member_below ws long b) (λ z. omega (arith, eqb-true b r z)) (or_either (has_in ws b) (eqb b r) e))
