-- Pools by their slots: two pools are one where each slot is, and one slot changed (specs/Changes.antt). Assumes nothing.
use mathlib.Core.Path.{◌≡◌, refl, sym, ap, subst}
use mathlib.Core.List.{List}
use Prim.Native.Nat.{ℕ, zero, suc, ◌≤◌, ◌<◌}
use lib.ListN.{length, get_or, length-set}
use lib.Seq.{ext_get_or, set_out, get_or-set_same, get_or-set_other}
use Rattle.pool_table.specs.declared.Limits.{Limits}
use Rattle.pool_table.specs.Pool.{Slot, Pool, free, slot_at, slot_count}
use Rattle.pool_table.specs.Changes.{changed, free_slots, made}
use Rattle.pool_table.proofs.Rows.{Whole, whole_free}
use Rattle.pool_table.proofs.Theorems.{Wholes}

pool_same : {l m : Limits} {n o : ℕ} {xs ys : List Slot} → l ≡ m → n ≡ o → xs ≡ ys
    → ◌≡◌ {A = Pool} (record { limits = l; total = n; slots = xs }) (record { limits = m; total = o; slots = ys })
pool_same p q r = rw (p, q, r)

pub pool_ext : (p q : Pool) → p.limits ≡ q.limits → p.total ≡ q.total → slot_count p ≡ slot_count q
    → ((i : ℕ) → i < slot_count p → slot_at p i ≡ slot_at q i) → p ≡ q
unfolding slot_at
pool_ext p q l t n h = pool_same l t (ext_get_or free p.slots q.slots n h)

-- ---- one slot changed

module _ (s : ℕ) (f : Slot → Slot) (p : Pool) where
  pub changed_count : slot_count (changed s f p) ≡ slot_count p
  unfolding changed
  changed_count = length-set p.slots s (f (slot_at p s))

  pub changed_here : s < slot_count p → slot_at (changed s f p) s ≡ f (slot_at p s)
  unfolding changed slot_at
  changed_here l = get_or-set_same p.slots s (f (slot_at p s)) free l

  pub changed_else : (i : ℕ) → (i ≡ s → ⊥) → slot_at (changed s f p) i ≡ slot_at p i
  unfolding changed slot_at
  changed_else i n = get_or-set_other p.slots s i (f (slot_at p s)) free n

  -- past the last slot nothing is changed
  pub changed_past : slot_count p ≤ s → changed s f p ≡ p
  unfolding changed
  changed_past l = pool_same refl refl (set_out p.slots s (f (slot_at p s)) l)

-- ---- a pool made anew

pub made_count : (l : Limits) (n : ℕ) → slot_count (made l n) ≡ n
unfolding made free_slots
made_count l n = go n
  where
    go : (n : ℕ) → length (free_slots n) ≡ n
    go zero = refl
    go (suc n) = ap suc (go n)

pub made_at : (l : Limits) (n i : ℕ) → slot_at (made l n) i ≡ free
unfolding made free_slots slot_at
made_at l n i = go n i
  where
    go : (n i : ℕ) → get_or (free_slots n) i free ≡ free
    go zero i = refl
    go (suc n) zero = refl
    go (suc n) (suc i) = go n i

pub whole_made : (l : Limits) (n : ℕ) → Wholes (made l n).slots
unfolding slot_at
whole_made l n i = subst Whole (sym (made_at l n i)) whole_free
