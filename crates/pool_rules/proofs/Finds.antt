-- The walks over the slots: the first that has a property, how many have it, and what a look-up's answer says. Assumes nothing.
use mathlib.Core.Path.{◌≡◌, sym, ap, ◌∙◌}
use mathlib.Core.Bool.{Bool, true, false, cond, not}
use Prim.Native.Nat.{ℕ, ◌+◌, ◌≤◌, ◌<◌}
use native.Mathlib.Nat.{add-zero, zero-add}
use native.Mathlib.Omega.{arith}
use borrow.Author.Tests.{lt-ltb, le-ltb, not-true}
use Rattle.std.proofs.Common.{Option, Some, None, is_some}
use Rattle.lists.specs.Below.{bit, count_from, first_from, some_below}
use Rattle.lists.proofs.Below.{first_is, first_unique, any_first, count_split}
use Rattle.lists.proofs.Found.{found_below, none_past}
use Rattle.lists.proofs.Bools.{cond_first, cond_second}
use Rattle.txids.specs.declared.Txid.{Txid}
use Rattle.txids.specs.Txids.{same_txid}
use Rattle.pool_table.specs.Pool.{Pool, slot_at, slot_count, occupied}
use Rattle.pool_rules.specs.declared.Placed.{Placed}
use Rattle.pool_rules.specs.Module8.{holds, is_in, slot_of, is_full, lowest_free}
use Rattle.pool_rules.specs.Calls.{placed, no_slot, placed_of}

-- ---- the first

-- none of the first s has it
abbrev pub Missed : (ℕ → Bool) → ℕ → Type 0
Missed f s = (j : ℕ) → j < s → f j ≡ false

pub first_here : (f : ℕ → Bool) (n s : ℕ) → s < n → Missed f s → f s ≡ true → first_from f n 0 ≡ s
first_here f n s l m e =
    first_unique f n 0 s (record { from = omega arith; to = omega arith; before = λ j _ b. m j b; at = λ _. e })

pub first_none : (f : ℕ → Bool) (n s : ℕ) → s ≡ n → Missed f s → first_from f n 0 ≡ s
first_none f n s l m =
    first_unique f n 0 s (record { from = omega arith; to = omega arith; before = λ j _ b. m j b; at = λ k. absurd (omega arith) })

-- ---- how many

pub count_more : (f : ℕ → Bool) (s : ℕ) → count_from f (s + 1) 0 ≡ count_from f s 0 + bit (f s)
unfolding count_from
count_more f s = count_split f s 1 0 ∙ rw (zero-add s, add-zero (bit (f s)))

-- ---- where a txid stands

module _ (p : Pool) (t : Txid) where
  -- what the tests of an occupied and of a free slot give
  pub holds_taken : (s : ℕ) → occupied p s ≡ true → same_txid (slot_at p s).entry.txid t ≡ holds p t s
  unfolding holds
  holds_taken s e = rw e

  pub holds_free : (s : ℕ) → occupied p s ≡ false → false ≡ holds p t s
  unfolding holds
  holds_free s e = rw e

  -- what a look-up answers, by cases
  abbrev pub Answer : Placed → Type 0
  Answer r = r ≡ cond (is_in p t) (placed (slot_of p t)) (no_slot 10)

  pub found_here : (s : ℕ) → s < slot_count p → Missed (holds p t) s → holds p t s ≡ true → Answer (placed s)
  unfolding is_in slot_of
  found_here s l m e =
      let f : slot_of p t ≡ s = first_here (holds p t) (slot_count p) s l m e in
      rw (any_first (holds p t) (slot_count p) 0, f, lt-ltb s (0 + slot_count p) (omega arith))

  pub found_nowhere : (s : ℕ) → s ≡ slot_count p → Missed (holds p t) s → Answer (no_slot 10)
  unfolding is_in slot_of
  found_nowhere s l m =
      let f : slot_of p t ≡ s = first_none (holds p t) (slot_count p) s l m in
      rw (any_first (holds p t) (slot_count p) 0, f, le-ltb s (0 + slot_count p) (omega arith))

  -- and what it says
  pub is_at : (s : ℕ) → Answer (placed s) → (is_in p t ≡ true) × (slot_of p t ≡ s)
  is_at s e =
      let c = cond_first (is_in p t) (sym e) (λ z. let d : 10 ≡ 0 = ap (λ (r : Placed). r.answer) z in omega arith) in
      (c.0, ap (λ (r : Placed). r.slot) c.1)

  pub is_nowhere : Answer (no_slot 10) → is_in p t ≡ false
  is_nowhere e = (cond_second (is_in p t) (sym e) (λ z. let d : 0 ≡ 10 = ap (λ (r : Placed). r.answer) z in omega arith)).0

  -- it found one where the txid is in the pool
  pub found_is : (o : Option ℕ) → Answer (placed_of o) → is_some o ≡ is_in p t
  found_is (Some s) e = sym (is_at s e).0
  found_is None e = sym (is_nowhere e)

-- ---- the lowest free slot

module _ (p : Pool) where
  -- what the walk answers at a free slot, and past the last
  pub lowest_here : (s : ℕ) → s < slot_count p → Missed (λ s. not (occupied p s)) s → not (occupied p s) ≡ true
      → Some s ≡ some_below (slot_count p) (lowest_free p)
  unfolding lowest_free
  lowest_here s l m e = rw (first_here (λ s. not (occupied p s)) (slot_count p) s l m e) (sym (found_below (slot_count p) s l))

  pub lowest_none : (s : ℕ) → s ≡ slot_count p → Missed (λ s. not (occupied p s)) s → ◌≡◌ {A = Option ℕ} None (some_below (slot_count p) (lowest_free p))
  unfolding lowest_free
  lowest_none s l m = rw (first_none (λ s. not (occupied p s)) (slot_count p) s l m) (sym (none_past (slot_count p) s (omega arith)))

  pub full_past : slot_count p ≤ lowest_free p → is_full p ≡ true
  unfolding is_full lowest_free
  full_past l = rw (any_first (λ s. not (occupied p s)) (slot_count p) 0, le-ltb (lowest_free p) (0 + slot_count p) (omega arith))

  pub room_below : lowest_free p < slot_count p → is_full p ≡ false
  unfolding is_full lowest_free
  room_below l = rw (any_first (λ s. not (occupied p s)) (slot_count p) 0, lt-ltb (lowest_free p) (0 + slot_count p) (omega arith))

  pub lowest_is_free : lowest_free p < slot_count p → occupied p (lowest_free p) ≡ false
  unfolding lowest_free
  lowest_is_free l = not-true (occupied p (lowest_free p)) ((first_is (λ s. not (occupied p s)) (slot_count p) 0).at (omega arith))
