-- From the steps of a call to the pool that it leaves: the walk that takes a slot's links out, and what remove and set-cost leave.
-- Assumes nothing.
use mathlib.Core.Path.{◌≡◌, refl, sym, ap, ◌∙◌}
use mathlib.Core.Bool.{Bool, cond}
use mathlib.Core.List.{List}
use Prim.Native.Nat.{ℕ, ◌+◌, ◌-◌, ◌<◌}
use native.Mathlib.Omega.{arith}
use lib.Dec.{eqb, ltb}
use borrow.Author.Tests.{lt-ltb, le-ltb, eq-eqb, ne_eqb}
use Rattle.lists.proofs.Numbers.{by_number, below_here, below_else}
use Rattle.pool_table.specs.Pool.{Slot, Pool, free, slot_at, slot_count, weight_at}
use Rattle.pool_table.specs.Words.{pool_of}
use Rattle.pool_table.specs.Changes.{changed, with_entry, with_cost, unlinked, with_total, Becomes}
use Rattle.pool_table.proofs.Pools.{pool_ext, changed_count, changed_here, changed_else}
use Rattle.pool_rules.specs.Module8.{with_slots, removed, cost_set}
use Rattle.pool_rules.proofs.Pools.{count_with, slot_with}
use Rattle.pool_rules.proofs.Tables.{becomes_then, becomes_as}
use Rattle.pool_calls.specs.Steps.{unlinked_all}

-- ---- the walk that takes a slot's links out

-- the slots below i do not name r any more
abbrev pub up_to : ℕ → ℕ → Pool → Pool
up_to r i p = with_slots p p.total (λ s x. cond (ltb s i) (unlinked r x) x)

abbrev up_to_slot : ℕ → ℕ → ℕ → Slot → Slot
up_to_slot r i s x = cond (ltb s i) (unlinked r x) x

module _ (r : ℕ) (p : Pool) where
  same_slot : (i s : ℕ) → s < slot_count p → slot_at (up_to r i p) s ≡ up_to_slot r i s (slot_at p s)
  same_slot i s l = slot_with p p.total (up_to_slot r i) s l

  walk_none : up_to r 0 p ≡ p
  unfolding with_slots
  walk_none =
      let n : slot_count (up_to r 0 p) ≡ slot_count p = count_with p p.total (up_to_slot r 0) in
      pool_ext (up_to r 0 p) p refl refl n
      (λ s l.
      same_slot 0 s (omega (arith, n, l)) ∙ ap (λ (b : Bool). cond b (unlinked r (slot_at p s)) (slot_at p s)) (le-ltb s 0 (omega arith)))

  -- slot i as well
  turn_at : (i : ℕ) → i < slot_count p → (s : ℕ) → s < slot_count p → slot_at (changed i (unlinked r) (up_to r i p)) s ≡ slot_at (up_to r (i + 1) p) s
  turn_at i m =
      let n : slot_count (up_to r i p) ≡ slot_count p = count_with p p.total (up_to_slot r i) in
      by_number (λ s. s < slot_count p → slot_at (changed i (unlinked r) (up_to r i p)) s ≡ slot_at (up_to r (i + 1) p) s) i
      (λ l.
      changed_here i (unlinked r) (up_to r i p) (omega (arith, n))
      ∙ ap (unlinked r) (same_slot i i l ∙ ap (λ (b : Bool). cond b (unlinked r (slot_at p i)) (slot_at p i)) (le-ltb i i (omega arith)))
      ∙ sym (same_slot (i + 1) i l ∙ ap (λ (b : Bool). cond b (unlinked r (slot_at p i)) (slot_at p i)) (below_here i)))
      (λ s ne l.
      changed_else i (unlinked r) (up_to r i p) s (λ e. ne (sym e)) ∙ same_slot i s l
      ∙ sym (same_slot (i + 1) s l ∙ ap (λ (b : Bool). cond b (unlinked r (slot_at p s)) (slot_at p s)) (below_else s i ne)))

  walk_more : (i : ℕ) → i < slot_count p → changed i (unlinked r) (up_to r i p) ≡ up_to r (i + 1) p
  unfolding changed with_slots
  walk_more i m =
      let n : slot_count (changed i (unlinked r) (up_to r i p)) ≡ slot_count p =
      changed_count i (unlinked r) (up_to r i p) ∙ count_with p p.total (up_to_slot r i) in
      pool_ext (changed i (unlinked r) (up_to r i p)) (up_to r (i + 1) p) refl refl (n ∙ sym (count_with p p.total (up_to_slot r (i + 1))))
      (λ s l. turn_at i m s (omega (arith, n)))

  walk_all : up_to r (slot_count p) p ≡ unlinked_all r p
  unfolding unlinked_all with_slots
  walk_all =
      let n : slot_count (up_to r (slot_count p) p) ≡ slot_count p = count_with p p.total (up_to_slot r (slot_count p)) in
      pool_ext (up_to r (slot_count p) p) (unlinked_all r p) refl refl (n ∙ sym (count_with p p.total (λ s x. unlinked r x)))
      (λ s l.
      let m : s < slot_count p = omega (arith, n) in
      same_slot (slot_count p) s m ∙ ap (λ (b : Bool). cond b (unlinked r (slot_at p s)) (slot_at p s)) (lt-ltb s (slot_count p) m)
      ∙ sym (slot_with p p.total (λ s x. unlinked r x) s m))

pub walk_start : (r : ℕ) (t : List ℕ) → Becomes (up_to r 0) t t
walk_start r t = record { long = refl; means = λ e. sym (walk_none r (pool_of t)); stays = λ e. refl }

pub walk_turn : (r i : ℕ) (a b c : List ℕ) → i < slot_count (pool_of a) → Becomes (up_to r i) a b → Becomes (changed i (unlinked r)) b c
    → Becomes (up_to r (i + 1)) a c
walk_turn r i a b c l x y = becomes_as (walk_more r (pool_of a) i l) (becomes_then x y)

pub walk_end : (r i : ℕ) (a b : List ℕ) → i ≡ slot_count (pool_of a) → Becomes (up_to r i) a b → Becomes (unlinked_all r) a b
walk_end r i a b e x = becomes_as (ap (λ (n : ℕ). up_to r n (pool_of a)) e ∙ walk_all r (pool_of a)) x

-- ---- the pool that remove leaves

module _ (r : ℕ) (p : Pool) where
  abbrev pub rest : Pool
  rest = with_total (p.total - weight_at p r) p

  abbrev pub emptied : Pool
  emptied = changed r (λ x. free) (unlinked_all r rest)

  -- what each slot holds before the last step, and in the definition
  before_at : (s : ℕ) → s < slot_count p → slot_at (unlinked_all r rest) s ≡ unlinked r (slot_at p s)
  unfolding unlinked_all slot_at
  before_at s l = slot_with rest rest.total (λ s x. unlinked r x) s l

  removed_at : (s : ℕ) → s < slot_count p → slot_at (removed p r) s ≡ cond (eqb s r) free (unlinked r (slot_at p s))
  unfolding removed
  removed_at s l = slot_with p (p.total - weight_at p r) (λ s x. cond (eqb s r) free (unlinked r x)) s l

  before_count : slot_count (unlinked_all r rest) ≡ slot_count p
  unfolding unlinked_all
  before_count = count_with rest rest.total (λ s x. unlinked r x)

  emptied_at : (s : ℕ) → s < slot_count p → slot_at emptied s ≡ slot_at (removed p r) s
  emptied_at =
      by_number (λ s. s < slot_count p → slot_at emptied s ≡ slot_at (removed p r) s) r
      (λ l.
      changed_here r (λ x. free) (unlinked_all r rest) (omega (arith, before_count))
      ∙ sym (removed_at r l ∙ ap (λ (b : Bool). cond b free (unlinked r (slot_at p r))) (eq-eqb r r refl)))
      (λ s ne l.
      changed_else r (λ x. free) (unlinked_all r rest) s (λ e. ne (sym e)) ∙ before_at s l
      ∙ sym (removed_at s l ∙ ap (λ (b : Bool). cond b free (unlinked r (slot_at p s))) (ne_eqb s r (λ e. ne (sym e)))))

  pub taken_out : emptied ≡ removed p r
  unfolding changed unlinked_all removed with_slots
  taken_out =
      let n : slot_count emptied ≡ slot_count p = changed_count r (λ x. free) (unlinked_all r rest) ∙ before_count in
      let m : slot_count (removed p r) ≡ slot_count p = count_with p (p.total - weight_at p r) (λ s x. cond (eqb s r) free (unlinked r x)) in
      pool_ext emptied (removed p r) refl refl (n ∙ sym m) (λ s l. emptied_at s (omega (arith, n, l)))

-- ---- the pool that set-cost leaves

module _ (r c : ℕ) (p : Pool) where
  abbrev anew : Slot → Slot
  anew = with_entry (with_cost c (slot_at p r).entry)

  cost_at : (s : ℕ) → s < slot_count p → slot_at (cost_set p r c) s ≡ cond (eqb s r) (with_entry (with_cost c (slot_at p s).entry) (slot_at p s)) (slot_at p s)
  unfolding cost_set
  cost_at s l = slot_with p p.total (λ s x. cond (eqb s r) (with_entry (with_cost c x.entry) x) x) s l

  put_at_lem : (s : ℕ) → s < slot_count p → slot_at (changed r anew p) s ≡ slot_at (cost_set p r c) s
  unfolding slot_at
  put_at_lem =
      by_number (λ s. s < slot_count p → slot_at (changed r anew p) s ≡ slot_at (cost_set p r c) s) r
      (λ l.
      changed_here r anew p l
      ∙ sym (cost_at r l ∙ ap (λ (b : Bool). cond b (anew (slot_at p r)) (slot_at p r)) (eq-eqb r r refl)))
      (λ s ne l.
      changed_else r anew p s (λ e. ne (sym e))
      ∙ sym (cost_at s l ∙ ap (λ (b : Bool). cond b (with_entry (with_cost c (slot_at p s).entry) (slot_at p s)) (slot_at p s)) (ne_eqb s r (λ e. ne (sym e)))))

  pub cost_put : changed r (with_entry (with_cost c (slot_at p r).entry)) p ≡ cost_set p r c
  unfolding changed cost_set with_slots
  cost_put =
      let n : slot_count (changed r anew p) ≡ slot_count p = changed_count r anew p in
      let m : slot_count (cost_set p r c) ≡ slot_count p = count_with p p.total (λ s x. cond (eqb s r) (with_entry (with_cost c x.entry) x) x) in
      pool_ext (changed r anew p) (cost_set p r c) refl refl (n ∙ sym m) (λ s l. put_at_lem s (omega (arith, n, l)))
