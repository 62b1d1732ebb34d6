-- A sound pool without an entry is sound: links and clusters are parts of what they were. Assumes nothing.
use mathlib.Core.Path.{◌≡◌, refl, sym, ap, ap₂, ◌∙◌}
use mathlib.Core.Bool.{Bool, true, false, cond, not, ◌&&◌, and-false, and_comm}
use Prim.Native.Nat.{ℕ, ◌+◌, ◌≤◌, ◌<◌}
use native.Mathlib.Omega.{arith}
use lib.Dec.{eqb}
use borrow.Author.Tests.{ne_eqb, eq-eqb, eqb-false, not-true}
use Rattle.lists.proofs.Bools.{clash, cases, and_both, and_right, cond_where}
use Rattle.lists.proofs.Numbers.{by_number}
use Rattle.txset.specs.Sets.{has_in}
use Rattle.slotsets.specs.SlotSets.{none, minus}
use Rattle.slotsets.proofs.SlotSets.{set_ext, none_has}
use Rattle.pool_table.specs.declared.Side.{Side}
use Rattle.pool_table.specs.declared.Side.TheVariants.{Parents, Children}
use Rattle.pool_table.specs.declared.Entry.{Entry}
use Rattle.pool_table.specs.Pool.{Slot, Pool, free, slot_at, slot_count, is_occupied, occupied, weight_at}
use Rattle.pool_table.specs.Changes.{unlinked}
use Rattle.pool_table.specs.Ranges.{entry_in_range}
use Rattle.pool_table.specs.Links.{side_of, weight_of}
use Rattle.pool_table.specs.WellFormed.{sound}
use Rattle.pool_table.proofs.Rows.{Whole, slot_same}
use Rattle.pool_table.proofs.Named.{free_side}
use Rattle.pool_table.proofs.Theorems.{Wholes}
use Rattle.pool_links.proofs.Mutual.{occupied_in}
use Rattle.pool_rules.specs.Module8.{with_slots, removed}
use Rattle.pool_rules.proofs.Pools.{count_with}
use Rattle.pool_history.proofs.Plain.{names, Plain, sound_plain, plain_sound}
use Rattle.pool_history.proofs.Compared.{weight_but}
use Rattle.pool_history.proofs.Fewer.{Fewer, fewer_acyclic, fewer_within}
use Rattle.pool_history.proofs.Slots.{each_slot, same_occupied, has_minus}

module _ (p : Pool) (r : ℕ) where
  pub removed_count : slot_count (removed p r) ≡ slot_count p
  unfolding removed
  removed_count = count_with p _ _

  -- its slot is free again
  pub removed_here : slot_at (removed p r) r ≡ free
  unfolding removed
  removed_here =
      each_slot p _ _ (λ s x y. r ≡ s → y ≡ free)
      (λ s e. ap (λ (b : Bool). cond b free (unlinked r (slot_at p s))) (eq-eqb s r (sym e)))
      (λ s _ e. refl) r refl

  -- another slot keeps its entry
  pub removed_else : (s : ℕ) → (r ≡ s → ⊥) → (slot_at (removed p r) s).entry ≡ (slot_at p s).entry
  unfolding removed
  removed_else =
      each_slot p _ _ (λ s x y. (r ≡ s → ⊥) → y.entry ≡ x.entry)
      (λ s n. ap (λ (b : Bool). (cond b free (unlinked r (slot_at p s))).entry) (ne_eqb s r (λ e. n (sym e))))
      (λ s _ n. refl)

  pub removed_gone : occupied (removed p r) r ≡ false
  unfolding is_occupied
  removed_gone = ap is_occupied removed_here

  pub removed_occupied : (s : ℕ) → (r ≡ s → ⊥) → occupied (removed p r) s ≡ occupied p s
  removed_occupied s n = same_occupied (slot_at (removed p r) s) (slot_at p s) (ap (λ (e : Entry). e.weight) (removed_else s n))

  -- all weighed as much more as was there
  pub removed_weight : r < slot_count p → weight_of p (λ s. true) ≡ weight_at p r + weight_of (removed p r) (λ s. true)
  removed_weight l =
      weight_but p (removed p r) removed_count r l (ap (λ (x : Slot). x.entry.weight.0) removed_here)
      (λ s n. ap (λ (e : Entry). e.weight.0) (removed_else s n))
      (λ s. true) (λ s. true) refl (λ s _. refl)

  -- a free slot stays free
  unlinked_free : unlinked r free ≡ free
  unlinked_free =
      let e : minus none r ≡ none = set_ext (λ i. has_in none i && not (eqb i r)) (λ i. false) (λ i _. rw (none_has i)) in
      slot_same refl e e

  removed_free : (s : ℕ) → slot_at p s ≡ free → slot_at (removed p r) s ≡ free
  unfolding removed
  removed_free =
      each_slot p _ _ (λ s x y. x ≡ free → y ≡ free)
      (λ s e. cond_where (λ (y : Slot). y ≡ free) (eqb s r) (λ _. refl) (λ _. ap (unlinked r) e ∙ unlinked_free))
      (λ s _ e. e)

  -- "a link stands until one of its ends is removed"
  pub removed_names : Wholes p.slots → (side : Side) (a b : ℕ)
      → names (removed p r) side a b ≡ (names p side a b && (not (eqb a r) && not (eqb b r)))
  unfolding removed slot_at
  removed_names w side a b =
      each_slot p _ _ (λ s x y. has_in (side_of side y) b ≡ (has_in (side_of side x) b && (not (eqb s r) && not (eqb b r))))
      (λ s.
      cases (eqb s r)
      (λ e. rw e (free_side side b ∙ sym (and-false (names p side s b))))
      (λ e. rw e (less side (slot_at p s) (w s))))
      (λ s _. rw (free_side side b))
      a
    where
      less : (side : Side) (x : Slot) → Whole x → has_in (side_of side (unlinked r x)) b ≡ (has_in (side_of side x) b && not (eqb b r))
      less Parents x v = has_minus x.parents v.parents r b
      less Children x v = has_minus x.children v.children r b

module _ (p : Pool) (w : Wholes p.slots) (good : sound p ≡ true) (r : ℕ) (o : occupied p r ≡ true) where
  abbrev q : Pool
  q = removed p r

  old : Plain p
  old = sound_plain p w good

  -- who is still there, is not r
  other : (s : ℕ) → occupied q s ≡ true → r ≡ s → ⊥
  other s e z = clash e (ap (occupied q) (sym z) ∙ removed_gone p r)

  was : (s : ℕ) → occupied q s ≡ true → occupied p s ≡ true
  was s e = sym (removed_occupied p r s (other s e)) ∙ e

  stood : (side : Side) (a b : ℕ) → names q side a b ≡ true → (names p side a b ≡ true) × ((not (eqb a r) && not (eqb b r)) ≡ true)
  stood side a b e = and_both (names p side a b) (not (eqb a r) && not (eqb b r)) (sym (removed_names p r w side a b) ∙ e)

  named : (side : Side) (a b : ℕ) → names q side a b ≡ true → occupied q b ≡ true
  named side a b e =
      let u = stood side a b e in
      let n : b ≡ r → ⊥ = eqb-false b r (not-true (eqb b r) (and_right (not (eqb a r)) (not (eqb b r)) u.1)) in
      removed_occupied p r b (λ z. n (sym z)) ∙ old.named side a b u.0

  fewer : Fewer p q
  unfolding removed with_slots
  fewer =
      record {
        limits = refl;
        count = removed_count p r;
        named = λ side a b e. (stood side a b e).0;
        weight =
            by_number (λ s. weight_at q s ≤ weight_at p s) r
            (omega (arith, ap (λ (x : Slot). x.entry.weight.0) (removed_here p r)))
            (λ s n. omega (arith, ap (λ (e : Entry). e.weight.0) (removed_else p r s n)));
      }

  total : q.total ≡ weight_of q (λ s. true)
  unfolding removed with_slots
  total = omega (arith, old.total, removed_weight p r (occupied_in p r o))

  pub sound_removed : sound (removed p r) ≡ true
  unfolding removed with_slots
  sound_removed =
      plain_sound
      (record {
        limits = old.limits;
        numbers = λ s e. ap entry_in_range (removed_else p r s (other s e)) ∙ old.numbers s (was s e);
        distinct = λ a b d e z.
            old.distinct a b (was a d) (was b e)
            (sym (ap (λ (x : Entry). x.txid) (removed_else p r a (other a d))) ∙ z ∙ ap (λ (x : Entry). x.txid) (removed_else p r b (other b e)));
        total = total;
        empty =
            by_number (λ s. occupied q s ≡ false → slot_at q s ≡ free) r
            (λ _. removed_here p r)
            (λ s n e. removed_free p r s (old.empty s (sym (removed_occupied p r s n) ∙ e)));
        links = λ a b.
            removed_names p r w Parents a b ∙ ap₂ ◌&&◌ (old.links a b) (and_comm (not (eqb a r)) (not (eqb b r)))
            ∙ sym (removed_names p r w Children b a);
        named = named;
        acyclic = fewer_acyclic old fewer;
        within = λ s e. fewer_within old fewer s (was s e);
      })
