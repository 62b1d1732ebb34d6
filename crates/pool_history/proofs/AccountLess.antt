-- The account of a pool is right after an entry was removed, and after a cost was set. Assumes nothing.
use mathlib.Core.Path.{◌≡◌, refl, sym, ap, ap₂, ◌∙◌}
use mathlib.Core.Bool.{Bool, true, false, cond, not, ◌&&◌, and-true}
use Prim.Native.Nat.{ℕ, ◌+◌}
use native.Mathlib.Omega.{arith}
use lib.Dec.{eqb}
use borrow.Author.Tests.{eq-eqb, ne_eqb, not-true}
use Rattle.lists.proofs.Below.{count_ext}
use Rattle.lists.proofs.Bools.{clash, cases, and_both}
use Rattle.lists.proofs.Numbers.{by_number}
use Rattle.txids.specs.declared.Txid.{Txid}
use Rattle.txids.specs.Txids.{same_txid}
use Rattle.txids.proofs.Theorems.{same_equal, equal_same}
use Rattle.pool_table.specs.declared.Entry.{Entry}
use Rattle.pool_table.specs.declared.Side.TheVariants.{Parents}
use Rattle.pool_table.specs.Pool.{Slot, Pool, slot_at, slot_count, occupied, weight_at, entries}
use Rattle.pool_table.specs.Changes.{with_cost}
use Rattle.pool_table.proofs.Theorems.{Wholes}
use Rattle.pool_links.proofs.Mutual.{occupied_in}
use Rattle.pool_rules.specs.Module8.{with_slots, removed, cost_set}
use Rattle.pool_history.specs.History.{remove, set_cost}
use Rattle.pool_history.specs.Standing.{weight_of_entry, one_each}
use Rattle.pool_history.proofs.Plain.{names, Plain}
use Rattle.pool_history.proofs.Compared.{entries_but}
use Rattle.pool_history.proofs.Cost.{cost_count, cost_else, cost_slot, cost_here, cost_names, cost_occupied}
use Rattle.pool_history.proofs.Removed.{removed_count, removed_else, removed_gone, removed_occupied, removed_weight, removed_names}
use Rattle.pool_history.proofs.Places.{At, at_one, txids_differ}
use Rattle.pool_history.proofs.Account.{Account, after, Told, Right}

-- ---- removed

module _ {n : ℕ} {k : Account} {p : Pool} (h : Right n k p) (plain : Plain p) (w : Wholes p.slots) (y : Txid) (r : ℕ) (here : At p y r) where
  abbrev q : Pool
  q = removed p r

  apart : {s : ℕ} → (r ≡ s → ⊥) → s ≡ r → ⊥
  apart d e = d (sym e)

  -- who is still there stood there before, in another slot and with another txid
  still : {x : Txid} {s : ℕ} → At q x s → (r ≡ s → ⊥) × (same_txid y x ≡ false) × At p x s
  still {x} {s} a =
      let d : r ≡ s → ⊥ = λ e. clash a.there (ap (occupied q) (sym e) ∙ removed_gone p r) in
      let b : At p x s =
      record {
        there = sym (removed_occupied p r s d) ∙ a.there;
        named = sym (ap (λ (e : Entry). e.txid) (removed_else p r s d)) ∙ a.named;
      } in
      (d, txids_differ y x (λ e. d (at_one plain here (record { there = b.there; named = b.named ∙ sym e }))), b)

  -- and who stood there with another txid is still there
  stays : {x : Txid} {s : ℕ} → At p x s → same_txid y x ≡ false → At q x s
  stays {x} {s} a e =
      let d : r ≡ s → ⊥ =
      λ z. clash (equal_same y x (sym here.named ∙ ap (λ (i : ℕ). (slot_at p i).entry.txid) z ∙ a.named)) e in
      record {
        there = removed_occupied p r s d ∙ a.there;
        named = ap (λ (e : Entry). e.txid) (removed_else p r s d) ∙ a.named;
      }

  used : (s : ℕ) → occupied q s ≡ (not (eqb s (k.board.place y)) && k.board.used s)
  used =
      by_number (λ s. occupied q s ≡ (not (eqb s (k.board.place y)) && k.board.used s)) r
      (rw ((h.told y r here).place, eq-eqb r r refl) (removed_gone p r))
      (λ s d. rw ((h.told y r here).place, ne_eqb s r (apart d)) (removed_occupied p r s d ∙ h.used s))

  told : (x : Txid) (s : ℕ) → At q x s → Told (after n (remove y) k) q x s
  told x s a =
      let u = still a in
      let old = h.told x s u.2 in
      record {
        stands = rw u.1 old.stands;
        held = removed_else p r s u.0 ∙ old.held;
        place = old.place;
        who = old.who;
      }

  links : (x z : Txid) (a b : ℕ) → At q x a → At q z b → names q Parents a b ≡ (not (same_txid y x) && (not (same_txid y z) && k.linked x z))
  links x z a b i j =
      let u = still i in
      let v = still j in
      rw (u.1, v.1)
      (removed_names p r w Parents a b
      ∙ ap₂ ◌&&◌ (h.links x z a b u.2 v.2) (ap₂ (λ (c d : Bool). not c && not d) (ne_eqb a r (apart u.0)) (ne_eqb b r (apart v.0)))
      ∙ and-true (k.linked x z))

  ends : (x z : Txid) → (not (same_txid y x) && (not (same_txid y z) && k.linked x z)) ≡ true
      → ((not (same_txid y x) && k.stands x) ≡ true) × ((not (same_txid y z) && k.stands z) ≡ true)
  ends x z e =
      let a = and_both (not (same_txid y x)) (not (same_txid y z) && k.linked x z) e in
      let b = and_both (not (same_txid y z)) (k.linked x z) a.1 in
      let c = h.ends x z b.1 in
      (ap₂ ◌&&◌ a.0 c.0, ap₂ ◌&&◌ b.0 c.1)

  weighed : weight_of_entry (k.held y) ≡ weight_at p r
  weighed = ap weight_of_entry (sym (h.told y r here).held)

  total : q.total + (weight_of_entry (k.held y) + k.removed weight_of_entry) ≡ k.added weight_of_entry
  unfolding removed with_slots
  total = omega (arith, weighed, plain.total, removed_weight p r (occupied_in p r here.there), h.total)

  counted : entries q + (1 + k.removed one_each) ≡ k.added one_each
  counted = omega (arith, entries_but p q (removed_count p r) r here.there (removed_gone p r) (removed_occupied p r), h.entries)

  pub right_removed : Right n (after n (remove y) k) (removed p r)
  unfolding removed with_slots
  right_removed =
      record {
        count = removed_count p r ∙ h.count;
        limits = h.limits;
        used = used;
        told = told;
        at = λ x e. let b = and_both (not (same_txid y x)) (k.stands x) e in stays (h.at x b.1) (not-true (same_txid y x) b.0);
        links = links;
        ends = ends;
        total = total;
        entries = counted;
      }

-- ---- a cost set

module _ {n : ℕ} {k : Account} {p : Pool} (h : Right n k p) (plain : Plain p) (y : Txid) (r c : ℕ) (here : At p y r) where
  -- who is there was there
  was_there : {x : Txid} {s : ℕ} → At (cost_set p r c) x s → At p x s
  was_there {x} {s} a = record { there = sym (cost_occupied p r c s) ∙ a.there; named = sym (cost_slot p r c s).txid ∙ a.named }

  is_there : {x : Txid} {s : ℕ} → At p x s → At (cost_set p r c) x s
  is_there {x} {s} a = record { there = cost_occupied p r c s ∙ a.there; named = (cost_slot p r c s).txid ∙ a.named }

  holds : (x : Txid) (s : ℕ) → At p x s → (slot_at (cost_set p r c) s).entry ≡ cond (same_txid y x) (with_cost c (k.held x)) (k.held x)
  holds x s a =
      cases (same_txid y x)
      (λ e.
      let z : r ≡ s = at_one plain here (record { there = a.there; named = a.named ∙ sym (same_equal y x e) }) in
      rw (e, ← z) (cost_here p r c (occupied_in p r here.there) ∙ ap (with_cost c) (ap (λ (i : ℕ). (slot_at p i).entry) z ∙ (h.told x s a).held)))
      (λ e.
      let d : r ≡ s → ⊥ = λ z. clash (equal_same y x (sym here.named ∙ ap (λ (i : ℕ). (slot_at p i).entry.txid) z ∙ a.named)) e in
      rw e (ap (λ (i : Slot). i.entry) (cost_else p r c s d) ∙ (h.told x s a).held))

  pub right_cost : Right n (after n (set_cost y c) k) (cost_set p r c)
  unfolding cost_set with_slots entries
  right_cost =
      record {
        count = cost_count p r c ∙ h.count;
        limits = h.limits;
        used = λ s. cost_occupied p r c s ∙ h.used s;
        told = λ x s a.
            let old = h.told x s (was_there a) in
            record { stands = old.stands; held = holds x s (was_there a); place = old.place; who = old.who };
        at = λ x e. is_there (h.at x e);
        links = λ x z a b i j. cost_names p r c Parents a b ∙ h.links x z a b (was_there i) (was_there j);
        ends = h.ends;
        total = h.total;
        entries =
            ap (λ (m : ℕ). m + k.removed one_each)
            (rw (cost_count p r c) (count_ext (occupied (cost_set p r c)) (occupied p) (slot_count p) 0 (λ s _ _. cost_occupied p r c s)))
            ∙ h.entries;
      }
