-- The pool that add leaves, slot by slot: the newcomer's entry and links, and what the others keep. Assumes nothing.
use mathlib.Core.Path.{◌≡◌, refl, sym, ap, ap₂, ◌∙◌}
use mathlib.Core.Bool.{Bool, true, false, not, ◌&&◌, ◌||◌, or-false}
use mathlib.Core.Logic.{⊎_elim}
use mathlib.Core.List.{List}
use Prim.Native.Nat.{ℕ, ◌≤◌, ◌<◌}
use native.Mathlib.Omega.{arith}
use lib.Dec.{eqb, leb}
use borrow.Author.Tests.{eq-eqb, ne_eqb, leb-true}
use Rattle.lists.proofs.Below.{any_at}
use Rattle.lists.proofs.Bools.{clash, cases, and_left, and_right, is_false}
use Rattle.lists.proofs.Numbers.{lt_or_ge, by_number}
use Rattle.txset.specs.Sets.{has_in}
use Rattle.slotsets.specs.SlotSets.{capacity, none, set_of}
use Rattle.slotsets.proofs.SlotSets.{none_has}
use Rattle.txids.specs.declared.Txid.{Txid}
use Rattle.txids.proofs.Theorems.{equal_same}
use Rattle.pool_table.specs.declared.Entry.{Entry}
use Rattle.pool_table.specs.declared.Side.TheVariants.{Parents, Children}
use Rattle.pool_table.specs.Pool.{Slot, Pool, free, slot_at, slot_count, is_occupied, occupied}
use Rattle.pool_table.specs.Changes.{with_entry, with_links}
use Rattle.pool_table.specs.Ranges.{entry_in_range}
use Rattle.pool_table.proofs.Theorems.{Wholes}
use Rattle.pool_rules.specs.Module8.{holds, is_in, is_full, lowest_free, is_listed, added}
use Rattle.pool_rules.proofs.Finds.{full_past, lowest_is_free}
use Rattle.pool_rules.proofs.Listed.{listed_held}
use Rattle.pool_rules.proofs.Pools.{count_with, slot_with}
use Rattle.pool_history.proofs.Plain.{names, Plain}
use Rattle.pool_history.proofs.Slots.{each_slot, same_occupied, has_plus, has_set}

-- an entry with a txid that is not in the pool
pub not_held : (p : Pool) (t : Txid) → is_in p t ≡ false → (s : ℕ) → s < slot_count p → occupied p s ≡ true → (slot_at p s).entry.txid ≡ t → ⊥
unfolding is_in holds
not_held p t h s l o e =
    clash
    (any_at (holds p t) (slot_count p) 0 s (omega arith) (omega arith) (ap₂ ◌&&◌ o (equal_same (slot_at p s).entry.txid t e)))
    h

-- there is room: the lowest free slot is one
pub room_there : (p : Pool) → is_full p ≡ false → lowest_free p < slot_count p
room_there p h = ⊎_elim (λ l. l) (λ l. clash (full_past p l) h) (lt_or_ge (lowest_free p) (slot_count p))

module _ (p : Pool) (e : Entry) (listed : List ℕ) where
  abbrev f : ℕ → Bool
  f = is_listed p e.txid listed

  abbrev r : ℕ
  r = lowest_free p

  pub added_count : slot_count (added p e listed) ≡ slot_count p
  unfolding added
  added_count = count_with p _ _

  -- another slot keeps its entry, and all where it is no listed parent
  pub added_else : (s : ℕ) → (lowest_free p ≡ s → ⊥) → (slot_at (added p e listed) s).entry ≡ (slot_at p s).entry
  unfolding added
  added_else =
      each_slot p _ _ (λ s x y. (r ≡ s → ⊥) → y.entry ≡ x.entry)
      (λ s n. rw (ne_eqb s r (λ z. n (sym z))) (cases (f s) (λ d. rw d) (λ d. rw d)))
      (λ s _ n. refl)

  pub added_occupied : (s : ℕ) → (lowest_free p ≡ s → ⊥) → occupied (added p e listed) s ≡ occupied p s
  added_occupied s n = same_occupied (slot_at (added p e listed) s) (slot_at p s) (ap (λ (x : Entry). x.weight) (added_else s n))

  pub added_same : (s : ℕ) → (lowest_free p ≡ s → ⊥) → is_listed p e.txid listed s ≡ false → slot_at (added p e listed) s ≡ slot_at p s
  unfolding added
  added_same = each_slot p _ _ (λ s x y. (r ≡ s → ⊥) → f s ≡ false → y ≡ x) (λ s n d. rw (ne_eqb s r (λ z. n (sym z)), d)) (λ s _ n d. refl)

  else_parents : (s : ℕ) → (r ≡ s → ⊥) → (slot_at (added p e listed) s).parents ≡ (slot_at p s).parents
  unfolding added
  else_parents =
      each_slot p _ _ (λ s x y. (r ≡ s → ⊥) → y.parents ≡ x.parents)
      (λ s n. rw (ne_eqb s r (λ z. n (sym z))) (cases (f s) (λ d. rw d) (λ d. rw d)))
      (λ s _ n. refl)

  module _ (room : is_full p ≡ false) where
    there : r < slot_count p
    there = room_there p room

    -- the newcomer has its entry and its listed parents, and no children
    pub added_here : slot_at (added p e listed) (lowest_free p) ≡ with_links (set_of (is_listed p e.txid listed)) none (with_entry e free)
    unfolding added
    added_here = slot_with p _ _ r there ∙ rw (eq-eqb r r refl)

    pub added_own : (slot_at (added p e listed) (lowest_free p)).entry ≡ e
    added_own = ap (λ (x : Slot). x.entry) added_here

    pub added_there : entry_in_range e ≡ true → occupied (added p e listed) (lowest_free p) ≡ true
    unfolding is_occupied entry_in_range
    added_there ranged =
        let h = and_right (leb e.fee 2100000000000000) (leb 1 e.weight.0 && leb e.weight.0 4000000) ranged in
        let l : 1 ≤ e.weight.0 = leb-true 1 e.weight.0 (and_left (leb 1 e.weight.0) (leb e.weight.0 4000000) h) in
        rw added_own (ap not (ne_eqb e.weight.0 0 (λ z. omega arith)))

    -- no listed parent stands in the free slot
    pub parent_else : is_listed p e.txid listed (lowest_free p) ≡ false
    parent_else = is_false (f r) (λ h. clash (listed_held p e.txid listed r h).1 (lowest_is_free p there))

    module _ (h : Plain p) (w : Wholes p.slots) (few : slot_count p ≤ capacity) where
      was_free : slot_at p r ≡ free
      was_free = h.empty r (lowest_is_free p there)

      -- "Every other listed parent is linked, both ways", and every other link stands
      pub added_parents : (a b : ℕ)
          → names (added p e listed) Parents a b ≡ (names p Parents a b || (eqb a (lowest_free p) && is_listed p e.txid listed b))
      added_parents a b =
          by_number (λ a. names (added p e listed) Parents a b ≡ (names p Parents a b || (eqb a r && f b))) r
          (rw (added_here, was_free, none_has b, eq-eqb r r refl)
          (has_set f b (λ d. omega (arith, (listed_held p e.txid listed b d).0))))
          (λ a n. rw (else_parents a n, ne_eqb a r (λ z. n (sym z))) (sym (or-false (names p Parents a b))))
          a

      else_children : (b s : ℕ) → (r ≡ s → ⊥) → names (added p e listed) Children s b ≡ (names p Children s b || (f s && eqb b r))
      unfolding added slot_at
      else_children b =
          each_slot p _ _ (λ s x y. (r ≡ s → ⊥) → has_in y.children b ≡ (has_in x.children b || (f s && eqb b r)))
          (λ s n.
          rw (ne_eqb s r (λ z. n (sym z)))
          (cases (f s)
          (λ d. rw d (has_plus (slot_at p s).children (w s).children r b (omega (arith, there))))
          (λ d. rw d (sym (or-false (names p Children s b))))))
          (λ s l n. rw (none_has b, is_false (f s) (λ d. absurd (omega (arith, (listed_held p e.txid listed s d).0)))))

      pub added_children : (a b : ℕ)
          → names (added p e listed) Children a b ≡ (names p Children a b || (is_listed p e.txid listed a && eqb b (lowest_free p)))
      added_children a b =
          by_number (λ a. names (added p e listed) Children a b ≡ (names p Children a b || (f a && eqb b r))) r
          (rw (added_here, was_free, none_has b, parent_else))
          (else_children b)
          a
