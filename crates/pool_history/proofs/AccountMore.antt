-- The account of a pool is right after an entry was added. Assumes nothing.
use mathlib.Core.Path.{◌≡◌, refl, sym, ap, ◌∙◌}
use mathlib.Core.Bool.{Bool, true, false, cond, not, ◌&&◌, ◌||◌, or-true, and-true, and-false, or-false}
use mathlib.Core.List.{List}
use Prim.Native.Nat.{ℕ, ◌+◌, ◌≤◌}
use native.Mathlib.Omega.{arith}
use lib.Dec.{eqb}
use borrow.Author.Tests.{eq-eqb, ne_eqb}
use Rattle.lists.proofs.Below.{first_ext}
use Rattle.lists.proofs.Bools.{clash, cases, and_both, is_false}
use Rattle.lists.proofs.Numbers.{by_number}
use Rattle.slotsets.specs.SlotSets.{capacity}
use Rattle.txids.specs.declared.Txid.{Txid}
use Rattle.txids.specs.Txids.{same_txid}
use Rattle.txids.proofs.Theorems.{same_equal, equal_same}
use Rattle.pool_table.specs.declared.Entry.{Entry}
use Rattle.pool_table.specs.declared.Side.TheVariants.{Parents}
use Rattle.pool_table.specs.Pool.{Pool, slot_at, slot_count, occupied, entries}
use Rattle.pool_table.proofs.Theorems.{Wholes}
use Rattle.pool_rules.specs.Module8.{lowest_free, is_listed, with_slots, added}
use Rattle.pool_rules.proofs.Finds.{lowest_is_free}
use Rattle.pool_history.specs.History.{add}
use Rattle.pool_history.specs.Standing.{lists, weight_of_entry, one_each, lowest_unused}
use Rattle.pool_history.proofs.Plain.{names, Plain, namer}
use Rattle.pool_history.proofs.Compared.{entries_but}
use Rattle.pool_history.proofs.Newcomer.{room_there, added_count, added_else, added_occupied, added_own, added_there, parent_else}
use Rattle.pool_history.proofs.Newcomer.{added_parents}
use Rattle.pool_history.proofs.Added.{Addable}
use Rattle.pool_history.proofs.Places.{At, at_in, listed_at}
use Rattle.pool_history.proofs.Account.{Account, after, Told, Right}

-- the lowest free slot is the lowest that is not in use
pub lowest_unused_lem : {n : ℕ} {k : Account} {p : Pool} → Right n k p → lowest_unused n k.board ≡ lowest_free p
unfolding lowest_unused lowest_free
lowest_unused_lem {n} {k} {p} h = rw h.count (first_ext _ _ n 0 (λ s _ _. ap not (sym (h.used s))))

module _ {n : ℕ} {k : Account} {p : Pool} (h : Right n k p) (plain : Plain p) (w : Wholes p.slots) (small : slot_count p ≤ capacity) (e : Entry)
    (listed : List ℕ) (can : Addable p e listed) where
  abbrev q : Pool
  q = added p e listed

  abbrev r : ℕ
  r = lowest_free p

  lowest : lowest_unused n k.board ≡ r
  lowest = lowest_unused_lem h

  was_free : occupied p r ≡ false
  was_free = lowest_is_free p (room_there p can.room)

  own : (slot_at q r).entry ≡ e
  own = added_own p e listed can.room

  taken : occupied q r ≡ true
  taken = added_there p e listed can.room can.ranged

  -- the newcomer's txid did not stand
  absent : k.stands e.txid ≡ false
  absent = is_false (k.stands e.txid) (λ s. clash (at_in p e.txid (k.board.place e.txid) (h.at e.txid s)) can.absent)

  -- who stood before has another txid and another slot
  other : {x : Txid} {s : ℕ} → At p x s → (r ≡ s → ⊥) × (same_txid e.txid x ≡ false)
  other {x} {s} a = (
    λ z. clash a.there (ap (occupied p) (sym z) ∙ was_free),
    is_false (same_txid e.txid x) (λ z. clash (h.told x s a).stands (ap k.stands (sym (same_equal e.txid x z)) ∙ absent)),
  )

  new_at : (x : Txid) → At q x r → e.txid ≡ x
  new_at x a = sym (ap (λ (i : Entry). i.txid) own) ∙ a.named

  was_at : (x : Txid) (s : ℕ) → (r ≡ s → ⊥) → At q x s → At p x s
  was_at x s d a =
      record {
        there = sym (added_occupied p e listed s d) ∙ a.there;
        named = sym (ap (λ (i : Entry). i.txid) (added_else p e listed s d)) ∙ a.named;
      }

  -- and is still there
  stays : {x : Txid} {s : ℕ} → At p x s → At q x s
  stays {x} {s} a =
      let d = (other a).0 in
      record {
        there = added_occupied p e listed s d ∙ a.there;
        named = ap (λ (i : Entry). i.txid) (added_else p e listed s d) ∙ a.named;
      }

  used : (s : ℕ) → occupied q s ≡ (eqb s (lowest_unused n k.board) || k.board.used s)
  used =
      rw lowest
      (by_number (λ s. occupied q s ≡ (eqb s r || k.board.used s)) r
      (rw (eq-eqb r r refl) taken)
      (λ s d. rw (ne_eqb s r (λ z. d (sym z))) (added_occupied p e listed s d ∙ h.used s)))

  told : (x : Txid) (s : ℕ) → At q x s → Told (after n (add e listed) k) q x s
  told x =
      by_number (λ s. At q x s → Told (after n (add e listed) k) q x s) r
      (λ a.
      let same : same_txid e.txid x ≡ true = equal_same e.txid x (new_at x a) in
      record {
        stands = rw same;
        held = rw same own;
        place = rw same lowest;
        who = rw (lowest, eq-eqb r r refl) (new_at x a);
      })
      (λ s d a.
      let b = was_at x s d a in
      let old = h.told x s b in
      let differ = (other b).1 in
      record {
        stands = rw differ old.stands;
        held = rw differ (added_else p e listed s d ∙ old.held);
        place = rw differ old.place;
        who = rw (lowest, ne_eqb s r (λ z. d (sym z))) old.who;
      })

  at : (x : Txid) → (same_txid e.txid x || k.stands x) ≡ true
      → At q x (cond (same_txid e.txid x) (lowest_unused n k.board) (k.board.place x))
  at x =
      cases (same_txid e.txid x)
      (λ z _. rw (z, lowest) (record { there = taken; named = ap (λ (i : Entry). i.txid) own ∙ same_equal e.txid x z }))
      (λ z. rw z (λ s. stays (h.at x s)))

  -- ---- links

  -- no link touched the free slot
  none_from : (b : ℕ) → names p Parents r b ≡ false
  none_from b = is_false (names p Parents r b) (λ z. clash (namer plain Parents r b z) was_free)

  none_to : (a : ℕ) → names p Parents a r ≡ false
  none_to a = is_false (names p Parents a r) (λ z. clash (plain.named Parents a r z) was_free)

  listed_is : (y : Txid) (b : ℕ) → At q y b → is_listed p e.txid listed b ≡ (lists listed y && (k.stands y && not (same_txid e.txid y)))
  listed_is y =
      by_number (λ b. At q y b → is_listed p e.txid listed b ≡ (lists listed y && (k.stands y && not (same_txid e.txid y)))) r
      (λ a.
      rw (equal_same e.txid y (new_at y a), and-false (k.stands y), and-false (lists listed y)) (parent_else p e listed can.room))
      (λ b d a.
      let old = was_at y b d a in
      rw ((other old).1, (h.told y b old).stands, and-true (lists listed y)) (listed_at plain e.txid listed y b old (other old).1))

  links : (x y : Txid) (a b : ℕ) → At q x a → At q y b
      → names q Parents a b ≡ cond (same_txid e.txid x) (lists listed y && (k.stands y && not (same_txid x y))) (k.linked x y)
  links x y a b i j =
      added_parents p e listed can.room plain w small a b
      ∙ by_number
      (λ a.
      At q x a → (names p Parents a b || (eqb a r && is_listed p e.txid listed b))
      ≡ cond (same_txid e.txid x) (lists listed y && (k.stands y && not (same_txid x y))) (k.linked x y))
      r
      (λ i.
      let z : e.txid ≡ x = new_at x i in
      rw (equal_same e.txid x z, none_from b, eq-eqb r r refl) (listed_is y b j ∙ rw z))
      (λ a d i.
      let u = was_at x a d i in
      rw ((other u).1, ne_eqb a r (λ z. d (sym z)), or-false (names p Parents a b)) (old_link a u))
      a i
    where
      old_link : (a : ℕ) → At p x a → names p Parents a b ≡ k.linked x y
      old_link a u =
          by_number (λ b. At q y b → names p Parents a b ≡ k.linked x y) r
          (λ j.
          none_to a
          ∙ sym (is_false (k.linked x y) (λ z. clash (h.ends x y z).1 (ap k.stands (sym (new_at y j)) ∙ absent))))
          (λ b d j. h.links x y a b u (was_at y b d j))
          b j

  ends : (x y : Txid) → cond (same_txid e.txid x) (lists listed y && (k.stands y && not (same_txid x y))) (k.linked x y) ≡ true
      → ((same_txid e.txid x || k.stands x) ≡ true) × ((same_txid e.txid y || k.stands y) ≡ true)
  ends x y =
      cases (same_txid e.txid x)
      (λ z.
      rw z
      (λ l.
      let m = (and_both (lists listed y) (k.stands y && not (same_txid x y)) l).1 in
      (refl, ap (λ (c : Bool). same_txid e.txid y || c) (and_both (k.stands y) (not (same_txid x y)) m).0 ∙ or-true (same_txid e.txid y))))
      (λ z.
      rw z
      (λ l.
      let u = h.ends x y l in
      (u.0, ap (λ (c : Bool). same_txid e.txid y || c) u.1 ∙ or-true (same_txid e.txid y))))

  -- ---- sums

  total : q.total + k.removed weight_of_entry ≡ weight_of_entry e + k.added weight_of_entry
  unfolding added with_slots
  total = omega (arith, h.total)

  counted : entries q + k.removed one_each ≡ 1 + k.added one_each
  counted =
      omega (
        arith,
        entries_but q p (sym (added_count p e listed)) r taken was_free (λ s d. sym (added_occupied p e listed s d)),
        h.entries,
      )

  pub right_added : Right n (after n (add e listed) k) (added p e listed)
  unfolding added with_slots
  right_added =
      record {
        count = added_count p e listed ∙ h.count;
        limits = h.limits;
        used = used;
        told = told;
        at = at;
        links = links;
        ends = ends;
        total = total;
        entries = counted;
      }
