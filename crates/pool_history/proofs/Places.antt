-- Where a txid stands in a pool whose txids are distinct: one slot, which a look-up finds. Assumes nothing.
use mathlib.Core.Path.{◌≡◌, sym, ap, ap₂, ◌∙◌}
use mathlib.Core.Bool.{Bool, true, false, not, ◌&&◌}
use mathlib.Core.List.{List}
use Prim.Native.Nat.{ℕ, ◌+◌, ◌*◌}
use native.Mathlib.Omega.{arith}
use lib.Dec.{eqb}
use borrow.Author.Tests.{lt-ltb, eq-eqb, eqb-true, not-true}
use Rattle.lists.specs.Below.{first_from}
use Rattle.lists.proofs.Below.{any_at, any_ext, any_first, first_has}
use Rattle.lists.proofs.Bools.{and_both, is_false, true_together}
use Rattle.txids.specs.declared.Txid.{Txid}
use Rattle.txids.specs.Txids.{same_txid, txid_at, listed_count}
use Rattle.txids.proofs.Theorems.{same_equal, equal_same}
use Rattle.pool_table.specs.Pool.{Pool, slot_at, slot_count, occupied}
use Rattle.pool_links.proofs.Mutual.{occupied_in}
use Rattle.pool_rules.specs.Module8.{holds, is_in, slot_of, is_place_of, is_listed}
use Rattle.pool_history.specs.Standing.{lists}
use Rattle.pool_history.proofs.Plain.{Plain}

-- ---- one txid or another

pub txids_flip : (x y : Txid) → same_txid x y ≡ same_txid y x
txids_flip x y =
    true_together (same_txid x y) (same_txid y x) (λ e. equal_same y x (sym (same_equal x y e))) (λ e. equal_same x y (sym (same_equal y x e)))

pub txids_differ : (x y : Txid) → (x ≡ y → ⊥) → same_txid x y ≡ false
txids_differ x y n = is_false (same_txid x y) (λ e. absurd (n (same_equal x y e)))

-- ---- the entry with this txid is in slot s

pub record At (p : Pool) (x : Txid) (s : ℕ) : Type 0 where
  pub there : occupied p s ≡ true
  pub named : (slot_at p s).entry.txid ≡ x

module _ (p : Pool) (x : Txid) where
  pub in_at : is_in p x ≡ true → At p x (slot_of p x)
  unfolding is_in slot_of holds
  in_at h =
      let s = slot_of p x in
      let b = and_both (occupied p s) (same_txid (slot_at p s).entry.txid x) (first_has (holds p x) (slot_count p) 0 h) in
      record { there = b.0; named = same_equal (slot_at p s).entry.txid x b.1 }

  pub at_in : (s : ℕ) → At p x s → is_in p x ≡ true
  unfolding is_in holds
  at_in s h =
      let l = occupied_in p s h.there in
      any_at (holds p x) (slot_count p) 0 s (omega arith) (omega arith) (ap₂ ◌&&◌ h.there (equal_same (slot_at p s).entry.txid x h.named))

  -- a look-up that ends at an entry has found it
  pub slot_in : occupied p (slot_of p x) ≡ true → is_in p x ≡ true
  unfolding is_in slot_of
  slot_in o =
      any_first (holds p x) (slot_count p) 0 ∙ lt-ltb (slot_of p x) (0 + slot_count p) (omega (arith, occupied_in p (slot_of p x) o))

-- where a listed txid has a place, it stands there, and is not the own one
place_at : (p : Pool) (own x : Txid) (s : ℕ) → is_place_of p own x s ≡ true → At p x s × (same_txid own x ≡ false)
unfolding is_place_of
place_at p own x s e =
    let u = and_both (not (same_txid x own)) (is_in p x && eqb (slot_of p x) s) e in
    let v = and_both (is_in p x) (eqb (slot_of p x) s) u.1 in
    let z : slot_of p x ≡ s = eqb-true (slot_of p x) s v.1 in
    (rw z at (in_at p x v.0), txids_flip own x ∙ not-true (same_txid x own) u.0)

pub listed_other : (p : Pool) (own : Txid) (listed : List ℕ) (y : Txid) (s : ℕ) → At p y s → is_listed p own listed s ≡ true
    → same_txid own y ≡ false
unfolding is_listed
listed_other p own listed y s a e =
    let f : ℕ → Bool = λ j. is_place_of p own (txid_at listed (32 * j)) s in
    let x : Txid = txid_at listed (32 * first_from f (listed_count listed) 0) in
    let u = place_at p own x s (first_has f (listed_count listed) 0 e) in
    ap (same_txid own) (sym a.named ∙ u.0.named) ∙ u.1

module _ {p : Pool} (h : Plain p) where
  pub at_one : {x : Txid} {s u : ℕ} → At p x s → At p x u → s ≡ u
  at_one {x} {s} {u} a b = h.distinct s u a.there b.there (a.named ∙ sym b.named)

  pub at_slot : {x : Txid} {s : ℕ} → At p x s → slot_of p x ≡ s
  at_slot {x} {s} a = at_one (in_at p x (at_in p x s a)) a

  -- a listed txid that is not the own one stands where the listed one does
  pub listed_at : (own : Txid) (listed : List ℕ) (y : Txid) (b : ℕ) → At p y b → same_txid own y ≡ false → is_listed p own listed b ≡ lists listed y
  unfolding is_listed is_place_of lists
  listed_at own listed y b a n =
      any_ext _ _ (listed_count listed) 0
      (λ j _ _.
      let t : Txid = txid_at listed (32 * j) in
      true_together (is_place_of p own t b) (same_txid t y)
      (λ e.
      let u = place_at p own t b e in
      equal_same t y (sym u.0.named ∙ a.named))
      (λ e.
      let z : t ≡ y = same_equal t y e in
      rw z
      (ap₂ ◌&&◌ (ap not (txids_flip y own ∙ n)) (ap₂ ◌&&◌ (at_in p y b a) (eq-eqb (slot_of p y) b (at_slot a))))))
