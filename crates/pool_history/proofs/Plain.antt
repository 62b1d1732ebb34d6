-- What a sound pool is (specs/WellFormed.antt of pool_table), said slot by slot and without a test, for any number as a slot: past the last
-- a slot is free. Assumes nothing.
use mathlib.Core.Path.{◌≡◌, sym, ap, ap₂, ◌∙◌}
use mathlib.Core.Bool.{Bool, true, false, not, ◌&&◌, ◌||◌, or-true}
use mathlib.Core.Logic.{⊎_elim}
use Prim.Native.Nat.{ℕ, ◌≤◌, ◌<◌}
use native.Mathlib.Omega.{arith}
use lib.Dec.{eqb, ltb}
use borrow.Author.Tests.{lt-ltb, eq-eqb, eqb-true, not-true}
use Rattle.lists.specs.Lists.{all_of}
use Rattle.lists.proofs.Below.{all_at, at_all}
use Rattle.lists.proofs.Bools.{clash, cases, and_both, and_right, or_either, implies, asked, is_false, true_together}
use Rattle.lists.proofs.Numbers.{lt_or_ge}
use Rattle.txset.specs.Sets.{has_in}
use Rattle.slotsets.specs.SlotSets.{capacity}
use Rattle.txids.specs.Txids.{same_txid}
use Rattle.txids.proofs.Theorems.{same_equal, equal_same}
use Rattle.ways.specs.Ways.{Way, is_cyclic}
use Rattle.ways.proofs.Cycles.{cyclic_is, is_cyclic_lem}
use Rattle.pool_table.specs.declared.Side.{Side}
use Rattle.pool_table.specs.declared.Side.TheVariants.{Parents, Children}
use Rattle.pool_table.specs.Pool.{Slot, Pool, free, slot_at, slot_count, occupied}
use Rattle.pool_table.specs.Words.{slot_words}
use Rattle.pool_table.specs.Ranges.{limits_in_range, entry_in_range}
use Rattle.pool_table.specs.Links.{side_of, is_parent, is_child, in_cluster, weight_of}
use Rattle.pool_table.specs.WellFormed.{numbers_in_range, is_twin, txids_distinct, total_is_sum, free_zeroed, is_answered, links_mutual, acyclic, is_within}
use Rattle.pool_table.specs.WellFormed.{clusters_within, sound}
use Rattle.pool_table.proofs.Rows.{slot_past, length_side, zeroed_free}
use Rattle.pool_table.proofs.Named.{free_side}
use Rattle.pool_table.proofs.Theorems.{Wholes}
use Rattle.pool_links.proofs.Mutual.{occupied_in}
use Rattle.pool_members.proofs.Members.{parents_bounded}
use Rattle.pool_rules.proofs.Sound.{Sound, sound_parts, free_is}
use Rattle.pool_history.proofs.Slots.{member_below}

-- slot a names slot b on a side
abbrev pub names : Pool → Side → ℕ → ℕ → Bool
names p side a b = has_in (side_of side (slot_at p a)) b

-- links are mutual, and whom a slot names is occupied; so a free slot is neither end of a link
pub record Plain (p : Pool) : Type 0 where
  pub limits : limits_in_range p.limits ≡ true
  pub numbers : (s : ℕ) → occupied p s ≡ true → entry_in_range (slot_at p s).entry ≡ true
  pub distinct : (a b : ℕ) → occupied p a ≡ true → occupied p b ≡ true → (slot_at p a).entry.txid ≡ (slot_at p b).entry.txid → a ≡ b
  pub total : p.total ≡ weight_of p (λ s. true)
  pub empty : (s : ℕ) → occupied p s ≡ false → slot_at p s ≡ free
  pub links : (a b : ℕ) → names p Parents a b ≡ names p Children b a
  pub named : (side : Side) (a b : ℕ) → names p side a b ≡ true → occupied p b ≡ true
  pub acyclic : (a : ℕ) → Way (is_parent p) a a → ⊥
  pub within : (s : ℕ) → occupied p s ≡ true → is_within p (in_cluster p s) ≡ true

-- ---- links, and whom slots name

module _ (p : Pool) (a b : ℕ) where
  pub parent_names : is_parent p a b ≡ true → names p Parents a b ≡ true
  unfolding is_parent
  parent_names e = and_right (ltb a (slot_count p) && ltb b (slot_count p)) (names p Parents a b) e

  pub child_names : is_child p a b ≡ true → names p Children a b ≡ true
  unfolding is_child
  child_names e = and_right (ltb a (slot_count p) && ltb b (slot_count p)) (names p Children a b) e

-- ---- from a sound pool

module _ (p : Pool) (w : Wholes p.slots) where
  -- who names another is a slot, and names none past what a set holds
  names_in : (side : Side) (a b : ℕ) → names p side a b ≡ true → (a < slot_count p) × (b < capacity)
  unfolding slot_at
  names_in side a b e =
      let none : slot_count p ≤ a → names p side a b ≡ false =
      λ l. ap (λ (x : Slot). has_in (side_of side x) b) (slot_past p a l) ∙ free_side side b in
      let x = slot_at p a in
      (⊎_elim (λ l. l) (λ l. clash e (none l)) (lt_or_ge a (slot_count p)), member_below (side_of side x) (length_side side x (w a)) b e)

  module _ (h : Sound p) where
    in_range_lem : (s : ℕ) → occupied p s ≡ true → entry_in_range (slot_at p s).entry ≡ true
    unfolding numbers_in_range
    in_range_lem s o =
        let l = occupied_in p s o in
        rw o at (all_at _ (slot_count p) 0 h.numbers s (omega arith) (omega arith))

    apart : (a b : ℕ) → occupied p a ≡ true → occupied p b ≡ true → (slot_at p a).entry.txid ≡ (slot_at p b).entry.txid → a ≡ b
    unfolding txids_distinct is_twin
    apart a b o q e =
        let l = occupied_in p a o in
        let m = occupied_in p b q in
        let t : is_twin p a b ≡ true = ap₂ ◌&&◌ (ap₂ ◌&&◌ o q) (equal_same (slot_at p a).entry.txid (slot_at p b).entry.txid e) in
        ⊎_elim
        (λ z. eqb-true a b z)
        (λ n. clash t (not-true (is_twin p a b) n))
        (or_either (eqb a b) (not (is_twin p a b))
        (all_at _ (slot_count p) 0 (all_at _ (slot_count p) 0 h.distinct a (omega arith) (omega arith)) b (omega arith) (omega arith)))

    all_free : (s : ℕ) → occupied p s ≡ false → slot_at p s ≡ free
    unfolding slot_at
    all_free s o = ⊎_elim (λ l. free_is p h s l (w s) o) (λ l. slot_past p s l) (lt_or_ge s (slot_count p))

    -- whom a slot names is occupied, and names it back
    answered : (a b : ℕ) → a < slot_count p → b < capacity
        → ((not (names p Parents a b) || (occupied p b && is_child p b a)) ≡ true)
        × ((not (names p Children a b) || (occupied p b && is_parent p b a)) ≡ true)
    unfolding links_mutual is_answered
    answered a b l m =
        and_both _ _ (all_at _ capacity 0 (all_at _ (slot_count p) 0 h.links a (omega arith) (omega arith)) b (omega arith) (omega arith))

    parent_answer : (a b : ℕ) → names p Parents a b ≡ true → (occupied p b ≡ true) × (names p Children b a ≡ true)
    parent_answer a b e =
        let l = names_in Parents a b e in
        let u = and_both (occupied p b) (is_child p b a) (rw e at (answered a b l.0 l.1).0) in
        (u.0, child_names p b a u.1)

    child_answer : (a b : ℕ) → names p Children a b ≡ true → (occupied p b ≡ true) × (names p Parents b a ≡ true)
    child_answer a b e =
        let l = names_in Children a b e in
        let u = and_both (occupied p b) (is_parent p b a) (rw e at (answered a b l.0 l.1).1) in
        (u.0, parent_names p b a u.1)

    occupies : (side : Side) (a b : ℕ) → names p side a b ≡ true → occupied p b ≡ true
    occupies Parents a b e = (parent_answer a b e).0
    occupies Children a b e = (child_answer a b e).0

  pub sound_plain : sound p ≡ true → Plain p
  unfolding total_is_sum acyclic clusters_within
  sound_plain s =
      let h = sound_parts p s in
      record {
        limits = h.limits;
        numbers = in_range_lem h;
        distinct = apart h;
        total = eqb-true p.total (weight_of p (λ s. true)) h.total;
        empty = all_free h;
        links = λ a b. true_together (names p Parents a b) (names p Children b a) (λ e. (parent_answer h a b e).1) (λ e. (child_answer h b a e).1);
        named = occupies h;
        acyclic = λ a u. clash (is_cyclic_lem (parents_bounded p) u) (not-true (is_cyclic (is_parent p) (slot_count p)) h.acyclic);
        within = λ s o.
            let l = occupied_in p s o in
            rw o at (all_at _ (slot_count p) 0 h.within s (omega arith) (omega arith));
      }

-- ---- what follows

module _ {p : Pool} (h : Plain p) where
  -- both ends of a link are occupied
  pub namer : (side : Side) (a b : ℕ) → names p side a b ≡ true → occupied p a ≡ true
  namer Parents a b e = h.named Children b a (sym (h.links a b) ∙ e)
  namer Children a b e = h.named Parents b a (h.links b a ∙ e)

  pub parent_is : (a b : ℕ) → is_parent p a b ≡ names p Parents a b
  unfolding is_parent
  parent_is a b =
      asked (ltb a (slot_count p) && ltb b (slot_count p)) (names p Parents a b)
      (λ e.
      ap₂ ◌&&◌ (lt-ltb a (slot_count p) (occupied_in p a (namer Parents a b e)))
      (lt-ltb b (slot_count p) (occupied_in p b (h.named Parents a b e))))

  pub child_is : (a b : ℕ) → is_child p a b ≡ names p Children a b
  unfolding is_child
  child_is a b =
      asked (ltb a (slot_count p) && ltb b (slot_count p)) (names p Children a b)
      (λ e.
      ap₂ ◌&&◌ (lt-ltb a (slot_count p) (occupied_in p a (namer Children a b e)))
      (lt-ltb b (slot_count p) (occupied_in p b (h.named Children a b e))))

  -- ---- to a sound pool

  mutual' : links_mutual p ≡ true
  unfolding links_mutual is_answered
  mutual' =
      at_all _ (slot_count p) 0
      (λ a _ _.
      at_all _ capacity 0
      (λ b _ _.
      ap₂ ◌&&◌
      (implies (names p Parents a b) (occupied p b && is_child p b a)
      (λ e. ap₂ ◌&&◌ (h.named Parents a b e) (child_is b a ∙ sym (h.links a b) ∙ e)))
      (implies (names p Children a b) (occupied p b && is_parent p b a)
      (λ e. ap₂ ◌&&◌ (h.named Children a b e) (parent_is b a ∙ h.links b a ∙ e)))))

  no_twins : txids_distinct p ≡ true
  unfolding txids_distinct is_twin
  no_twins =
      at_all _ (slot_count p) 0
      (λ a _ _.
      at_all _ (slot_count p) 0
      (λ b _ _.
      cases (is_twin p a b)
      (λ t.
      let u = and_both (occupied p a && occupied p b) (same_txid (slot_at p a).entry.txid (slot_at p b).entry.txid) t in
      let o = and_both (occupied p a) (occupied p b) u.0 in
      let e : a ≡ b = h.distinct a b o.0 o.1 (same_equal (slot_at p a).entry.txid (slot_at p b).entry.txid u.1) in
      ap (λ (c : Bool). c || not (is_twin p a b)) (eq-eqb a b e))
      (λ t. ap (λ (c : Bool). eqb a b || not c) t ∙ or-true (eqb a b))))

  zeroed : free_zeroed p ≡ true
  unfolding free_zeroed
  zeroed =
      at_all _ (slot_count p) 0
      (λ s _ _.
      cases (occupied p s)
      (λ o. ap (λ (c : Bool). c || all_of (eqb 0) (slot_words (slot_at p s))) o)
      (λ o. ap₂ (λ (c : Bool) (x : Slot). c || all_of (eqb 0) (slot_words x)) o (h.empty s o) ∙ zeroed_free))

  no_cycle : acyclic p ≡ true
  unfolding acyclic
  no_cycle =
      ap not
      (is_false (is_cyclic (is_parent p) (slot_count p))
      (λ e. let u = cyclic_is (is_parent p) (slot_count p) e in absurd (h.acyclic u.0 u.2)))

  ranged : numbers_in_range p ≡ true
  unfolding numbers_in_range
  ranged = at_all _ (slot_count p) 0 (λ s _ _. implies (occupied p s) (entry_in_range (slot_at p s).entry) (h.numbers s))

  summed : total_is_sum p ≡ true
  unfolding total_is_sum
  summed = eq-eqb p.total (weight_of p (λ s. true)) h.total

  limited : clusters_within p ≡ true
  unfolding clusters_within
  limited = at_all _ (slot_count p) 0 (λ s _ _. implies (occupied p s) (is_within p (in_cluster p s)) (h.within s))

  pub plain_sound : sound p ≡ true
  unfolding sound
  plain_sound = rw (h.limits, ranged, no_twins, summed, zeroed, mutual', no_cycle, limited)
