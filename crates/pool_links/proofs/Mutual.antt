-- Laws of mutual links: both sides of each slot, and what they give. Assumes nothing.
use mathlib.Core.Path.{◌≡◌, refl, sym, ap, ap₂, ◌∙◌}
use mathlib.Core.Bool.{Bool, true, false, not, ◌&&◌, ◌||◌}
use mathlib.Core.Logic.{⊎_elim}
use mathlib.Core.List.{List}
use Prim.Native.Nat.{ℕ, ◌+◌, ◌*◌, ◌≤◌, ◌<◌}
use native.Mathlib.Omega.{arith}
use lib.Dec.{ltb}
use lib.ListN.{get_or}
use borrow.Author.Tests.{lt-ltb, ltb-true}
use Rattle.lists.specs.Below.{all_from}
use Rattle.lists.proofs.Bools.{clash, and_both, and_left, and_right}
use Rattle.lists.proofs.Numbers.{lt_or_ge}
use Rattle.lists.proofs.Below.{all_at}
use Rattle.txset.specs.Sets.{has, has_in, positions, mem}
use Rattle.txset.proofs.Words.{has_in_low}
use Rattle.slotsets.specs.SlotSets.{capacity}
use Rattle.slotsets.proofs.Words.{word_in}
use Rattle.slotsets.proofs.SlotSets.{set_past}
use Rattle.pool_table.specs.declared.Side.{Side}
use Rattle.pool_table.specs.declared.Side.TheVariants.{Parents, Children}
use Rattle.pool_table.specs.Pool.{Pool, slot_at, slot_count, is_occupied, occupied}
use Rattle.pool_table.specs.Words.{pool_of}
use Rattle.pool_table.specs.Links.{side_of, is_parent, is_child}
use Rattle.pool_table.specs.WellFormed.{is_answered, links_mutual}
use Rattle.pool_table.proofs.Rows.{slot_past, length_side, whole_slot}
use Rattle.pool_links.specs.Steps.{opposite, answers, holds_at}

-- what can't be true is false
pub refuted : (b : Bool) → (b ≡ true → ⊥) → b ≡ false
refuted true h = absurd (h refl)
refuted false h = refl

-- ---- one word of a side

-- the members of word j of a set, as a TxSet
pub word_mem : (ws : List ℕ) (j w d : ℕ) → w ≡ get_or ws j 0 → d < positions → mem (record { word = w }) d ≡ has_in ws (64 * j + d)
unfolding mem
word_mem ws j w d e l = has_in_low w _ d l ∙ ap (λ (v : ℕ). has v d) e ∙ word_in ws j d l

-- ---- both sides of each slot

-- a parent: both are slots of the pool, and the one names the other
pub parent_parts : (p : Pool) (a b : ℕ) → is_parent p a b ≡ true → (a < slot_count p) × (b < slot_count p) × (has_in (slot_at p a).parents b ≡ true)
unfolding is_parent
parent_parts p a b h =
    let u = and_both (ltb a (slot_count p) && ltb b (slot_count p)) (has_in (slot_at p a).parents b) h in
    let v = and_both (ltb a (slot_count p)) (ltb b (slot_count p)) u.0 in
    (ltb-true a (slot_count p) v.0, ltb-true b (slot_count p) v.1, u.1)

pub is_parent_lem : (p : Pool) (a b : ℕ) → a < slot_count p → b < slot_count p → has_in (slot_at p a).parents b ≡ true → is_parent p a b ≡ true
unfolding is_parent
is_parent_lem p a b l m h = rw (lt-ltb a (slot_count p) l, lt-ltb b (slot_count p) m) h

pub is_child_lem : (p : Pool) (a b : ℕ) → a < slot_count p → b < slot_count p → has_in (slot_at p a).children b ≡ true → is_child p a b ≡ true
unfolding is_child
is_child_lem p a b l m h = rw (lt-ltb a (slot_count p) l, lt-ltb b (slot_count p) m) h

-- a slot past the last is not occupied
pub occupied_in : (p : Pool) (b : ℕ) → occupied p b ≡ true → b < slot_count p
unfolding is_occupied
occupied_in p b h = ⊎_elim (λ l. l) (λ (l : slot_count p ≤ b). clash h (ap is_occupied (slot_past p b l))) (lt_or_ge b (slot_count p))

-- so who answers a slot of the pool is one
inside : (p : Pool) (a b : ℕ) (t : Bool) → a < slot_count p
    → (occupied p b && ((ltb b (slot_count p) && ltb a (slot_count p)) && t)) ≡ (occupied p b && t)
inside p a b t l = go (occupied p b) refl
  where
    go : (o : Bool) → occupied p b ≡ o → (o && ((ltb b (slot_count p) && ltb a (slot_count p)) && t)) ≡ (o && t)
    go true e = ap₂ (λ (x y : Bool). (x && y) && t) (lt-ltb b (slot_count p) (occupied_in p b e)) (lt-ltb a (slot_count p) l)
    go false e = refl

pub both_sides : (p : Pool) (a : ℕ) → a < slot_count p → (b : ℕ) → is_answered p a b ≡ (holds_at p Parents a b && holds_at p Children a b)
unfolding is_answered is_child is_parent holds_at answers
both_sides p a l b =
    ap₂ (λ (x y : Bool). (not (has_in (slot_at p a).parents b) || x) && (not (has_in (slot_at p a).children b) || y))
    (inside p a b (has_in (slot_at p b).children a) l)
    (inside p a b (has_in (slot_at p b).parents a) l)

module _ (p : Pool) (a : ℕ) (l : a < slot_count p) where
  -- mutual links hold on either side
  each_side : links_mutual p ≡ true → (b : ℕ) → b < capacity → (holds_at p Parents a b ≡ true) × (holds_at p Children a b ≡ true)
  unfolding links_mutual
  each_side h b m =
      and_both (holds_at p Parents a b) (holds_at p Children a b)
      (sym (both_sides p a l b)
      ∙ all_at (is_answered p a) capacity 0 (all_at (λ i. all_from (is_answered p i) capacity 0) (slot_count p) 0 h a (omega arith) (omega arith)) b (omega arith) (omega arith))

-- ---- what mutual links give: whom a slot of the pool names is a slot of the pool that answers

module _ (t : List ℕ) (h : links_mutual (pool_of t) ≡ true) where
  held : (side : Side) (a b : ℕ) → a < slot_count (pool_of t) → b < capacity → holds_at (pool_of t) side a b ≡ true
  held Parents a b l m = (each_side (pool_of t) a l h b m).0
  held Children a b l m = (each_side (pool_of t) a l h b m).1

  pub answered : (side : Side) (a b : ℕ) → a < slot_count (pool_of t) → has_in (side_of side (slot_at (pool_of t) a)) b ≡ true
      → answers (pool_of t) side a b ≡ true
  unfolding holds_at
  answered side a b l e =
      let x = slot_at (pool_of t) a in
      let m : b < capacity =
      ⊎_elim (λ m. m) (λ m. clash e (set_past (side_of side x) (length_side side x (whole_slot t a)) b m)) (lt_or_ge b capacity) in
      ap (λ (n : Bool). not n || answers (pool_of t) side a b) (sym e) ∙ held side a b l m

  pub named_in : (side : Side) (a b : ℕ) → a < slot_count (pool_of t) → has_in (side_of side (slot_at (pool_of t) a)) b ≡ true → b < slot_count (pool_of t)
  unfolding answers
  named_in side a b l e =
      occupied_in (pool_of t) b (and_left (occupied (pool_of t) b) (has_in (side_of (opposite side) (slot_at (pool_of t) b)) a) (answered side a b l e))

  pub parent_child : (a b : ℕ) → is_parent (pool_of t) a b ≡ true → has_in (slot_at (pool_of t) b).children a ≡ true
  unfolding answers
  parent_child a b e =
      let u = parent_parts (pool_of t) a b e in
      and_right (occupied (pool_of t) b) (has_in (slot_at (pool_of t) b).children a) (answered Parents a b u.0 u.2)
