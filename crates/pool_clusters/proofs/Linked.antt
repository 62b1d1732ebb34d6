-- The links of a pool as a relation of numbers: what two sets of words say of it, that it is bounded by the number of slots, and that
-- `in_cluster` and `in_clusters` are what is reached along it. Assumes nothing.
use mathlib.Core.Path.{◌≡◌, refl, sym, ap, ap₂, ◌∙◌}
use mathlib.Core.Bool.{Bool, true, false, ◌&&◌, ◌||◌, and-false}
use mathlib.Core.Logic.{⊎_elim}
use Prim.Native.Nat.{ℕ}
use lib.Dec.{ltb}
use borrow.Author.Tests.{ltb-true, ltb-false}
use Rattle.lists.proofs.Bools.{and_both, and_left, or_either}
use Rattle.txset.specs.Sets.{has_in}
use Rattle.slotsets.proofs.SlotSets.{none_has}
use Rattle.ways.specs.Ways.{Bounded}
use Rattle.ways.proofs.Cycles.{onward}
use Rattle.pool_table.specs.declared.Side.TheVariants.{Parents, Children}
use Rattle.pool_table.specs.Pool.{Slot, Pool, free, slot_count, slot_at}
use Rattle.pool_table.specs.Links.{has_links, is_parent, is_child, is_linked, in_cluster, in_clusters}
use Rattle.pool_table.proofs.Rows.{slot_past}
use Rattle.pool_table.proofs.Named.{unlinked_side}
use Rattle.pool_clusters.proofs.Reached.{reached}

-- a link is a slot of the pool that the row names on a side
pub linked_is : (p : Pool) (a b : ℕ) → is_linked p a b ≡ (ltb b (slot_count p) && (has_in (slot_at p a).parents b || has_in (slot_at p a).children b))
unfolding is_linked is_parent is_child
linked_is p a b = go (ltb a (slot_count p)) refl
  where
    both : (s x y : Bool) → ((s && x) || (s && y)) ≡ (s && (x || y))
    both true x y = refl
    both false x y = refl

    go : (c : Bool) → ltb a (slot_count p) ≡ c
        → (((c && ltb b (slot_count p)) && has_in (slot_at p a).parents b) || ((c && ltb b (slot_count p)) && has_in (slot_at p a).children b))
        ≡ (ltb b (slot_count p) && (has_in (slot_at p a).parents b || has_in (slot_at p a).children b))
    go true e = both (ltb b (slot_count p)) (has_in (slot_at p a).parents b) (has_in (slot_at p a).children b)
    go false e =
        let nothing : slot_at p a ≡ free = slot_past p a (ltb-false a (slot_count p) e) in
        sym
        (ap₂ (λ (x y : Bool). ltb b (slot_count p) && (x || y))
        (ap (λ (x : Slot). has_in x.parents b) nothing ∙ none_has b)
        (ap (λ (x : Slot). has_in x.children b) nothing ∙ none_has b)
        ∙ and-false (ltb b (slot_count p)))

-- so a slot that names nobody has no links
pub linked_none : (p : Pool) (a : ℕ) → has_links (slot_at p a) ≡ false → (b : ℕ) → is_linked p a b ≡ false
linked_none p a h b =
    linked_is p a b
    ∙ ap₂ (λ (x y : Bool). ltb b (slot_count p) && (x || y)) (unlinked_side (slot_at p a) h Parents b) (unlinked_side (slot_at p a) h Children b)
    ∙ and-false (ltb b (slot_count p))

-- both ends of a link are slots
pub linked_bounded : (p : Pool) → Bounded (is_linked p) (slot_count p)
unfolding is_linked is_parent is_child
linked_bounded p =
    record {
      from = λ i a e. ltb-true i (slot_count p) (and_left (ltb i (slot_count p)) (ltb a (slot_count p)) (slots i a e));
      to = λ i a e. ltb-true a (slot_count p) (and_both (ltb i (slot_count p)) (ltb a (slot_count p)) (slots i a e)).1;
    }
  where
    slots : (i a : ℕ) → is_linked p i a ≡ true → (ltb i (slot_count p) && ltb a (slot_count p)) ≡ true
    slots i a e =
        ⊎_elim
        (λ h. and_left (ltb i (slot_count p) && ltb a (slot_count p)) (has_in (slot_at p i).parents a) h)
        (λ h. and_left (ltb i (slot_count p) && ltb a (slot_count p)) (has_in (slot_at p i).children a) h)
        (or_either (is_parent p i a) (is_child p i a) e)

pub cluster_onward : (p : Pool) (a b : ℕ) → in_cluster p a b ≡ onward (is_linked p) (slot_count p) a b
unfolding in_cluster
cluster_onward p a b = refl

pub clusters_reached : (p : Pool) (f : ℕ → Bool) (b : ℕ) → in_clusters p f b ≡ reached (is_linked p) (slot_count p) f b
unfolding in_clusters in_cluster
clusters_reached p f b = refl
