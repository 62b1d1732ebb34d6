-- What a cluster is, for readers: the computed cluster is the inductive one, and where parents and children name each other two slots of
-- one cluster have the same cluster, so that clusters are disjoint. Assumes nothing.
use mathlib.Core.Path.{◌≡◌, sym, ap, ◌∙◌, subst}
use mathlib.Core.Bool.{Bool, true, false, not, ◌&&◌, ◌||◌, or-true, false≢true}
use mathlib.Core.Logic.{⊎_elim}
use Prim.Native.Nat.{ℕ, ◌≤◌}
use native.Mathlib.Omega.{arith}
use lib.Dec.{ltb}
use Rattle.lists.specs.Below.{all_from}
use Rattle.lists.proofs.Bools.{and_both, or_either, true_together}
use Rattle.lists.proofs.Below.{all_at}
use Rattle.txset.specs.Sets.{has_in}
use Rattle.slotsets.specs.SlotSets.{capacity}
use Rattle.ways.specs.Ways.{Way, step, further}
use Rattle.ways.proofs.Ways.{way_trans}
use Rattle.ways.proofs.Cycles.{onward_self, onward_way, onward_either, onward_trans}
use Rattle.pool_table.specs.Pool.{Pool, slot_count, slot_at, occupied}
use Rattle.pool_table.specs.Links.{is_parent, is_child, is_linked, Together, itself, linked, in_cluster}
use Rattle.pool_table.specs.WellFormed.{is_answered, links_mutual}
use Rattle.pool_clusters.proofs.Linked.{linked_bounded, cluster_onward}
use Rattle.pool_clusters.proofs.Reached.{onward_closed}

-- ---- the computed cluster is the inductive one

pub cluster_together : (p : Pool) (a b : ℕ) → in_cluster p a b ≡ true → Together p a b
cluster_together p a b h =
    ⊎_elim (λ e. subst (Together p a) e itself) linked (onward_either (is_linked p) (slot_count p) a b (sym (cluster_onward p a b) ∙ h))

pub together_cluster : (p : Pool) {a b : ℕ} → Together p a b → in_cluster p a b ≡ true
together_cluster p {a} itself = cluster_onward p a a ∙ onward_self (is_linked p) (slot_count p) a
together_cluster p {a} {b} (linked u) = cluster_onward p a b ∙ onward_way (linked_bounded p) u

-- ---- links that are mutual

way_back : {r : ℕ → ℕ → Bool} → ((i j : ℕ) → r i j ≡ true → r j i ≡ true) → {i a : ℕ} → Way r i a → Way r a i
way_back s {i} {a} (step e) = step (s i a e)
way_back s {i} (further {p = p} e u) = way_trans (way_back s u) (step (s i p e))

-- who is named stands in the slot's set
named_parent : (p : Pool) (a b : ℕ) → is_parent p a b ≡ true → has_in (slot_at p a).parents b ≡ true
unfolding is_parent
named_parent p a b e = (and_both (ltb a (slot_count p) && ltb b (slot_count p)) (has_in (slot_at p a).parents b) e).1

named_child : (p : Pool) (a b : ℕ) → is_child p a b ≡ true → has_in (slot_at p a).children b ≡ true
unfolding is_child
named_child p a b e = (and_both (ltb a (slot_count p) && ltb b (slot_count p)) (has_in (slot_at p a).children b) e).1

-- a parent, or a child, is a link
parent_linked : (p : Pool) (a b : ℕ) → is_parent p a b ≡ true → is_linked p a b ≡ true
unfolding is_linked
parent_linked p a b e = ap (λ (x : Bool). x || is_child p a b) e

child_linked : (p : Pool) (a b : ℕ) → is_child p a b ≡ true → is_linked p a b ≡ true
unfolding is_linked
child_linked p a b e = ap (λ (x : Bool). is_parent p a b || x) e ∙ or-true (is_parent p a b)

-- so a parent is in the cluster
pub parent_cluster : (p : Pool) (a b : ℕ) → is_parent p a b ≡ true → in_cluster p a b ≡ true
parent_cluster p a b e = together_cluster p (linked (step (parent_linked p a b e)))

-- what is asked of those who are named
named_both : (n o x : Bool) → n ≡ true → (not n || (o && x)) ≡ true → (o ≡ true) × (x ≡ true)
named_both true o x e h = and_both o x h
named_both false o x e h = absurd (false≢true e)

module _ (p : Pool) (few : slot_count p ≤ capacity) (mutual' : links_mutual p ≡ true) where
  answered : (a b : ℕ) → is_linked p a b ≡ true → is_answered p a b ≡ true
  unfolding links_mutual
  answered a b h =
      let l = (linked_bounded p).from a b h in
      let m = (linked_bounded p).to a b h in
      all_at (λ b. is_answered p a b) capacity 0
      (all_at (λ a. all_from (λ b. is_answered p a b) capacity 0) (slot_count p) 0 mutual' a (omega arith) (omega arith)) b (omega arith) (omega arith)

  -- who is named is occupied, and names the other
  pub parent_named : (a b : ℕ) → is_parent p a b ≡ true → (occupied p b ≡ true) × (is_child p b a ≡ true)
  unfolding is_answered
  parent_named a b e =
      named_both (has_in (slot_at p a).parents b) (occupied p b) (is_child p b a) (named_parent p a b e)
      (and_both (not (has_in (slot_at p a).parents b) || (occupied p b && is_child p b a)) _ (answered a b (parent_linked p a b e))).0

  pub child_named : (a b : ℕ) → is_child p a b ≡ true → (occupied p b ≡ true) × (is_parent p b a ≡ true)
  unfolding is_answered
  child_named a b e =
      named_both (has_in (slot_at p a).children b) (occupied p b) (is_parent p b a) (named_child p a b e)
      (and_both (not (has_in (slot_at p a).parents b) || (occupied p b && is_child p b a)) _ (answered a b (child_linked p a b e))).1

  pub linked_back : (a b : ℕ) → is_linked p a b ≡ true → is_linked p b a ≡ true
  unfolding is_linked
  linked_back a b h =
      ⊎_elim
      (λ e. child_linked p b a (parent_named a b e).1)
      (λ e. parent_linked p b a (child_named a b e).1)
      (or_either (is_parent p a b) (is_child p a b) h)

  pub linked_occupied : (a b : ℕ) → is_linked p a b ≡ true → occupied p b ≡ true
  unfolding is_linked
  linked_occupied a b h = ⊎_elim (λ e. (parent_named a b e).0) (λ e. (child_named a b e).0) (or_either (is_parent p a b) (is_child p a b) h)

  -- the cluster of an occupied slot has no free one
  pub cluster_occupied : (a b : ℕ) → occupied p a ≡ true → in_cluster p a b ≡ true → occupied p b ≡ true
  cluster_occupied a b o h =
      onward_closed (is_linked p) (slot_count p) (occupied p) (λ i j _ e. linked_occupied i j e) a b (sym (cluster_onward p a b) ∙ h) o

  -- who is in a's cluster has a in his
  pub cluster_back : (a b : ℕ) → in_cluster p a b ≡ true → in_cluster p b a ≡ true
  cluster_back a b h = go (cluster_together p a b h)
    where
      go : {a b : ℕ} → Together p a b → in_cluster p b a ≡ true
      go itself = together_cluster p itself
      go (linked u) = together_cluster p (linked (way_back linked_back u))

  -- so both have one cluster
  pub cluster_same : (a b : ℕ) → in_cluster p a b ≡ true → (c : ℕ) → in_cluster p a c ≡ in_cluster p b c
  cluster_same a b h c = true_together (in_cluster p a c) (in_cluster p b c) (on b a (cluster_back a b h)) (on a b h)
    where
      on : (a b : ℕ) → in_cluster p a b ≡ true → in_cluster p b c ≡ true → in_cluster p a c ≡ true
      on a b h m =
          cluster_onward p a c
          ∙ onward_trans (linked_bounded p) a b c (sym (cluster_onward p a b) ∙ h) (sym (cluster_onward p b c) ∙ m)
