-- A pool that has no link and no weight that another has not: no parent chain closes and no cluster passes a limit in it either.
-- Assumes nothing.
use mathlib.Core.Path.{◌≡◌, ap, ◌∙◌}
use mathlib.Core.Bool.{Bool, true, ◌||◌, or-true}
use mathlib.Core.Logic.{⊎_elim}
use Prim.Native.Nat.{ℕ, ◌≤◌}
use Rattle.lists.proofs.Bools.{or_either}
use Rattle.ways.specs.Ways.{Way, step, further}
use Rattle.pool_table.specs.declared.Side.{Side}
use Rattle.pool_table.specs.declared.Side.TheVariants.{Parents, Children}
use Rattle.pool_table.specs.Pool.{Pool, slot_count, occupied, weight_at}
use Rattle.pool_table.specs.Links.{is_parent, is_child, is_linked, in_cluster, Together, itself, linked}
use Rattle.pool_table.specs.WellFormed.{is_within}
use Rattle.pool_clusters.proofs.Theorems.{cluster_together, together_cluster}
use Rattle.pool_history.proofs.Plain.{names, Plain, parent_names, child_names, parent_is, child_is}
use Rattle.pool_history.proofs.Compared.{within_part}

-- a relation within another has no way that the other has not
way_within : {r s : ℕ → ℕ → Bool} → ((i a : ℕ) → s i a ≡ true → r i a ≡ true) → {i a : ℕ} → Way s i a → Way r i a
way_within h {i} {a} (step e) = step (h i a e)
way_within h {i} (further {p = p} e u) = further (h i p e) (way_within h u)

pub record Fewer (p q : Pool) : Type 0 where
  pub limits : q.limits ≡ p.limits
  pub count : slot_count q ≡ slot_count p
  pub named : (side : Side) (a b : ℕ) → names q side a b ≡ true → names p side a b ≡ true
  pub weight : (s : ℕ) → weight_at q s ≤ weight_at p s

module _ {p q : Pool} (h : Plain p) (u : Fewer p q) where
  parents_fewer : (a b : ℕ) → is_parent q a b ≡ true → is_parent p a b ≡ true
  parents_fewer a b e = parent_is h a b ∙ u.named Parents a b (parent_names q a b e)

  children_fewer : (a b : ℕ) → is_child q a b ≡ true → is_child p a b ≡ true
  children_fewer a b e = child_is h a b ∙ u.named Children a b (child_names q a b e)

  links_fewer : (a b : ℕ) → is_linked q a b ≡ true → is_linked p a b ≡ true
  unfolding is_linked
  links_fewer a b e =
      ⊎_elim
      (λ x. ap (λ (c : Bool). c || is_child p a b) (parents_fewer a b x))
      (λ x. ap (λ (c : Bool). is_parent p a b || c) (children_fewer a b x) ∙ or-true (is_parent p a b))
      (or_either (is_parent q a b) (is_child q a b) e)

  cluster_fewer : (a b : ℕ) → in_cluster q a b ≡ true → in_cluster p a b ≡ true
  cluster_fewer a b e = together_cluster p (go (cluster_together q a b e))
    where
      go : {a b : ℕ} → Together q a b → Together p a b
      go itself = itself
      go (linked v) = linked (way_within links_fewer v)

  pub fewer_acyclic : (a : ℕ) → Way (is_parent q) a a → ⊥
  fewer_acyclic a v = h.acyclic a (way_within parents_fewer v)

  pub fewer_within : (s : ℕ) → occupied p s ≡ true → is_within q (in_cluster q s) ≡ true
  fewer_within s o =
      within_part p q u.count u.limits (in_cluster p s) (in_cluster q s) (λ b e. (cluster_fewer s b e, u.weight b)) (h.within s o)
