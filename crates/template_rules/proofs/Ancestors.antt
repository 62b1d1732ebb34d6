-- The parents of a slot as they are visited, and how many ancestors it has: fewer with each step to a parent, in a pool without a cycle.
-- Assumes nothing.
use mathlib.Core.Path.{◌≡◌, sym, ap₂, ◌∙◌}
use mathlib.Core.Bool.{Bool, true, ◌&&◌}
use mathlib.Core.Logic.{⊎_elim}
use Prim.Native.Nat.{ℕ, ◌≤◌, ◌<◌}
use Rattle.lists.specs.Below.{count_from}
use Rattle.lists.specs.Lists.{elem}
use Rattle.lists.proofs.Bools.{clash, and_right}
use Rattle.lists.proofs.Ranges.{count_le, count_zero}
use Rattle.lists.proofs.Numbers.{lt_or_ge}
use Rattle.slotsets.specs.SlotSets.{capacity}
use Rattle.ways.specs.Ways.{Way, step}
use Rattle.ways.proofs.Cycles.{onward, onward_self, onward_way, onward_trans, fewer, no_way}
use Rattle.pool_table.specs.Pool.{Pool, slot_count, occupied}
use Rattle.pool_table.specs.Links.{is_parent}
use Rattle.pool_rules.proofs.Sound.{Sound}
use Rattle.pool_order.specs.Order.{slots_by_txid}
use Rattle.pool_clusters.proofs.Theorems.{parent_named}
use Rattle.pool_members.proofs.Only.{elem_only}
use Rattle.pool_members.proofs.Members.{slots_are, parents_bounded, no_cycle}
use Rattle.template_rules.specs.Filling.{parents_by_txid}

module _ (p : Pool) where
  -- who is visited is a parent
  pub visited_parent : (s a : ℕ) → elem a (parents_by_txid p s) ≡ true → is_parent p s a ≡ true
  unfolding parents_by_txid
  visited_parent s a m = and_right (elem a (slots_by_txid p)) (is_parent p s a) (sym (elem_only (is_parent p s) (slots_by_txid p) a) ∙ m)

  pub visited_below : (s a : ℕ) → elem a (parents_by_txid p s) ≡ true → a < slot_count p
  visited_below s a m = (parents_bounded p).to s a (visited_parent s a m)

  -- ---- a slot and its ancestors

  -- x is s, or a chain of parents leads to it from s
  abbrev pub above : ℕ → ℕ → Bool
  above s x = onward (is_parent p) (slot_count p) s x

  pub above_visited : (s a x : ℕ) → elem a (parents_by_txid p s) ≡ true → above a x ≡ true → above s x ≡ true
  above_visited s a x m u = onward_trans (parents_bounded p) s a x (onward_way (parents_bounded p) (step (visited_parent s a m))) u

  -- how many they are
  unfoldable pub ancestors : ℕ → ℕ
  ancestors s = count_from (above s) (slot_count p) 0

  pub ancestors_few : (s : ℕ) → ancestors s ≤ slot_count p
  unfolding ancestors
  ancestors_few s = count_le (above s) (slot_count p) 0

  pub ancestors_some : (s : ℕ) → s < slot_count p → 0 < ancestors s
  unfolding ancestors
  ancestors_some s l =
      ⊎_elim
      (λ m. m)
      (λ m. clash (onward_self (is_parent p) (slot_count p) s) (count_zero (above s) (slot_count p) m s l))
      (lt_or_ge 0 (ancestors s))

module _ (p : Pool) (h : Sound p) where
  -- no slot is its own ancestor
  pub no_loop : {s : ℕ} → Way (is_parent p) s s → ⊥
  no_loop = no_way (parents_bounded p) (no_cycle p h)

  -- a parent has fewer
  pub ancestors_fall : (s a : ℕ) → is_parent p s a ≡ true → ancestors p a < ancestors p s
  unfolding ancestors
  ancestors_fall s a e = fewer (parents_bounded p) (no_cycle p h) (step e)

  -- ---- a set of links names at most 1,024 slots

  module _ (few : slot_count p ≤ capacity) where
    -- a parent is an entry
    pub parent_occupied : (s a : ℕ) → is_parent p s a ≡ true → occupied p a ≡ true
    parent_occupied s a e = (parent_named p few h.links s a e).0

    -- so it is visited
    pub parent_visited : (s a : ℕ) → is_parent p s a ≡ true → elem a (parents_by_txid p s) ≡ true
    unfolding parents_by_txid
    parent_visited s a e =
        elem_only (is_parent p s) (slots_by_txid p) a ∙ ap₂ ◌&&◌ (slots_are p a ∙ parent_occupied s a e) e
