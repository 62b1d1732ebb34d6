-- Laws of `collect` and `grown` (specs/Filling.antt): what was selected stays, what is written is an ancestor, as many steps as a slot has
-- ancestors are enough, and what each slot keeps that is written behind its parents. Assumes nothing.
use mathlib.Core.Path.{◌≡◌, refl, ap}
use mathlib.Core.Bool.{true, false, cond}
use mathlib.Core.Logic.{◌⊎◌, inl, inr, ⊎_elim}
use mathlib.Core.List.{List, [], ◌∷◌, ◌++◌}
use Prim.Native.Nat.{ℕ, zero, suc, ◌≤◌, ◌<◌}
use native.Mathlib.Omega.{arith}
use Rattle.lists.specs.Lists.{elem}
use Rattle.lists.proofs.Bools.{clash, cond_where, is_false}
use Rattle.lists.proofs.Lists.{elem_head, elem_right, in_snoc}
use Rattle.slotsets.specs.SlotSets.{capacity}
use Rattle.ways.specs.Ways.{Way, step}
use Rattle.ways.proofs.Ways.{way_trans}
use Rattle.ways.proofs.Cycles.{onward_self, onward_either}
use Rattle.pool_table.specs.Pool.{Pool, slot_count, occupied}
use Rattle.pool_table.specs.Links.{is_parent}
use Rattle.pool_links.proofs.Mutual.{occupied_in}
use Rattle.pool_rules.proofs.Sound.{Sound}
use Rattle.template_rules.specs.Filling.{parents_by_txid, each_in_turn, collect, grown, addition}
use Rattle.template_rules.proofs.Turns.{Starts, starts_itself, starts_trans, starts_rest, turns_keep, turns_starts, turns_in, turns_from, turns_same}
use Rattle.template_rules.proofs.Ancestors.{visited_parent, visited_below, above, above_visited, ancestors, ancestors_few, ancestors_some, ancestors_fall, no_loop, parent_occupied, parent_visited}

module _ (p : Pool) where
  -- ---- what was selected stays, in its place

  pub collect_starts : (k : ℕ) (out : List ℕ) (s : ℕ) → Starts out (collect p k out s)
  unfolding collect
  collect_starts zero out s = starts_itself out
  collect_starts (suc k) out s =
      cond_where (Starts out) (elem s out)
      (λ _. starts_itself out)
      (λ _. starts_trans (turns_starts (collect p k) (collect_starts k) (parents_by_txid p s) out) (record { more = s ∷ []; whole = refl }))

  pub grown_starts : (out slots : List ℕ) → Starts out (grown p out slots)
  unfolding grown
  grown_starts out slots = turns_starts (collect p (slot_count p)) (collect_starts (slot_count p)) slots out

  -- it grows by the addition
  pub grown_is : (out slots : List ℕ) → grown p out slots ≡ out ++ addition p out slots
  unfolding addition
  grown_is out slots = starts_rest (grown_starts out slots)

  -- ---- what is written is an ancestor

  pub collect_from : (k : ℕ) (out : List ℕ) (s x : ℕ) → elem x (collect p k out s) ≡ true → (elem x out ≡ true) ⊎ (above p s x ≡ true)
  unfolding collect
  collect_from zero out s x m = inl m
  collect_from (suc k) out s x m =
      cond_where (λ new. elem x new ≡ true → (elem x out ≡ true) ⊎ (above p s x ≡ true)) (elem s out)
      (λ _. inl)
      (λ _ n.
      ⊎_elim
      (λ u.
      ⊎_elim inl
      (λ v. inr (above_visited p s v.0 x v.1 v.2))
      (turns_from (collect p k) (above p) (collect_from k) (parents_by_txid p s) out x u))
      (λ (e : x ≡ s). inr (rw e (onward_self (is_parent p) (slot_count p) s)))
      (in_snoc x s (each_in_turn (collect p k) out (parents_by_txid p s)) n))
      m

  pub grown_from : (out slots : List ℕ) (x : ℕ) → elem x (grown p out slots) ≡ true
      → (elem x out ≡ true) ⊎ ((s : ℕ) × (elem s slots ≡ true) × (above p s x ≡ true))
  unfolding grown
  grown_from out slots x = turns_from (collect p (slot_count p)) (above p) (collect_from (slot_count p)) slots out x

  -- ---- a slot that is selected is not written again, and with steps enough any other is

  pub collect_again : (k : ℕ) (out : List ℕ) (s : ℕ) → elem s out ≡ true → collect p k out s ≡ out
  unfolding collect
  collect_again zero out s e = refl
  collect_again (suc k) out s e = rw e

  pub collect_in : (k : ℕ) (out : List ℕ) (s : ℕ) → s < slot_count p → ancestors p s ≤ k → elem s (collect p k out s) ≡ true
  unfolding collect
  collect_in zero out s l b = absurd (omega (arith, ancestors_some p s l))
  collect_in (suc k) out s l b =
      let up = each_in_turn (collect p k) out (parents_by_txid p s) in
      cond_where (λ new. elem s new ≡ true) (elem s out) (λ e. e) (λ _. elem_right s up (s ∷ []) (elem_head s []))

module _ (p : Pool) (h : Sound p) where
  -- ---- as many steps as there are ancestors: more change nothing

  left : (k s a : ℕ) → ancestors p s ≤ suc k → elem a (parents_by_txid p s) ≡ true → ancestors p a ≤ k
  left k s a b m = omega (arith, ancestors_fall p h s a (visited_parent p s a m))

  pub collect_fuel : (k j : ℕ) (out : List ℕ) (s : ℕ) → s < slot_count p → ancestors p s ≤ k → ancestors p s ≤ j
      → collect p k out s ≡ collect p j out s
  unfolding collect
  collect_fuel zero j out s l b c = absurd (omega (arith, ancestors_some p s l))
  collect_fuel (suc k) zero out s l b c = absurd (omega (arith, ancestors_some p s l))
  collect_fuel (suc k) (suc j) out s l b c =
      ap (λ (up : List ℕ). cond (elem s out) out (up ++ (s ∷ [])))
      (turns_same (collect p k) (collect p j) (parents_by_txid p s)
      (λ o a m. collect_fuel k j o a (visited_below p s a m) (left k s a b m) (left j s a c m)) out)

  -- one step, with as many for the parents
  pub collect_step : (k : ℕ) (out : List ℕ) (s : ℕ) → s < slot_count p → ancestors p s ≤ k → elem s out ≡ false
      → collect p k out s ≡ each_in_turn (collect p k) out (parents_by_txid p s) ++ (s ∷ [])
  unfolding collect
  collect_step zero out s l b e = absurd (omega (arith, ancestors_some p s l))
  collect_step (suc k) out s l b e =
      rw e
      (ap (λ (up : List ℕ). up ++ (s ∷ []))
      (turns_same (collect p k) (collect p (suc k)) (parents_by_txid p s)
      (λ o a m. collect_fuel k (suc k) o a (visited_below p s a m) (left k s a b m) (omega (arith, left k s a b m))) out))

  -- ---- what is kept

  -- its parents do not write s
  not_yet : (k : ℕ) (out : List ℕ) (s : ℕ) → elem s out ≡ false → elem s (each_in_turn (collect p k) out (parents_by_txid p s)) ≡ false
  not_yet k out s e =
      is_false _ (λ m.
      ⊎_elim
      (λ n. clash n e)
      (λ v.
      let u : Way (is_parent p) s v.0 = step (visited_parent p s v.0 v.1) in
      absurd (no_loop p h
      (⊎_elim (λ (z : v.0 ≡ s). rw z at u) (λ w. way_trans u w) (onward_either (is_parent p) (slot_count p) v.0 s v.2))))
      (turns_from (collect p k) (above p) (collect_from p k) (parents_by_txid p s) out s m))

-- a property of lists that an entry keeps which is written behind its parents, once
abbrev pub Kept : Pool → (List ℕ → Type 0) → Type 0
Kept p P =
    (out : List ℕ) (s : ℕ) → occupied p s ≡ true → elem s out ≡ false → ((a : ℕ) → is_parent p s a ≡ true → elem a out ≡ true) → P out
    → P (out ++ (s ∷ []))

-- entries alone
abbrev pub Entries : Pool → List ℕ → Type 0
Entries p l = (s : ℕ) → elem s l ≡ true → occupied p s ≡ true

module _ (p : Pool) (h : Sound p) (few : slot_count p ≤ capacity) where
  pub collect_keeps : (P : List ℕ → Type 0) → Kept p P → (k : ℕ) (out : List ℕ) (s : ℕ) → occupied p s ≡ true → ancestors p s ≤ k → P out
      → P (collect p k out s)
  unfolding collect
  collect_keeps P kept zero out s o b q = q
  collect_keeps P kept (suc k) out s o b q =
      let up = each_in_turn (collect p k) out (parents_by_txid p s) in
      cond_where P (elem s out)
      (λ _. q)
      (λ e.
      kept up s o (not_yet p h k out s e)
      (λ a u.
      turns_in (collect p k) (collect_starts p k) (parents_by_txid p s)
      (λ r x m. collect_in p k r x (visited_below p s x m) (left p h k s x b m)) out a (parent_visited p h few s a u))
      (turns_keep (collect p k) P (parents_by_txid p s)
      (λ r x m. collect_keeps P kept k r x (parent_occupied p h few s x (visited_parent p s x m)) (left p h k s x b m)) out q))

  pub grown_keeps : (P : List ℕ → Type 0) → Kept p P → (out slots : List ℕ) → Entries p slots → P out → P (grown p out slots)
  unfolding grown
  grown_keeps P kept out slots o =
      turns_keep (collect p (slot_count p)) P slots (λ r s m. collect_keeps P kept (slot_count p) r s (o s m) (ancestors_few p s)) out

-- each of the slots is written
pub grown_in : (p : Pool) (out slots : List ℕ) → Entries p slots → (s : ℕ) → elem s slots ≡ true → elem s (grown p out slots) ≡ true
unfolding grown
grown_in p out slots o =
    turns_in (collect p (slot_count p)) (collect_starts p (slot_count p)) slots
    (λ r s m. collect_in p (slot_count p) r s (occupied_in p s (o s m)) (ancestors_few p s)) out
