-- The pools that calls leave (specs/Module8.antt), slot by slot: what each slot holds, and that both sets of each have their words, so that
-- the table of such a pool means it (`pool_table` of pool_table). Assumes nothing.
use mathlib.Core.Path.{◌≡◌, refl, sym, ap, ◌∙◌, subst}
use mathlib.Core.Bool.{Bool, false}
use mathlib.Core.Logic.{⊎_elim}
use mathlib.Core.List.{List, [], ◌∷◌}
use Prim.Native.Nat.{ℕ, zero, suc, ◌+◌, ◌<◌, ◌≤◌}
use native.Mathlib.Nat.{add-zero, zero-add}
use native.Mathlib.Omega.{arith}
use lib.Dec.{eqb}
use lib.ListN.{length, get_or, get_or-eq_default}
use Rattle.lists.proofs.Bools.{cond_where}
use Rattle.lists.proofs.Numbers.{lt_or_ge}
use Rattle.slotsets.specs.SlotSets.{none, set_of}
use Rattle.slotsets.proofs.SlotSets.{set_long}
use Rattle.pool_table.specs.declared.Entry.{Entry}
use Rattle.pool_table.specs.declared.Side.TheVariants.{Children}
use Rattle.pool_table.specs.Pool.{Slot, Pool, free, slot_at, slot_count}
use Rattle.pool_table.specs.Words.{pool_of}
use Rattle.pool_table.specs.Changes.{with_entry, with_links, with_link}
use Rattle.pool_table.proofs.Rows.{Whole, whole_free, whole_slot}
use Rattle.pool_table.proofs.Theorems.{Wholes}
use Rattle.pool_table.proofs.Pools.{whole_made}
use Rattle.pool_rules.specs.Module8.{lowest_free, is_listed, each_from, with_slots, added, removed, cost_set, cleared}

-- ---- slots made anew

length_each : (f : ℕ → Slot → Slot) (s : ℕ) (xs : List Slot) → length (each_from f s xs) ≡ length xs
unfolding each_from
length_each f s [] = refl
length_each f s (x ∷ xs) = ap suc (length_each f (suc s) xs)

each_at : (f : ℕ → Slot → Slot) (s : ℕ) (xs : List Slot) (i : ℕ) → i < length xs → get_or (each_from f s xs) i free ≡ f (s + i) (get_or xs i free)
unfolding each_from
each_at f s [] i l = absurd (omega arith)
each_at f s (x ∷ xs) zero l = ap (λ (n : ℕ). f n x) (sym (add-zero s))
each_at f s (x ∷ xs) (suc i) l =
    let e : suc s + i ≡ s + suc i = omega arith in
    each_at f (suc s) xs i (omega arith) ∙ ap (λ (n : ℕ). f n (get_or xs i free)) e

module _ (p : Pool) (n : ℕ) (f : ℕ → Slot → Slot) where
  pub count_with : slot_count (with_slots p n f) ≡ slot_count p
  unfolding with_slots
  count_with = length_each f 0 p.slots

  pub slot_with : (s : ℕ) → s < slot_count p → slot_at (with_slots p n f) s ≡ f s (slot_at p s)
  unfolding with_slots slot_at
  slot_with s l = each_at f 0 p.slots s l ∙ ap (λ (k : ℕ). f k (get_or p.slots s free)) (zero-add s)

-- ---- both sets of each slot have their words

pub whole_pool : (t : List ℕ) → Wholes (pool_of t).slots
unfolding slot_at
whole_pool t = whole_slot t

whole_with : (p : Pool) (n : ℕ) (f : ℕ → Slot → Slot) → Wholes p.slots → ((s : ℕ) (x : Slot) → Whole x → Whole (f s x))
    → Wholes (with_slots p n f).slots
unfolding slot_at
whole_with p n f w h i =
    ⊎_elim
    (λ (l : i < slot_count p). subst Whole (sym (slot_with p n f i l)) (h i (slot_at p i) (w i)))
    (λ (l : slot_count p ≤ i).
    subst Whole (sym (get_or-eq_default (with_slots p n f).slots free (omega (arith, count_with p n f)))) whole_free)
    (lt_or_ge i (slot_count p))

module _ (p : Pool) (w : Wholes p.slots) where
  pub whole_added : (e : Entry) (listed : List ℕ) → Wholes (added p e listed).slots
  unfolding added
  whole_added e listed =
      let parents : ℕ → Bool = is_listed p e.txid listed in
      whole_with p _ _ w
      (λ s x v.
      let fresh : Whole (with_links (set_of parents) none (with_entry e free)) = record { parents = set_long parents; children = set_long (λ i. false) } in
      let linked : Whole (with_link Children (lowest_free p) x) = record { parents = v.parents; children = set_long _ } in
      cond_where Whole (eqb s (lowest_free p)) (λ _. fresh) (λ _. cond_where Whole (parents s) (λ _. linked) (λ _. v)))

  pub whole_removed : (r : ℕ) → Wholes (removed p r).slots
  unfolding removed
  whole_removed r =
      whole_with p _ _ w
      (λ s x v. cond_where Whole (eqb s r) (λ _. whole_free) (λ _. record { parents = set_long _; children = set_long _ }))

  pub whole_cost : (r c : ℕ) → Wholes (cost_set p r c).slots
  unfolding cost_set
  whole_cost r c =
      whole_with p _ _ w
      (λ s x v. cond_where Whole (eqb s r) (λ _. record { parents = v.parents; children = v.children }) (λ _. v))

  pub whole_cleared : Wholes (cleared p).slots
  unfolding cleared
  whole_cleared = whole_made p.limits (slot_count p)
