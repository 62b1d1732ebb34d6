-- The sets of a pool that calls leave have words of 64 digits, so that each is known by its members. Assumes nothing.
use mathlib.Core.Path.{sym, subst}
use mathlib.Core.Bool.{Bool, false}
use mathlib.Core.List.{List}
use Prim.Native.Nat.{ℕ}
use lib.Dec.{eqb}
use Rattle.lists.proofs.Bools.{cond_where}
use Rattle.txset.proofs.Words.{Fits}
use Rattle.slotsets.proofs.SlotSets.{set_fits}
use Rattle.pool_table.specs.declared.Entry.{Entry}
use Rattle.pool_table.specs.declared.Limits.{Limits}
use Rattle.pool_table.specs.Pool.{Slot, Pool, free, slot_at, slot_count}
use Rattle.pool_table.specs.Changes.{made}
use Rattle.pool_table.proofs.Pools.{made_at}
use Rattle.pool_rules.specs.Module8.{slot_of, lowest_free, is_listed, added, removed, cost_set, cleared}
use Rattle.pool_history.specs.History.{Call, make, add, remove, set_cost, clear, totals, template}
use Rattle.pool_history.proofs.Slots.{each_slot}
use Rattle.pool_history.proofs.Steps.{step_of}

pub record Fitting (x : Slot) : Type 0 where
  pub parents : Fits x.parents
  pub children : Fits x.children

fitting_free : Fitting free
fitting_free = record { parents = set_fits (λ i. false); children = set_fits (λ i. false) }

pub fitting_made : (l : Limits) (n s : ℕ) → Fitting (slot_at (made l n) s)
fitting_made l n s = subst Fitting (sym (made_at l n s)) fitting_free

module _ (p : Pool) (h : (s : ℕ) → Fitting (slot_at p s)) where
  fitting_added : (e : Entry) (listed : List ℕ) (s : ℕ) → Fitting (slot_at (added p e listed) s)
  unfolding added
  fitting_added e listed s =
      let parents : ℕ → Bool = is_listed p e.txid listed in
      each_slot p _ _ (λ s x y. Fitting x → Fitting y)
      (λ s v.
      cond_where Fitting (eqb s (lowest_free p))
      (λ _. record { parents = set_fits parents; children = set_fits (λ i. false) })
      (λ _. cond_where Fitting (parents s) (λ _. record { parents = v.parents; children = set_fits _ }) (λ _. v)))
      (λ s _ v. v) s (h s)

  fitting_removed : (r s : ℕ) → Fitting (slot_at (removed p r) s)
  unfolding removed
  fitting_removed r s =
      each_slot p _ _ (λ s x y. Fitting x → Fitting y)
      (λ s v. cond_where Fitting (eqb s r) (λ _. fitting_free) (λ _. record { parents = set_fits _; children = set_fits _ }))
      (λ s _ v. v) s (h s)

  fitting_cost : (r c s : ℕ) → Fitting (slot_at (cost_set p r c) s)
  unfolding cost_set
  fitting_cost r c s =
      each_slot p _ _ (λ s x y. Fitting x → Fitting y)
      (λ s v. cond_where Fitting (eqb s r) (λ _. record { parents = v.parents; children = v.children }) (λ _. v))
      (λ s _ v. v) s (h s)

  fitting_cleared : (s : ℕ) → Fitting (slot_at (cleared p) s)
  unfolding cleared
  fitting_cleared s = fitting_made p.limits (slot_count p) s

  pub fitting_step : (c : Call) (s : ℕ) → Fitting (slot_at (step_of p c) s)
  fitting_step (make l) = fitting_made l (slot_count p)
  fitting_step (add e listed) = fitting_added e listed
  fitting_step (remove x) = fitting_removed (slot_of p x)
  fitting_step (set_cost x c) = fitting_cost (slot_of p x) c
  fitting_step clear = fitting_cleared
  fitting_step totals = h
  fitting_step (template w room) = h
