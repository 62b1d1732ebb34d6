-- A sound pool with a cost set is sound: no link and no weight was touched. Assumes nothing.
use mathlib.Core.Path.{◌≡◌, refl, sym, ap, ◌∙◌}
use mathlib.Core.Bool.{Bool, true, false, cond}
use mathlib.Core.List.{List}
use Prim.Native.Nat.{ℕ, ◌<◌}
use native.Mathlib.Omega.{arith}
use lib.Dec.{eqb}
use borrow.Author.Tests.{eq-eqb, ne_eqb}
use Rattle.lists.proofs.Bools.{clash, cond_where}
use Rattle.txset.specs.Sets.{has_in}
use Rattle.weights.specs.declared.RawWeight.{RawWeight}
use Rattle.pool_table.specs.declared.Side.{Side}
use Rattle.pool_table.specs.declared.Side.TheVariants.{Parents, Children}
use Rattle.pool_table.specs.Pool.{Slot, Pool, slot_at, slot_count, occupied, weight_at}
use Rattle.pool_table.specs.Changes.{with_entry, with_cost}
use Rattle.pool_table.specs.Ranges.{entry_in_range}
use Rattle.pool_table.specs.Links.{side_of}
use Rattle.pool_table.specs.WellFormed.{sound}
use Rattle.pool_table.proofs.Theorems.{Wholes}
use Rattle.pool_rules.specs.Module8.{with_slots, cost_set}
use Rattle.pool_rules.proofs.Pools.{count_with, slot_with}
use Rattle.pool_history.proofs.Plain.{names, Plain, sound_plain, plain_sound}
use Rattle.pool_history.proofs.Compared.{weight_same}
use Rattle.pool_history.proofs.Fewer.{Fewer, fewer_acyclic, fewer_within}
use Rattle.pool_history.proofs.Slots.{each_slot, same_occupied}

-- a slot with what it held but for the cost
pub record ButCost (x y : Slot) : Type 0 where
  pub txid : y.entry.txid ≡ x.entry.txid
  pub fee : y.entry.fee ≡ x.entry.fee
  pub weight : y.entry.weight ≡ x.entry.weight
  pub links : (side : Side) → side_of side y ≡ side_of side x

module _ (p : Pool) (r c : ℕ) where
  pub cost_count : slot_count (cost_set p r c) ≡ slot_count p
  unfolding cost_set
  cost_count = count_with p _ _

  -- another slot keeps all
  pub cost_else : (s : ℕ) → (r ≡ s → ⊥) → slot_at (cost_set p r c) s ≡ slot_at p s
  unfolding cost_set
  cost_else =
      each_slot p _ _ (λ s x y. (r ≡ s → ⊥) → y ≡ x)
      (λ s n. ap (λ (b : Bool). cond b (with_entry (with_cost c (slot_at p s).entry) (slot_at p s)) (slot_at p s)) (ne_eqb s r (λ e. n (sym e))))
      (λ s _ n. refl)

  pub cost_slot : (s : ℕ) → ButCost (slot_at p s) (slot_at (cost_set p r c) s)
  unfolding cost_set
  cost_slot =
      each_slot p _ _ (λ s x y. ButCost x y)
      (λ s.
      let x = slot_at p s in
      cond_where (ButCost x) (eqb s r)
      (λ _. record { txid = refl; fee = refl; weight = refl; links = same x })
      (λ _. record { txid = refl; fee = refl; weight = refl; links = λ side. refl }))
      (λ s _. record { txid = refl; fee = refl; weight = refl; links = λ side. refl })
    where
      same : (x : Slot) (side : Side) → side_of side (with_entry (with_cost c x.entry) x) ≡ side_of side x
      same x Parents = refl
      same x Children = refl

  -- it is set
  pub cost_here : r < slot_count p → (slot_at (cost_set p r c) r).entry ≡ with_cost c (slot_at p r).entry
  unfolding cost_set
  cost_here l = ap (λ (x : Slot). x.entry) (slot_with p _ _ r l) ∙ rw (eq-eqb r r refl)

  pub cost_names : (side : Side) (a b : ℕ) → names (cost_set p r c) side a b ≡ names p side a b
  cost_names side a b = ap (λ (ws : List ℕ). has_in ws b) ((cost_slot a).links side)

  pub cost_occupied : (s : ℕ) → occupied (cost_set p r c) s ≡ occupied p s
  cost_occupied s = same_occupied (slot_at (cost_set p r c) s) (slot_at p s) (cost_slot s).weight

module _ (p : Pool) (w : Wholes p.slots) (good : sound p ≡ true) (r c : ℕ) (o : occupied p r ≡ true) where
  abbrev q : Pool
  q = cost_set p r c

  old : Plain p
  old = sound_plain p w good

  same_weight : (s : ℕ) → weight_at q s ≡ weight_at p s
  same_weight s = ap (λ (x : RawWeight). x.0) (cost_slot p r c s).weight

  same_range : (s : ℕ) → entry_in_range (slot_at q s).entry ≡ entry_in_range (slot_at p s).entry
  unfolding entry_in_range
  same_range s = rw ((cost_slot p r c s).fee, (cost_slot p r c s).weight)

  fewer : Fewer p q
  unfolding cost_set with_slots
  fewer =
      record {
        limits = refl;
        count = cost_count p r c;
        named = λ side a b e. sym (cost_names p r c side a b) ∙ e;
        weight = λ s. omega (arith, same_weight s);
      }

  pub sound_cost : sound (cost_set p r c) ≡ true
  unfolding cost_set with_slots
  sound_cost =
      plain_sound
      (record {
        limits = old.limits;
        numbers = λ s e. same_range s ∙ old.numbers s (sym (cost_occupied p r c s) ∙ e);
        distinct = λ a b d e z.
            old.distinct a b (sym (cost_occupied p r c a) ∙ d) (sym (cost_occupied p r c b) ∙ e)
            (sym (cost_slot p r c a).txid ∙ z ∙ (cost_slot p r c b).txid);
        total = old.total ∙ sym (weight_same p q (cost_count p r c) same_weight (λ s. true));
        empty = λ s e.
            let f : occupied p s ≡ false = sym (cost_occupied p r c s) ∙ e in
            cost_else p r c s (λ z. clash (ap (occupied p) (sym z) ∙ o) f) ∙ old.empty s f;
        links = λ a b. cost_names p r c Parents a b ∙ old.links a b ∙ sym (cost_names p r c Children b a);
        named = λ side a b e. cost_occupied p r c b ∙ old.named side a b (sym (cost_names p r c side a b) ∙ e);
        acyclic = fewer_acyclic old fewer;
        within = λ s e. fewer_within old fewer s (sym (cost_occupied p r c s) ∙ e);
      })
