-- Laws of the test of one chunk: what it brings, as it stands in the arrays, and the answer that the first reason gives. Assumes nothing.
use mathlib.Core.Path.{◌≡◌, refl, sym, ap, ap₂, ◌∙◌, subst}
use mathlib.Core.Bool.{false, ◌&&◌}
use mathlib.Core.List.{List, [], ◌∷◌, ◌++◌}
use Prim.Native.Nat.{ℕ, zero, suc, ◌+◌, ◌-◌, ◌≤◌, min}
use native.Mathlib.Omega.{arith}
use lib.Dec.{eqb}
use lib.ListN.{length, take, drop, length-append, length-take}
use lib.Seq.{length-take-le, take_at, drop_at, take-take, take-add}
use Rattle.lists.specs.Lists.{all_of, elem}
use Rattle.lists.proofs.Bools.{clash}
use Rattle.lists.proofs.Numbers.{ltb_same}
use Rattle.lists.proofs.Lists.{elem_right}
use Rattle.txset.specs.Sets.{has_in}
use Rattle.weights.specs.Weights.{most}
use Rattle.slotsets.specs.SlotSets.{capacity}
use Rattle.refusals.proofs.Lines.{Gives, Takes}
use Rattle.chunk_tests.specs.Tests.{over_sigops}
use Rattle.pool_table.specs.Pool.{Pool, slot_count}
use Rattle.pool_chunks.specs.Chunks.{PoolChunk}
use Rattle.template_rules.specs.declared.Reason.{Reason}
use Rattle.template_rules.specs.Filling.{Settings, grown, addition, number_of, reasons, passed, outcome_of, outcome, after}
use Rattle.template_rules.specs.Filling as rules
use Rattle.template_rules.proofs.Collect.{grown_is}
use Rattle.template.specs.declared.tests.Used.{Used}
use Rattle.template.specs.declared.tests.Outcome.TheVariants.{Taken, Passed}
use Rattle.template.proofs.Collecting.{chosen_few}
use Rattle.template.specs.Selecting.{Occupied, Selected}
use Rattle.template.specs.Trying.{sums_of, Stands, Tried}
use Rattle.template_rules.proofs.Filling.{raw_append, cost_append}

-- ---- what is asked of the set is what is asked of the list

pub all_same : {p : Pool} {out taken picked : List ℕ} {n : ℕ} → Selected p out taken picked n → (slots : List ℕ)
    → all_of (has_in taken) slots ≡ all_of (λ s. elem s out) slots
unfolding all_of
all_same g [] = refl
all_same g (s ∷ slots) = ap₂ ◌&&◌ (g.member s) (all_same g slots)

-- what is selected stands at the start
pub stays_own : {p : Pool} {taken picked : List ℕ} (n : ℕ) → Selected p (take n picked) taken picked n
    → take (length (take n picked)) picked ≡ take n picked
stays_own {picked = picked} n g = ap (λ (k : ℕ). take k picked) (sym g.count)

-- a cost that is held passes the limit where the cost itself does
pub sigops_held : (reserve used cost : ℕ) → over_sigops reserve used (min cost most) ≡ over_sigops reserve used cost
unfolding over_sigops
sigops_held reserve used cost =
    ltb_same 80000 (reserve + (used + min cost most)) 80000 (reserve + (used + cost)) (λ l. omega arith) (λ l. omega arith)

-- ---- what a chunk brings, behind what is selected

module _ {p : Pool} (out slots : List ℕ) {taken picked : List ℕ} {n end : ℕ} (l : n ≡ length out)
    (g : Selected p (grown p out slots) taken picked end) where
  pub brought_many : end ≡ n + length (addition p out slots)
  brought_many = omega (arith, g.count, ap length (grown_is p out slots), length-append out (addition p out slots))

  pub brought_order : n ≤ end
  brought_order = omega (arith, brought_many)

  pub brought_within : end ≤ length picked
  brought_within = omega (arith, length-take end picked, ap length g.are, g.count)

  -- what was selected stands where it stood
  pub brought_stays : take (length out) picked ≡ out
  brought_stays =
      sym (take-take (length out) end picked (omega (arith, brought_many)))
      ∙ ap (take (length out)) (g.are ∙ grown_is p out slots)
      ∙ take_at out (addition p out slots) (length out) refl

  pub brought_is : take (end - n) (drop n picked) ≡ addition p out slots
  brought_is =
      let e : end ≡ n + (end - n) = omega (arith, brought_many) in
      sym (drop_at (take n picked) (take (end - n) (drop n picked)) n (length-take-le n picked (omega (arith, brought_many, brought_within))))
      ∙ ap (drop n) (sym (take-add n (end - n) picked) ∙ ap (λ (k : ℕ). take k picked) (sym e) ∙ g.are ∙ grown_is p out slots)
      ∙ drop_at out (addition p out slots) n (sym l)

  pub brought_held : Occupied p (addition p out slots)
  brought_held x e = g.held x (ap (elem x) (grown_is p out slots) ∙ elem_right x out (addition p out slots) e)

  pub brought_end : slot_count p ≤ capacity → end ≤ capacity
  brought_end few = omega (arith, g.count, chosen_few p (grown p out slots) (g.once, g.held))

  pub brought_few : slot_count p ≤ capacity → length (addition p out slots) ≤ capacity
  brought_few few = omega (arith, brought_many, brought_end few)

-- two sums together
abbrev pub both : Used → Used → Used
both used more =
    record { count = used.count + more.count; weight = record { 0 = used.weight.0 + more.weight.0 }; cost = used.cost + more.cost }

-- ---- the answer

passed_number : (k : ℕ) (added : List ℕ) → eqb k 0 ≡ false → outcome_of k added ≡ passed k
passed_number zero added e = clash refl e
passed_number (suc k) added e = refl

module _ (p : Pool) (w : Settings) (out : List ℕ) (c : PoolChunk) where
  -- passed over, with the first reason that holds
  pub tried_passed : {taken picked : List ℕ} (reason : Reason) → Gives (reasons p w out c) (number_of reason) → take (length out) picked ≡ out
      → Tried p w out c (Passed reason) taken picked
  unfolding outcome
  tried_passed reason g s =
      let added = addition p out c.slots in
      record {
        tells = sym (ap (λ (k : ℕ). outcome_of k added) g.answer ∙ passed_number (number_of reason) added g.number);
        stays = s;
        stands = λ used e. let z : ◌≡◌ {A = ℕ} 0 1 = cc in absurd (omega arith);
      }

  -- taken, where no reason holds
  module _ {taken₀ picked₀ taken picked : List ℕ} {used more : Used} {end : ℕ}
      (old : Stands p out used taken₀ picked₀)
      (new : Selected p (grown p out c.slots) taken picked end)
      (e : more ≡ sums_of p (addition p out c.slots))
      (small : used.cost + more.cost ≤ 80000) where
    both_stands : Stands p (out ++ addition p out c.slots) (both used more) taken picked
    unfolding sums_of
    both_stands =
        let added = addition p out c.slots in
        let count : end ≡ used.count + more.count =
        brought_many out c.slots old.selected.count new ∙ ap (λ (k : ℕ). used.count + k) (sym (ap (λ (u : Used). u.count) e)) in
        record {
          selected = subst (λ (l : List ℕ). Selected p l taken picked (used.count + more.count)) (grown_is p out c.slots) (rw (← count) new);
          weight = omega (arith, old.weight, ap (λ (u : Used). u.weight.0) e, raw_append p out added);
          cost = omega (arith, old.cost, ap (λ (u : Used). u.cost) e, cost_append p out added);
        }

    pub tried_taken : Takes (reasons p w out c) → Tried p w out c (Taken (both used more)) taken picked
    unfolding outcome
    tried_taken t =
        let added = addition p out c.slots in
        let none : outcome p w out c ≡ rules.taken added = ap (λ (k : ℕ). outcome_of k added) t.answer in
        record {
          tells = sym none;
          stays = brought_stays out c.slots old.selected.count new;
          stands = λ (u : Used) (q : Taken (both used more) ≡ Taken u).
              let z : both used more ≡ u = cc in
              subst (λ (o : rules.Outcome). Stands p (after out o) u taken picked) (sym none)
              (subst (λ (v : Used). Stands p (out ++ addition p out c.slots) v taken picked) z both_stands);
        }
