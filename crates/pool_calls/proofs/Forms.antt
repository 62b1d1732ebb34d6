-- What a well-formed table gives the calls, and what the look-up tells. Assumes nothing.
use mathlib.Core.Path.{◌≡◌, refl, sym, ap, ◌∙◌}
use mathlib.Core.Bool.{Bool, true, false, cond, not}
use mathlib.Core.Logic.{⊎_elim}
use mathlib.Core.List.{List, [], ◌∷◌}
use Prim.Native.Nat.{ℕ, zero, suc, ◌+◌, ◌<◌, ◌≤◌}
use native.Mathlib.Nat.{eq-or-lt_of_le}
use native.Mathlib.Omega.{arith}
use lib.Dec.{eqb}
use borrow.Author.Tests.{eqb-true, ne_eqb}
use Rattle.lists.proofs.Below.{first_below}
use Rattle.lists.proofs.Bools.{cases}
use Rattle.txids.specs.declared.Txid.{Txid}
use Rattle.pool_table.specs.Pool.{slot_count, weight_at}
use Rattle.refusals.specs.declared.Refusal.{Refusal}
use Rattle.refusals.specs.Refusals.{number_of, answer_of, reply_of, kept_unless}
use Rattle.refusals.proofs.Lines.{Gives, Takes, none_past, past, stop, all_past, keeps, writes, answered}
use Rattle.refusals.proofs.Outcomes.{no_success}
use Rattle.pool_table.specs.Words.{pool_of, table_of}
use Rattle.pool_table.specs.Links.{sum_from, weight_of}
use Rattle.pool_table.specs.WellFormed.{total_is_sum, well_formed}
use Rattle.pool_rules.proofs.Sound.{well_legal, well_sound}
use Rattle.pool_rules.specs.declared.Placed.{Placed}
use Rattle.pool_rules.specs.Module8.{is_in, slot_of, cleared}
use Rattle.pool_rules.specs.Calls.{placed, no_slot, broken, named_refusals, named_reply, clear_answer, after_clear}
use Rattle.pool_calls.specs.Steps.{Takable}

-- ---- a well-formed table

-- one weight of a sum
in_sum : (w : ℕ → ℕ) (k i s : ℕ) → i ≤ s → s < i + k → w s ≤ sum_from w (λ j. true) k i
unfolding sum_from
in_sum w zero i s l m = absurd (omega arith)
in_sum w (suc k) i s l m =
    ⊎_elim
    (λ (e : i ≡ s). omega (arith, ap w e))
    (λ (n : i < s). omega (arith, in_sum w k (suc i) s (omega arith) (omega arith)))
    (eq-or-lt_of_le l)

pub takable : (t : List ℕ) (s : ℕ) → well_formed t ≡ true → s < slot_count (pool_of t) → Takable t s
unfolding total_is_sum weight_of
takable t s h l =
    let p = pool_of t in
    record {
      legal = well_legal t h;
      within = omega (arith, in_sum (weight_at p) (slot_count p) 0 s (omega arith) (omega arith), eqb-true p.total _ (well_sound t h).total);
    }

-- ---- what an answer of the look-up tells

both_hold : (a b : Bool) → ◌≡◌ {A = ℕ} (cond (not a) 12 (cond (not b) 10 0)) 0 → (a ≡ true) × (b ≡ true)
both_hold true true e = (refl, refl)
both_hold true false e = absurd (omega arith)
both_hold false b e = absurd (omega arith)

module _ (t : List ℕ) (x : Txid) where
  told : (named_reply t x).answer ≡ answer_of (named_refusals t x)
  unfolding named_reply
  told = answered (named_refusals t x) no_slot (placed (slot_of (pool_of t) x)) (λ r. r.answer) refl (λ k. refl)

  module _ (s : ℕ) (e : placed s ≡ named_reply t x) where
    none_holds : answer_of (named_refusals t x) ≡ 0
    none_holds = sym told ∙ sym (ap (λ (r : Placed). r.answer) e)

    stand : (well_formed t ≡ true) × (is_in (pool_of t) x ≡ true)
    unfolding named_refusals answer_of
    stand = both_hold (well_formed t) (is_in (pool_of t) x) none_holds

    -- a slot: the table is well-formed, and it is the one where the txid stands
    pub named_well : well_formed t ≡ true
    named_well = stand.0

    pub named_slot : s ≡ slot_of (pool_of t) x
    unfolding named_reply reply_of
    named_slot = let same : placed s ≡ placed (slot_of (pool_of t) x) = rw none_holds at e in ap (λ (r : Placed). r.slot) same

    pub named_below : s < slot_count (pool_of t)
    unfolding is_in slot_of
    named_below = omega (arith, named_slot, first_below _ (slot_count (pool_of t)) 0 stand.1)

    pub named_writes : (new u : List ℕ) → u ≡ new → u ≡ kept_unless (named_refusals t x) t new
    named_writes new u h = writes t new (record { answer = none_holds }) h

  -- a refusal: all stays
  pub named_keeps : (r : Refusal) (new : List ℕ) → no_slot (number_of r) ≡ named_reply t x → t ≡ kept_unless (named_refusals t x) t new
  named_keeps r new e =
      keeps t new (record { answer = sym told ∙ sym (ap (λ (r : Placed). r.answer) e); number = ne_eqb (number_of r) 0 (no_success r) })

-- ---- refusal 12, and clear

module _ (t : List ℕ) where
  pub clear_refused : well_formed t ≡ false → (12 ≡ clear_answer t) × (t ≡ after_clear t)
  unfolding clear_answer after_clear
  clear_refused e = let g : Gives (broken t ∷ []) 12 = stop (none_past refl) (ap not e) in (sym g.answer, keeps t _ g)

  pub clear_done : (u : List ℕ) → well_formed t ≡ true → u ≡ table_of (cleared (pool_of t)) → (0 ≡ clear_answer t) × (u ≡ after_clear t)
  unfolding clear_answer after_clear
  clear_done u e h = let k : Takes (broken t ∷ []) = all_past (past (none_past refl) (ap not e)) refl in (sym k.answer, writes t _ k h)
