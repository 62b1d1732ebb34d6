-- Laws of the test of one chunk and of `fill` (specs/Filling.antt): a chunk is taken exactly where none of the seven reasons holds, what is
-- passed over leaves no trace, and what every taken chunk keeps the list keeps. Assumes nothing.
use mathlib.Core.Path.{◌≡◌, refl, subst}
use mathlib.Core.Bool.{true, false, not}
use mathlib.Core.List.{List, [], ◌∷◌, ◌++◌}
use Prim.Native.Nat.{ℕ, zero, suc, ◌+◌, ◌≤◌}
use native.Mathlib.Omega.{arith}
use lib.Dec.{eqb}
use borrow.Author.Tests.{ltb-false, le-ltb, eq-eqb, not-true}
use Rattle.lists.specs.Lists.{any_of, all_of, elem}
use Rattle.lists.proofs.Bools.{clash, cases, and_left, and_right}
use Rattle.lists.proofs.Lists.{Each, elem_head}
use Rattle.refusals.specs.Refusals.{Line, answer_of}
use Rattle.refusals.proofs.Lines.{line_at, numbered, none_past, past, all_past}
use Rattle.slotsets.specs.SlotSets.{capacity}
use Rattle.chunk_tests.specs.Tests.{is_negative, is_below, over_budget, over_sigops}
use Rattle.pool_table.specs.Pool.{Pool, is_occupied, slot_count, weight_at}
use Rattle.pool_rules.proofs.Sound.{Sound}
use Rattle.pool_chunks.specs.Chunks.{PoolChunk}
use Rattle.template_rules.specs.Filling.{Settings, withheld, grown, addition, raw_sum, cost_sum, reasons, taken, outcome_of, outcome, after, fill}
use Rattle.template_rules.proofs.Turns.{Starts, starts_itself, starts_trans}
use Rattle.template_rules.proofs.Collect.{Entries, grown_starts, grown_is}
use Rattle.template_rules.proofs.Chunks.{Chunked}
use Rattle.template_rules.proofs.Selected.{Selected, grown_selected}

-- ---- the seven tests

-- none of the seven reasons holds
pub record Passes (p : Pool) (w : Settings) (out : List ℕ) (c : PoolChunk) : Type 0 where
  pub fee : is_negative c.rate ≡ false
  pub minimum : is_below w.terms.minimum c.rate ≡ false
  pub members : any_of (withheld w.marks) c.slots ≡ false
  pub unselected : all_of (λ s. elem s out) c.slots ≡ false
  pub brought : any_of (withheld w.marks) (addition p out c.slots) ≡ false
  pub budget : raw_sum p out + raw_sum p (addition p out c.slots) ≤ w.terms.budget.0
  pub sigops : w.terms.reserve + (cost_sum p out + cost_sum p (addition p out c.slots)) ≤ 80000

-- where no number is given, no line holds
first_line : (l : Line) (ls : List Line) → numbered (l ∷ ls) ≡ true → answer_of (l ∷ ls) ≡ 0 → l.holds ≡ false
unfolding answer_of
first_line l ls m e =
    cases l.holds
    (λ t.
    let z : l.number ≡ 0 = rw t at e in
    clash (eq-eqb l.number 0 z) (not-true (eqb l.number 0) (and_left (not (eqb l.number 0)) (numbered ls) m)))
    (λ f. f)

no_line : (ls : List Line) → numbered ls ≡ true → answer_of ls ≡ 0 → (n : ℕ) → (line_at ls n).holds ≡ false
unfolding answer_of
no_line [] m e n = refl
no_line (l ∷ ls) m e zero = first_line l ls m e
no_line (l ∷ ls) m e (suc n) =
    no_line ls (and_right (not (eqb l.number 0)) (numbered ls) m) (rw (first_line l ls m e) at e) n

module _ (p : Pool) (w : Settings) (out : List ℕ) (c : PoolChunk) where
  answer_passes : answer_of (reasons p w out c) ≡ 0 → Passes p w out c
  unfolding reasons over_budget over_sigops
  answer_passes e =
      let no = no_line (reasons p w out c) refl e in
      record {
        fee = no 0;
        minimum = no 1;
        members = no 2;
        unselected = no 3;
        brought = no 4;
        budget = ltb-false _ _ (no 5);
        sigops = ltb-false _ _ (no 6);
      }

  passes_answer : Passes p w out c → answer_of (reasons p w out c) ≡ 0
  unfolding reasons over_budget over_sigops
  passes_answer q =
      let alone = past (past (past (past (none_past {ls = reasons p w out c} refl) q.fee) q.minimum) q.members) q.unselected in
      (all_past (past (past (past alone q.brought) (le-ltb _ _ q.budget)) (le-ltb _ _ q.sigops)) refl).answer

  -- ---- taken, or passed over

  -- a chunk is taken where it passes, and with its addition
  pub passes_taken : Passes p w out c → outcome p w out c ≡ taken (addition p out c.slots)
  unfolding outcome
  passes_taken q = rw (passes_answer q)

  by_answer : (n : ℕ) (added : List ℕ) → answer_of (reasons p w out c) ≡ n → outcome_of n (addition p out c.slots) ≡ taken added
      → Passes p w out c × (added ≡ addition p out c.slots)
  by_answer zero added e z = (answer_passes e, (cc))
  by_answer (suc n) added e z = let y : ◌≡◌ {A = ℕ} 0 1 = cc in absurd (omega arith)

  pub taken_passes : (added : List ℕ) → outcome p w out c ≡ taken added → Passes p w out c × (added ≡ addition p out c.slots)
  unfolding outcome
  taken_passes added = by_answer (answer_of (reasons p w out c)) added refl

  -- what is selected after its turn: what was, or that with its addition where it passes
  pub turn_keeps : (Q : List ℕ → Type 0) → Q out → (Passes p w out c → Q (grown p out c.slots)) → Q (after out (outcome p w out c))
  unfolding outcome
  turn_keeps Q q g = go (answer_of (reasons p w out c)) refl
    where
      go : (n : ℕ) → answer_of (reasons p w out c) ≡ n → Q (after out (outcome_of n (addition p out c.slots)))
      go zero e = subst Q (grown_is p out c.slots) (g (answer_passes e))
      go (suc n) e = q

-- ---- one chunk after the other

module _ (p : Pool) (w : Settings) where
  pub fill_append : (cs ds : List PoolChunk) (out : List ℕ) → fill p w out (cs ++ ds) ≡ fill p w (fill p w out cs) ds
  unfolding fill
  fill_append [] ds out = refl
  fill_append (c ∷ cs) ds out = fill_append cs ds (after out (outcome p w out c))

  -- what each chunk keeps that passes, all keep; R is what is known of the chunks
  pub fill_keeps : (R : PoolChunk → Type 0) (Q : List ℕ → Type 0)
      → ((out : List ℕ) (c : PoolChunk) → R c → Passes p w out c → Q out → Q (grown p out c.slots))
      → (cs : List PoolChunk) → Each R cs → (out : List ℕ) → Q out → Q (fill p w out cs)
  unfolding fill Each
  fill_keeps R Q k [] r out q = q
  fill_keeps R Q k (c ∷ cs) r out q =
      fill_keeps R Q k cs r.1 (after out (outcome p w out c)) (turn_keeps p w out c Q q (λ t. k out c r.0 t q))

  -- nothing that is selected is taken back
  pub fill_starts : (cs : List PoolChunk) (out : List ℕ) → Starts out (fill p w out cs)
  unfolding fill
  fill_starts [] out = starts_itself out
  fill_starts (c ∷ cs) out =
      starts_trans
      (turn_keeps p w out c (Starts out) (starts_itself out) (λ _. grown_starts p out c.slots))
      (fill_starts cs (after out (outcome p w out c)))

-- every list on the way has no slot twice, entries alone, each after its ancestors
pub fill_selected : (p : Pool) → Sound p → slot_count p ≤ capacity → (w : Settings) (cs : List PoolChunk) → Chunked p cs → (out : List ℕ)
    → Selected p out → Selected p (fill p w out cs)
fill_selected p h few w = fill_keeps p w (λ c. Entries p c.slots) (Selected p) (λ out c o _. grown_selected p h few out c.slots o)

-- ---- sums

module _ (p : Pool) where
  pub raw_append : (xs ys : List ℕ) → raw_sum p (xs ++ ys) ≡ raw_sum p xs + raw_sum p ys
  unfolding raw_sum
  raw_append [] ys = omega arith
  raw_append (x ∷ xs) ys = omega (arith, raw_append xs ys)

  pub cost_append : (xs ys : List ℕ) → cost_sum p (xs ++ ys) ≡ cost_sum p xs + cost_sum p ys
  unfolding cost_sum
  cost_append [] ys = omega arith
  cost_append (x ∷ xs) ys = omega (arith, cost_append xs ys)

  -- of entries it is no 0 unless there are none
  pub raw_none : (xs : List ℕ) → Entries p xs → raw_sum p xs ≤ 0 → xs ≡ []
  unfolding raw_sum is_occupied
  raw_none [] o l = refl
  raw_none (x ∷ xs) o l =
      let z : weight_at p x ≡ 0 = omega arith in
      clash (eq-eqb (weight_at p x) 0 z) (not-true (eqb (weight_at p x) 0) (o x (elem_head x xs)))
