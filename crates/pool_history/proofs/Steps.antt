-- One call: that it keeps demand 3's sentence about a pool, and which pool its table then means. Assumes nothing.
use mathlib.Core.Path.{◌≡◌, refl, sym, ap, ◌∙◌}
use mathlib.Core.Bool.{true, false}
use mathlib.Core.List.{List, [], ◌∷◌}
use Prim.Native.Nat.{ℕ, ◌≤◌}
use native.Mathlib.Omega.{arith}
use lib.Dec.{eqb, leb}
use lib.ListN.{length}
use borrow.Author.Tests.{leb-true}
use Rattle.lists.proofs.Bools.{and_both}
use Rattle.refusals.specs.declared.Reply.{Reply}
use Rattle.refusals.specs.Refusals.{Line, answer_of, kept_unless, refusal}
use Rattle.refusals.proofs.Lines.{keeps, writes, answered}
use Rattle.txids.specs.declared.Txid.{Txid}
use Rattle.weights.specs.Weights.{virtual_size}
use Rattle.ways.specs.Ways.{Way}
use Rattle.pool_table.specs.declared.Entry.{Entry}
use Rattle.pool_table.specs.declared.Limits.{Limits}
use Rattle.pool_table.specs.Pool.{Pool, slot_count, occupied}
use Rattle.pool_table.specs.Words.{slots_in, pool_of, table_of}
use Rattle.pool_table.specs.Changes.{made}
use Rattle.pool_table.specs.Links.{is_parent, is_child, in_cluster, count_of, weight_of}
use Rattle.pool_table.specs.WellFormed.{is_within, well_formed}
use Rattle.pool_table.proofs.Legal.{few_slots}
use Rattle.pool_table.proofs.Pools.{whole_made}
use Rattle.pool_table.proofs.Rows.{slot_count_lem}
use Rattle.pool_table.proofs.Theorems.{pool_table}
use Rattle.pool_rules.specs.Module8.{slot_of, cleared, removed, cost_set, added}
use Rattle.pool_rules.specs.declared.Placed.{Placed}
use Rattle.pool_rules.specs.declared.Totals.{Totals}
use Rattle.pool_rules.specs.Calls.{no_slot, no_totals, make_refusals, make_answer, after_make, add_refusals, add_reply, after_add, named_refusals, named_reply}
use Rattle.pool_rules.specs.Calls.{after_remove, after_set_cost, broken, clear_answer, after_clear, totals_reply}
use Rattle.pool_rules.proofs.Pools.{whole_pool, whole_added, whole_removed, whole_cost, whole_cleared}
use Rattle.template_rules.specs.Calls.{template_refusals, template_reply}
use Rattle.pool_history.specs.History.{Call, make, add, remove, set_cost, clear, totals, template, answer_to, table_after}
use Rattle.pool_history.proofs.Plain.{parent_is, child_is}
use Rattle.pool_history.proofs.Answers.{stays_or_new, after_kept, can_make, can_add, can_name, found_occupied}
use Rattle.pool_history.proofs.Kept.{Kept, kept_plain, kept_made, kept_cleared, kept_cost, kept_removed, kept_added, some_slot, well_kept}
use Rattle.pool_history.proofs.Kept.{kept_well}

-- ---- what a pool is that every call keeps

module _ {p : Pool} (k : Kept p) where
  -- "parents and children name each other"
  pub name_each_other : (a b : ℕ) → is_parent p a b ≡ is_child p b a
  name_each_other a b = let h = kept_plain k in parent_is h a b ∙ h.links a b ∙ sym (child_is h b a)

  -- "no parent chain closes on itself"
  pub no_chain_closes : (a : ℕ) → Way (is_parent p) a a → ⊥
  no_chain_closes = (kept_plain k).acyclic

  -- "no cluster passes the pool's count or size limit"
  both_limits : (a : ℕ) → occupied p a ≡ true
      → (leb (count_of p (in_cluster p a)) p.limits.count ≡ true) × (leb (virtual_size (weight_of p (in_cluster p a))) p.limits.size ≡ true)
  unfolding is_within
  both_limits a o = and_both _ _ ((kept_plain k).within a o)

  pub within_count : (a : ℕ) → occupied p a ≡ true → count_of p (in_cluster p a) ≤ p.limits.count
  within_count a o = leb-true (count_of p (in_cluster p a)) p.limits.count (both_limits a o).0

  pub within_size : (a : ℕ) → occupied p a ≡ true → virtual_size (weight_of p (in_cluster p a)) ≤ p.limits.size
  within_size a o = leb-true (virtual_size (weight_of p (in_cluster p a))) p.limits.size (both_limits a o).1

-- ---- "So no later call finds the pool ill-formed": a well-formed table is one after any call, refused or not

module _ (t : List ℕ) where
  made_well : (l : Limits) → answer_of (make_refusals t l) ≡ 0 → well_formed (table_of (made l (slots_in (length t)))) ≡ true
  made_well l z =
      let h = can_make t l z in
      kept_well (made l (slots_in (length t)))
      (kept_made l (slots_in (length t)) h.1 (omega (arith, slot_count_lem t, some_slot t h.0)) (omega (arith, slot_count_lem t, few_slots t h.0)))

  -- a pool that was made, whatever the table held
  pub make_well : (l : Limits) → make_answer t l ≡ 0 → well_formed (after_make t l) ≡ true
  unfolding make_answer after_make
  make_well l z = ap well_formed (sym (writes t (table_of (made l (slots_in (length t)))) (record { answer = z }) refl)) ∙ made_well l z

  module _ (h : well_formed t ≡ true) where
    kept : Kept (pool_of t)
    kept = well_kept t h

    pub after_make_lem : (l : Limits) → well_formed (after_make t l) ≡ true
    unfolding after_make
    after_make_lem l = stays_or_new (λ u. well_formed u ≡ true) (make_refusals t l) h (made_well l)

    pub after_add_lem : (e : Entry) (listed : List ℕ) → well_formed (after_add t e listed) ≡ true
    unfolding after_add
    after_add_lem e listed =
        stays_or_new (λ u. well_formed u ≡ true) (add_refusals t e listed) h
        (λ z. kept_well (added (pool_of t) e listed) (kept_added kept e listed (can_add t e listed z)))

    pub after_remove_lem : (x : Txid) → well_formed (after_remove t x) ≡ true
    unfolding after_remove
    after_remove_lem x =
        let r = slot_of (pool_of t) x in
        stays_or_new (λ u. well_formed u ≡ true) (named_refusals t x) h
        (λ z. kept_well (removed (pool_of t) r) (kept_removed kept r (found_occupied (pool_of t) x (can_name t x z))))

    pub after_set_cost_lem : (x : Txid) (c : ℕ) → well_formed (after_set_cost t x c) ≡ true
    unfolding after_set_cost
    after_set_cost_lem x c =
        let r = slot_of (pool_of t) x in
        stays_or_new (λ u. well_formed u ≡ true) (named_refusals t x) h
        (λ z. kept_well (cost_set (pool_of t) r c) (kept_cost kept r c (found_occupied (pool_of t) x (can_name t x z))))

    pub after_clear_lem : well_formed (after_clear t) ≡ true
    unfolding after_clear
    after_clear_lem = stays_or_new (λ u. well_formed u ≡ true) (broken t ∷ []) h (λ _. kept_well (cleared (pool_of t)) (kept_cleared kept))

-- ---- the pool that a table means after a call: the step of module 8 unless the call is refused, whatever the table held

module _ (t : List ℕ) where
  pub pool_after_make : (l : Limits) → pool_of (after_make t l) ≡ kept_unless (make_refusals t l) (pool_of t) (made l (slot_count (pool_of t)))
  unfolding after_make
  pool_after_make l =
      let n = slots_in (length t) in
      after_kept pool_of (make_refusals t l) t (table_of (made l n))
      ∙ ap (kept_unless (make_refusals t l) (pool_of t)) (pool_table (made l n) (whole_made l n) ∙ ap (made l) (sym (slot_count_lem t)))

  pub pool_after_add : (e : Entry) (listed : List ℕ)
      → pool_of (after_add t e listed) ≡ kept_unless (add_refusals t e listed) (pool_of t) (added (pool_of t) e listed)
  unfolding after_add
  pool_after_add e listed =
      let q = added (pool_of t) e listed in
      after_kept pool_of (add_refusals t e listed) t (table_of q)
      ∙ ap (kept_unless (add_refusals t e listed) (pool_of t)) (pool_table q (whole_added (pool_of t) (whole_pool t) e listed))

  pub pool_after_remove : (x : Txid)
      → pool_of (after_remove t x) ≡ kept_unless (named_refusals t x) (pool_of t) (removed (pool_of t) (slot_of (pool_of t) x))
  unfolding after_remove
  pool_after_remove x =
      let r = slot_of (pool_of t) x in
      after_kept pool_of (named_refusals t x) t (table_of (removed (pool_of t) r))
      ∙ ap (kept_unless (named_refusals t x) (pool_of t)) (pool_table (removed (pool_of t) r) (whole_removed (pool_of t) (whole_pool t) r))

  pub pool_after_set_cost : (x : Txid) (c : ℕ)
      → pool_of (after_set_cost t x c) ≡ kept_unless (named_refusals t x) (pool_of t) (cost_set (pool_of t) (slot_of (pool_of t) x) c)
  unfolding after_set_cost
  pool_after_set_cost x c =
      let r = slot_of (pool_of t) x in
      after_kept pool_of (named_refusals t x) t (table_of (cost_set (pool_of t) r c))
      ∙ ap (kept_unless (named_refusals t x) (pool_of t)) (pool_table (cost_set (pool_of t) r c) (whole_cost (pool_of t) (whole_pool t) r c))

  pub pool_after_clear : pool_of (after_clear t) ≡ kept_unless (broken t ∷ []) (pool_of t) (cleared (pool_of t))
  unfolding after_clear
  pool_after_clear =
      after_kept pool_of (broken t ∷ []) t (table_of (cleared (pool_of t)))
      ∙ ap (kept_unless (broken t ∷ []) (pool_of t)) (pool_table (cleared (pool_of t)) (whole_cleared (pool_of t) (whole_pool t)))

-- ---- any call

either_way : {A : Type 0} (ls : List Line) (a : A) → a ≡ kept_unless ls a a
either_way {A} ls a = stays_or_new (λ (b : A). a ≡ b) ls refl (λ _. refl)

abbrev pub refusals_to : List ℕ → Call → List Line
refusals_to t (make l) = make_refusals t l
refusals_to t (add e listed) = add_refusals t e listed
refusals_to t (remove x) = named_refusals t x
refusals_to t (set_cost x c) = named_refusals t x
refusals_to t clear = broken t ∷ []
refusals_to t totals = broken t ∷ []
refusals_to t (template w room) = template_refusals t w room

abbrev pub step_of : Pool → Call → Pool
step_of p (make l) = made l (slot_count p)
step_of p (add e listed) = added p e listed
step_of p (remove x) = removed p (slot_of p x)
step_of p (set_cost x c) = cost_set p (slot_of p x) c
step_of p clear = cleared p
step_of p totals = p
step_of p (template w room) = p

module _ (t : List ℕ) where
  pub answer_is : (c : Call) → answer_to t c ≡ answer_of (refusals_to t c)
  unfolding make_answer add_reply named_reply clear_answer totals_reply template_reply
  answer_is (make l) = refl
  answer_is (add e listed) = answered (add_refusals t e listed) no_slot _ (λ (r : Placed). r.answer) refl (λ k. refl)
  answer_is (remove x) = answered (named_refusals t x) no_slot _ (λ (r : Placed). r.answer) refl (λ k. refl)
  answer_is (set_cost x c) = answered (named_refusals t x) no_slot _ (λ (r : Placed). r.answer) refl (λ k. refl)
  answer_is clear = refl
  answer_is totals = answered (broken t ∷ []) no_totals _ (λ (r : Totals). r.answer) refl (λ k. refl)
  answer_is (template w room) = answered (template_refusals t w room) refusal _ (λ (r : Reply). r.answer) refl (λ k. refl)

  pub well_after : well_formed t ≡ true → (c : Call) → well_formed (table_after t c) ≡ true
  well_after h (make l) = after_make_lem t h l
  well_after h (add e listed) = after_add_lem t h e listed
  well_after h (remove x) = after_remove_lem t h x
  well_after h (set_cost x c) = after_set_cost_lem t h x c
  well_after h clear = after_clear_lem t h
  well_after h totals = h
  well_after h (template w room) = h

  pub pool_after : (c : Call) → pool_of (table_after t c) ≡ kept_unless (refusals_to t c) (pool_of t) (step_of (pool_of t) c)
  pool_after (make l) = pool_after_make t l
  pool_after (add e listed) = pool_after_add t e listed
  pool_after (remove x) = pool_after_remove t x
  pool_after (set_cost x c) = pool_after_set_cost t x c
  pool_after clear = pool_after_clear t
  pool_after totals = either_way (broken t ∷ []) (pool_of t)
  pool_after (template w room) = either_way (template_refusals t w room) (pool_of t)

  lines_stay : (c : Call) → eqb (answer_of (refusals_to t c)) 0 ≡ false → table_after t c ≡ t
  unfolding after_make after_add after_remove after_set_cost after_clear
  lines_stay (make l) e = sym (keeps t _ (record { answer = refl; number = e }))
  lines_stay (add i listed) e = sym (keeps t _ (record { answer = refl; number = e }))
  lines_stay (remove x) e = sym (keeps t _ (record { answer = refl; number = e }))
  lines_stay (set_cost x c) e = sym (keeps t _ (record { answer = refl; number = e }))
  lines_stay clear e = sym (keeps t _ (record { answer = refl; number = e }))
  lines_stay totals e = refl
  lines_stay (template w room) e = refl

  -- "A refusal .. all lent memory stays."
  pub refused_stays : (c : Call) → eqb (answer_to t c) 0 ≡ false → table_after t c ≡ t
  refused_stays c e = lines_stay c (ap (λ (k : ℕ). eqb k 0) (sym (answer_is c)) ∙ e)

  pub done_pool : (c : Call) → answer_to t c ≡ 0 → pool_of (table_after t c) ≡ step_of (pool_of t) c
  done_pool c z = pool_after c ∙ sym (writes (pool_of t) (step_of (pool_of t) c) (record { answer = sym (answer_is c) ∙ z }) refl)
