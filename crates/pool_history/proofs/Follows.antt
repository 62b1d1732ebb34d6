-- After any sequence of calls the table is well-formed, and the account of its events is right. Assumes nothing.
use mathlib.Core.Path.{◌≡◌, sym, ap, ◌∙◌}
use mathlib.Core.Bool.{true}
use mathlib.Core.List.{List, [], ◌∷◌}
use Prim.Native.Nat.{ℕ}
use lib.Dec.{eqb}
use lib.ListN.{length}
use borrow.Author.Tests.{eqb-true}
use Rattle.lists.proofs.Bools.{cases}
use Rattle.refusals.specs.Refusals.{answer_of}
use Rattle.pool_table.specs.declared.Limits.{Limits}
use Rattle.pool_table.specs.Pool.{slot_at, slot_count}
use Rattle.pool_table.specs.Words.{is_legal, row_at, slots_in, pool_of, table_of}
use Rattle.pool_table.specs.Changes.{made}
use Rattle.pool_table.specs.WellFormed.{well_formed}
use Rattle.pool_table.proofs.Rows.{slot_count_lem}
use Rattle.pool_table.proofs.Theorems.{legal_long, table_pool}
use Rattle.pool_rules.specs.Module8.{slot_of}
use Rattle.pool_rules.specs.Calls.{make_answer, after_make}
use Rattle.pool_rules.proofs.Sound.{well_legal}
use Rattle.pool_history.specs.History.{Call, make, add, remove, set_cost, clear, totals, template, answer_to, table_after, Event, History, begun}
use Rattle.pool_history.specs.History.{next}
use Rattle.pool_history.specs.Standing.{standing}
use Rattle.pool_history.proofs.Plain.{Plain}
use Rattle.pool_history.proofs.Kept.{kept_plain, well_kept}
use Rattle.pool_history.proofs.Answers.{can_make, can_add, can_name}
use Rattle.pool_history.proofs.Steps.{refusals_to, step_of, answer_is, make_well, well_after, refused_stays, done_pool}
use Rattle.pool_history.proofs.Places.{in_at}
use Rattle.pool_history.proofs.Account.{Account, account, after, account_done, account_refused, Right, right_totals, right_template}
use Rattle.pool_history.proofs.Account.{right_made, right_cleared}
use Rattle.pool_history.proofs.AccountLess.{right_removed, right_cost}
use Rattle.pool_history.proofs.AccountMore.{right_added}
use Rattle.pool_history.proofs.Fitting.{Fitting, fitting_made, fitting_step}
use Rattle.pool_history.proofs.Standing.{pool_stands}

pub record Follows (lent : List ℕ) (es : List Event) (t : List ℕ) : Type 0 where
  pub legal : is_legal (length lent) ≡ true
  pub well : well_formed t ≡ true
  pub right : Right (slots_in (length lent)) (account (slots_in (length lent)) es) (pool_of t)
  pub fit : (s : ℕ) → Fitting (slot_at (pool_of t) s)

-- ---- a call that succeeds

right_step : {n : ℕ} {k : Account} (t : List ℕ) → well_formed t ≡ true → Right n k (pool_of t) → (c : Call) → answer_to t c ≡ 0
    → Right n (after n c k) (step_of (pool_of t) c)
right_step {n} {k} t well h c z = go c (sym (answer_is t c) ∙ z)
  where
    go : (c : Call) → answer_of (refusals_to t c) ≡ 0 → Right n (after n c k) (step_of (pool_of t) c)
    go (make l) z = rw h.count (right_made n k l)
    go (add e listed) z =
        let kept = well_kept t well in
        right_added h (kept_plain kept) kept.whole kept.few e listed (can_add t e listed z)
    go (remove x) z =
        let kept = well_kept t well in
        right_removed h (kept_plain kept) kept.whole x (slot_of (pool_of t) x) (in_at (pool_of t) x (can_name t x z))
    go (set_cost x c) z =
        let kept = well_kept t well in
        right_cost h (kept_plain kept) x (slot_of (pool_of t) x) c (in_at (pool_of t) x (can_name t x z))
    go clear z = right_cleared h
    go totals z = right_totals h
    go (template w room) z = right_template h w room

-- ---- any sequence

follows_begun : (lent : List ℕ) (l : Limits) → make_answer lent l ≡ 0 → Follows lent (record { call = make l; done = true } ∷ []) (after_make lent l)
follows_begun lent l z =
    let n = slots_in (length lent) in
    let h : Right n (account n (record { call = make l; done = true } ∷ [])) (made l n) =
    rw (account_done n (make l) []) (right_made n (account n []) l) in
    record {
      legal = (can_make lent l (sym (answer_is lent (make l)) ∙ z)).0;
      well = make_well lent l z;
      right = rw (done_pool lent (make l) z, slot_count_lem lent) h;
      fit = rw (done_pool lent (make l) z) (fitting_made l (slot_count (pool_of lent)));
    }

follows_next : {lent : List ℕ} {es : List Event} {t : List ℕ} (c : Call) → Follows lent es t
    → Follows lent (record { call = c; done = eqb (answer_to t c) 0 } ∷ es) (table_after t c)
follows_next {lent} {es} {t} c h =
    let n = slots_in (length lent) in
    cases (eqb (answer_to t c) 0)
    (λ e.
    let z : answer_to t c ≡ 0 = eqb-true (answer_to t c) 0 e in
    record {
      legal = h.legal;
      well = well_after t h.well c;
      right = rw (e, done_pool t c z, account_done n c es) (right_step t h.well h.right c z);
      fit = rw (done_pool t c z) (fitting_step (pool_of t) h.fit c);
    })
    (λ e.
    record {
      legal = h.legal;
      well = well_after t h.well c;
      right = rw (e, refused_stays t c e, account_refused n c es) h.right;
      fit = rw (refused_stays t c e) h.fit;
    })

pub follows : {lent : List ℕ} {es : List Event} {t : List ℕ} → History lent es t → Follows lent es t
follows {lent} (begun l z) = follows_begun lent l z
follows (next c h) = follows_next c (follows h)

-- ---- the table itself

module _ {lent : List ℕ} {es : List Event} {t : List ℕ} (h : Follows lent es t) where
  abbrev n : ℕ
  n = slots_in (length lent)

  pub follows_plain : Plain (pool_of t)
  follows_plain = kept_plain (well_kept t h.well)

  pub follows_length : length t ≡ length lent
  follows_length =
      let e : slots_in (length t) ≡ n = sym (slot_count_lem t) ∙ h.right.count in
      sym (legal_long (length t) (well_legal t h.well)) ∙ ap row_at e ∙ legal_long (length lent) h.legal

  pub follows_pool : pool_of t ≡ standing n es
  follows_pool = pool_stands es h.right follows_plain (well_kept t h.well).whole h.fit

  pub follows_table : t ≡ table_of (standing n es)
  follows_table = sym (table_pool t (well_legal t h.well)) ∙ ap table_of follows_pool
