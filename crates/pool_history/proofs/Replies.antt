-- What a call of a history answers, by what stands: its refusals without 12, and its reply. Assumes nothing.
use mathlib.Core.Path.{◌≡◌, refl, sym, ap, ap₂, ◌∙◌}
use mathlib.Core.Bool.{Bool, true, false, not}
use mathlib.Core.List.{List, [], ◌∷◌}
use Prim.Native.Nat.{ℕ, ◌+◌, ◌≤◌}
use native.Mathlib.Omega.{arith}
use lib.Dec.{eqb}
use lib.ListN.{length}
use borrow.Author.Tests.{eq-eqb, eqb-true, eqb-false, not-true}
use Rattle.lists.specs.Below.{any_from, count_from}
use Rattle.lists.specs.Lists.{all_of, overwrite}
use Rattle.lists.proofs.Below.{none_at, at_none}
use Rattle.lists.proofs.Bools.{cases, cond_where, and_left, and_right, true_together}
use Rattle.lists.proofs.Ranges.{count_parts, count_all, count_none, count_zero}
use Rattle.refusals.specs.Refusals.{Line, line, answer_of, reply_of, kept_unless, refusal, success}
use Rattle.txids.specs.declared.Txid.{Txid}
use Rattle.pool_table.specs.declared.Entry.{Entry}
use Rattle.pool_table.specs.declared.Limits.{Limits}
use Rattle.pool_table.specs.Pool.{Pool, slot_count, occupied, entries}
use Rattle.pool_table.specs.Words.{slots_in, pool_of}
use Rattle.pool_table.specs.Ranges.{limits_in_range}
use Rattle.pool_rules.specs.Module8.{is_in, slot_of, is_full}
use Rattle.pool_rules.specs.Calls.{no_slot, placed, make_refusals, add_refusals, add_reply, named_refusals, named_reply, totals_reply}
use Rattle.pool_rules.proofs.Sound.{well_legal}
use Rattle.template_rules.specs.Filling as filling
use Rattle.template_rules.specs.Calls.{template_refusals, template_reply, template_room}
use Rattle.pool_history.specs.History.{Call, make, add, remove, set_cost, clear, totals, template, answer_to, Event, History, begun, next}
use Rattle.pool_history.specs.Standing.{stands, how_many, total_weight, board, lowest_unused, standing}
use Rattle.pool_history.specs.Replies.{add_refusals_by, named_refusals_by, template_refusals_by, refusals_by, events_of, calls_of}
use Rattle.pool_history.proofs.Answers.{can_make}
use Rattle.pool_history.proofs.Steps.{refusals_to, answer_is}
use Rattle.pool_history.proofs.Places.{At, in_at, at_in, at_slot}
use Rattle.pool_history.proofs.AccountMore.{lowest_unused_lem}
use Rattle.pool_history.proofs.Standing.{standing_limits}
use Rattle.pool_history.proofs.Follows.{Follows, follows, follows_plain, follows_pool}

-- ---- a pool is full where it has as many entries as slots

pub full_count : (p : Pool) → is_full p ≡ eqb (entries p) (slot_count p)
unfolding is_full entries
full_count p =
    let m = slot_count p in
    let free : ℕ → Bool = λ s. not (occupied p s) in
    let both : count_from (λ s. true) m 0 ≡ count_from (occupied p) m 0 + count_from free m 0 =
    count_parts (λ s. true) (occupied p) free m 0 (λ s. cases (occupied p s) (λ e. rw e) (λ e. rw e)) in
    true_together (is_full p) (eqb (entries p) m)
    (λ e.
    let z : count_from free m 0 ≡ 0 =
    count_none free m (λ s l. none_at free m 0 (not-true (any_from free m 0) e) s (omega arith) (omega arith)) in
    eq-eqb (entries p) m (omega (arith, count_all m 0)))
    (λ e.
    let c : count_from (occupied p) m 0 ≡ m = eqb-true (entries p) m e in
    let z : count_from free m 0 ≤ 0 = omega (arith, count_all m 0) in
    ap not (at_none free m 0 (λ s _ l. count_zero free m z s (omega arith))))

-- ---- a number that no line has is not given

not_given : (k : ℕ) (ls : List Line) → eqb 0 k ≡ false → all_of (λ l. not (eqb l.number k)) ls ≡ true → eqb (answer_of ls) k ≡ false
unfolding answer_of all_of
not_given k [] z e = z
not_given k (l ∷ ls) z e =
    cond_where (λ (m : ℕ). eqb m k ≡ false) l.holds
    (λ _. not-true (eqb l.number k) (and_left (not (eqb l.number k)) (all_of (λ l. not (eqb l.number k)) ls) e))
    (λ _. not_given k ls z (and_right (not (eqb l.number k)) (all_of (λ l. not (eqb l.number k)) ls) e))

not_twelve : (n : ℕ) (es : List Event) (c : Call) → all_of (λ l. not (eqb l.number 12)) (refusals_by n es c) ≡ true
unfolding refusals_by add_refusals_by named_refusals_by template_refusals_by all_of
not_twelve n es (make l) = refl
not_twelve n es (add e listed) = refl
not_twelve n es (remove x) = refl
not_twelve n es (set_cost x c) = refl
not_twelve n es clear = refl
not_twelve n es totals = refl
not_twelve n es (template w room) = refl

-- ---- the refusals of a history's calls

module _ {lent : List ℕ} {es : List Event} {t : List ℕ} (h : Follows lent es t) where
  abbrev n : ℕ
  n = slots_in (length lent)

  pub follows_in : (x : Txid) → is_in (pool_of t) x ≡ stands es x
  follows_in x =
      true_together (is_in (pool_of t) x) (stands es x)
      (λ e. (h.right.told x (slot_of (pool_of t) x) (in_at (pool_of t) x e)).stands)
      (λ e. at_in (pool_of t) x ((board n es).place x) (h.right.at x e))

  pub follows_at : (x : Txid) → stands es x ≡ true → At (pool_of t) x (slot_of (pool_of t) x)
  follows_at x e = in_at (pool_of t) x (follows_in x ∙ e)

  pub follows_slot : (x : Txid) → stands es x ≡ true → slot_of (pool_of t) x ≡ (board n es).place x
  follows_slot x e = at_slot (follows_plain h) (h.right.at x e)

  pub follows_entries : entries (pool_of t) ≡ how_many es
  unfolding how_many
  follows_entries = omega (arith, h.right.entries)

  pub follows_total : (pool_of t).total ≡ total_weight es
  unfolding total_weight
  follows_total = omega (arith, h.right.total)

  follows_full : is_full (pool_of t) ≡ eqb (how_many es) n
  follows_full = full_count (pool_of t) ∙ ap₂ eqb follows_entries h.right.count

  pub add_lines : (e : Entry) (listed : List ℕ) → add_refusals t e listed ≡ line 12 false ∷ add_refusals_by n es e listed
  unfolding add_refusals add_refusals_by
  add_lines e listed = rw (h.well, follows_in e.txid, follows_full, follows_pool h, standing_limits n es)

  pub named_lines : (x : Txid) → named_refusals t x ≡ line 12 false ∷ named_refusals_by es x
  unfolding named_refusals named_refusals_by
  named_lines x = rw (h.well, follows_in x)

  pub make_lines : (l : Limits) → make_refusals t l ≡ line 3 (not (limits_in_range l)) ∷ []
  unfolding make_refusals
  make_lines l = rw (well_legal t h.well)

  pub template_lines : (w : filling.Settings) (room : List ℕ) → template_refusals t w room ≡ line 12 false ∷ template_refusals_by n es w room
  unfolding template_refusals template_refusals_by
  template_lines w room = rw (h.well, h.right.count, follows_entries, follows_pool h)

  pub follows_answer : (c : Call) → answer_to t c ≡ answer_of (refusals_by n es c)
  unfolding answer_of refusals_by
  follows_answer c = answer_is t c ∙ go c
    where
      go : (c : Call) → answer_of (refusals_to t c) ≡ answer_of (refusals_by n es c)
      go (make l) = ap answer_of (make_lines l)
      go (add e listed) = ap answer_of (add_lines e listed)
      go (remove x) = ap answer_of (named_lines x)
      go (set_cost x c) = ap answer_of (named_lines x)
      go clear = rw h.well
      go totals = rw h.well
      go (template w room) = ap answer_of (template_lines w room)

  pub follows_never : (c : Call) → answer_to t c ≡ 12 → ⊥
  follows_never c z =
      eqb-false (answer_of (refusals_by n es c)) 12 (not_given 12 (refusals_by n es c) refl (not_twelve n es c)) (sym (follows_answer c) ∙ z)

  -- ---- replies

  pub follows_add : (e : Entry) (listed : List ℕ)
      → add_reply t e listed ≡ reply_of no_slot (add_refusals_by n es e listed) (placed (lowest_unused n (board n es)))
  unfolding add_reply reply_of answer_of
  follows_add e listed = rw (add_lines e listed, lowest_unused_lem h.right)

  pub follows_named : (x : Txid) → named_reply t x ≡ reply_of no_slot (named_refusals_by es x) (placed ((board n es).place x))
  unfolding named_reply named_refusals_by reply_of answer_of
  follows_named x =
      cases (stands es x)
      (λ e. rw (named_lines x, e, follows_slot x e))
      (λ e. rw (named_lines x, e))

  pub follows_totals : totals_reply t ≡ record { answer = 0; entries = how_many es; weight = total_weight es }
  unfolding totals_reply reply_of answer_of
  follows_totals = rw (h.well, follows_entries, follows_total)

  pub follows_template : (w : filling.Settings) (room : List ℕ)
      → template_reply t w room ≡ reply_of refusal (template_refusals_by n es w room) (success (length (filling.template (standing n es) w)))
  unfolding template_reply reply_of answer_of
  follows_template w room = rw (template_lines w room, follows_pool h)

  pub follows_room : (w : filling.Settings) (room : List ℕ)
      → template_room t w room ≡ kept_unless (template_refusals_by n es w room) room (overwrite (filling.template (standing n es) w) room)
  unfolding template_room kept_unless answer_of
  follows_room w room = rw (template_lines w room, follows_pool h)

-- ---- the calls alone

pub follows_calls : {lent : List ℕ} {es : List Event} {t : List ℕ} → History lent es t → es ≡ events_of (slots_in (length lent)) (calls_of es)
unfolding events_of refusals_by answer_of
follows_calls {lent} (begun l z) = rw (can_make lent l (sym (answer_is lent (make l)) ∙ z)).1
follows_calls {lent} (next {es = es} {t = t} c h) =
    let n = slots_in (length lent) in
    ap (λ (k : ℕ). record { call = c; done = eqb k 0 } ∷ es) (follows_answer (follows h) c)
    ∙ ap (λ (fs : List Event). record { call = c; done = eqb (answer_of (refusals_by n fs c)) 0 } ∷ fs) (follows_calls h)
