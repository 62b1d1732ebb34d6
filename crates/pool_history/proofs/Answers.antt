-- What an answer of 0 says: no line of a call's refusals holds, so that the call's step can be made. Assumes nothing.
use mathlib.Core.Path.{◌≡◌, refl, sym, ap, ◌∙◌}
use mathlib.Core.Bool.{true, false, ◌&&◌}
use mathlib.Core.List.{List}
use Prim.Native.Nat.{ℕ, zero, suc, ◌≤◌}
use lib.Dec.{eqb}
use lib.ListN.{length}
use borrow.Author.Tests.{eqb-true, ltb-false, not-false}
use Rattle.lists.proofs.Below.{first_has}
use Rattle.lists.proofs.Bools.{clash, cases, and_both, and_left, cond_where, is_false}
use Rattle.refusals.specs.Refusals.{Line, answer_of, kept_unless}
use Rattle.refusals.proofs.Lines.{line_at, numbered, Past, none_past, past, stop}
use Rattle.txids.specs.declared.Txid.{Txid}
use Rattle.pool_table.specs.declared.Entry.{Entry}
use Rattle.pool_table.specs.declared.Limits.{Limits}
use Rattle.pool_table.specs.Pool.{Pool, slot_count, occupied, entries}
use Rattle.pool_table.specs.Words.{is_legal, pool_of}
use Rattle.pool_table.specs.Ranges.{limits_in_range, entry_in_range}
use Rattle.pool_rules.specs.Module8.{holds, is_in, slot_of}
use Rattle.pool_rules.specs.Calls.{make_refusals, add_refusals, named_refusals}
use Rattle.template_rules.specs.Filling.{Settings}
use Rattle.template_rules.specs.Calls.{template_refusals}
use Rattle.pool_history.proofs.Added.{Addable}

-- ---- any refusals

module _ (ls : List Line) (numbers : numbered ls ≡ true) (z : answer_of ls ≡ 0) where
  not_next : {n : ℕ} → Past ls n → (line_at ls n).holds ≡ false
  not_next {n} p =
      is_false (line_at ls n).holds
      (λ h. let g = stop p h in clash (ap (λ (k : ℕ). eqb k 0) (sym g.answer ∙ z)) g.number)

  all_before : (n : ℕ) → Past ls n
  all_before zero = none_past numbers
  all_before (suc n) = past (all_before n) (not_next (all_before n))

  pub no_line : (n : ℕ) → (line_at ls n).holds ≡ false
  no_line n = not_next (all_before n)

-- what holds of memory that stays, and on success of what is written, holds of what the call leaves
pub stays_or_new : {A : Type 0} (P : A → Type 0) (ls : List Line) {old new : A} → P old → (answer_of ls ≡ 0 → P new) → P (kept_unless ls old new)
unfolding kept_unless
stays_or_new P ls o n = cond_where P (eqb (answer_of ls) 0) (λ e. n (eqb-true (answer_of ls) 0 e)) (λ _. o)

-- what is read of it is read of what stayed, or of what is new
pub after_kept : {A B : Type 0} (f : A → B) (ls : List Line) (old new : A) → f (kept_unless ls old new) ≡ kept_unless ls (f old) (f new)
unfolding kept_unless
after_kept f ls old new = cases (eqb (answer_of ls) 0) (λ e. rw e) (λ e. rw e)

-- ---- the calls

module _ (t : List ℕ) where
  pub can_make : (l : Limits) → answer_of (make_refusals t l) ≡ 0 → (is_legal (length t) ≡ true) × (limits_in_range l ≡ true)
  unfolding make_refusals
  can_make l z =
      and_both (is_legal (length t)) (limits_in_range l)
      (not-false (is_legal (length t) && limits_in_range l) (no_line (make_refusals t l) refl z 0))

  pub can_add : (e : Entry) (listed : List ℕ) → answer_of (add_refusals t e listed) ≡ 0 → Addable (pool_of t) e listed
  unfolding add_refusals
  can_add e listed z =
      let no : (n : ℕ) → (line_at (add_refusals t e listed) n).holds ≡ false = no_line (add_refusals t e listed) refl z in
      record { ranged = not-false (entry_in_range e) (no 2); absent = no 3; room = no 4; few = no 5; light = no 6 }

  -- the txid is in the pool
  pub can_name : (x : Txid) → answer_of (named_refusals t x) ≡ 0 → is_in (pool_of t) x ≡ true
  unfolding named_refusals
  can_name x z = not-false (is_in (pool_of t) x) (no_line (named_refusals t x) refl z 1)

  -- the room has a place for each entry
  pub can_template : (w : Settings) (room : List ℕ) → answer_of (template_refusals t w room) ≡ 0 → entries (pool_of t) ≤ length room
  unfolding template_refusals
  can_template w room z = ltb-false (length room) (entries (pool_of t)) (no_line (template_refusals t w room) refl z 2)

-- a txid's slot is occupied
pub found_occupied : (p : Pool) (x : Txid) → is_in p x ≡ true → occupied p (slot_of p x) ≡ true
unfolding is_in slot_of holds
found_occupied p x h = and_left (occupied p (slot_of p x)) _ (first_has (holds p x) (slot_count p) 0 h)
