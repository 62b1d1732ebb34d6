-- For readers: whatever lines there were, the table is none, or one that a history of pool calls leaves (pool_history), so that all that is
-- proved of histories holds of it; and which refusals no line is answered with. No proof of a function cites these. Assumes nothing.
use mathlib.Core.Path.{◌≡◌, refl, sym, ap, ◌∙◌, subst}
use mathlib.Core.Bool.{Bool, true, false, cond, not, ◌&&◌, ◌||◌}
use mathlib.Core.List.{List, [], ◌∷◌}
use Prim.Native.Nat.{ℕ, ◌%◌, ◌≤◌}
use native.Mathlib.Omega.{arith}
use lib.Dec.{eqb, ltb, leb}
use lib.ListN.{length, take, drop, length-append, length-replicate}
use borrow.Author.Tests.{eqb-true, eq-eqb, ne_eqb, le-ltb}
use Rattle.lists.specs.Lists.{all_of, same}
use Rattle.lists.specs.Below.{count_from}
use Rattle.lists.proofs.Ranges.{count_le}
use Rattle.lists.proofs.Bools.{cases, cond_where, and_left, and_right}
use Rattle.refusals.specs.declared.Reply.{Reply}
use Rattle.refusals.specs.Refusals.{Line, answer_of, differ, short}
use Rattle.refusals.proofs.Lines.{answered}
use Rattle.slotsets.specs.SlotSets.{capacity}
use Rattle.texts.specs.Numerals.{signed_of, are_numbers, is_signed}
use Rattle.texts.specs.Places.{split}
use Rattle.texts.specs.Hex.{is_hex64, hex_bytes}
use Rattle.texts.proofs.HexText.{bytes_length}
use Rattle.pool_table.specs.declared.Limits.{Limits}
use Rattle.pool_table.specs.declared.Entry.{Entry}
use Rattle.pool_table.specs.Pool.{slot_count, occupied, entries}
use Rattle.pool_table.specs.Words.{slots_in, is_legal, pool_of}
use Rattle.pool_table.specs.WellFormed.{well_formed}
use Rattle.pool_rules.specs.declared.Placed.{Placed}
use Rattle.pool_rules.specs.Calls.{make_answer, add_refusals, add_reply, clear_answer}
use Rattle.pool_history.specs.History as history
use Rattle.pool_history.proofs.Theorems.{never_ill_formed}
use Rattle.template_rules.specs.declared.Terms.{Terms}
use Rattle.template_rules.specs.Calls.{template_refusals, template_reply}
use Rattle.pool_reader.specs.Requests.{Request, make, add, remove, set_cost, clear, totals, delta, mark, template, malformed, request_of}
use Rattle.pool_reader.specs.Requests.{word_at, are_txids, bytes_in, as_add, as_remove, as_set_cost, as_make, as_alone, as_delta, as_mark, as_template}
use Rattle.pool_reader.specs.Requests.{by_plain_word, by_word, longest_line}
use Rattle.pool_reader.specs.Requests.{make_word, add_word, remove_word, set_cost_word, clear_word, totals_word, delta_word, mark_word, template_word}
use Rattle.pool_reader.proofs.Reading.{hex_length}
use Rattle.pool_session.specs.Session.{Session, no_pool, slots_of, lent_table, after, after_making, setting_answer}
use Rattle.pool_session.specs.Answers.{lent_room, with_terms}
use Rattle.pool_session.specs.Program.{behind_lines}
use Rattle.pool_session.proofs.Sizes.{Table, none, some, some_slots, few, table_slots, matched_lines}

-- a table that a history leaves: of a making that succeeded, and of any calls after it
pub data Made : List ℕ → Type 0 where
  made : {lent : List ℕ} {es : List history.Event} {t : List ℕ} → history.History lent es t → Made t

-- ---- after any lines: no table, or one of a history

pub data Held : List ℕ → Type 0 where
  nothing : {t : List ℕ} → t ≡ [] → Held t
  something : {t : List ℕ} → Made t → Held t

held : {n : ℕ} {t : List ℕ} → Table n t → Held t
held (none e z) = nothing z
held (some long h) = something (made h)

pub after_any_lines : (ls : List (List ℕ)) → Held (behind_lines no_pool ls).table
after_any_lines ls = held (matched_lines ls).table

-- ---- once a pool is made, there is one, whatever comes

-- a make that succeeds begins a history, whatever stood before
pub make_makes : (s : Session) (n : ℕ) (l : Limits) → make_answer (lent_table n) l ≡ 0 → Made (after s (make n l)).table
unfolding after_making
make_makes s n l e = rw (eq-eqb (make_answer (lent_table n) l) 0 e) (made (history.begun l e))

-- one that is refused leaves the table
making : (n : ℕ) (l : Limits) (s : Session) → Made s.table → Made (after s (make n l)).table
unfolding after_making
making n l s m =
    cases (eqb (make_answer (lent_table n) l) 0)
    (λ e. make_makes s n l (eqb-true (make_answer (lent_table n) l) 0 e))
    (λ e. rw e m)

goes_on : (s : Session) (q : Request) → Made s.table → Made (after s q).table
goes_on s (make n l) m = making n l s m
goes_on s (add e listed) (made h) = made (history.next (history.add e listed) h)
goes_on s (remove x) (made h) = made (history.next (history.remove x) h)
goes_on s (set_cost x c) (made h) = made (history.next (history.set_cost x c) h)
goes_on s clear (made h) = made (history.next history.clear h)
goes_on s totals m = m
goes_on s (delta k d) m = m
goes_on s (mark k b) m = m
goes_on s (template w) m = m
goes_on s malformed m = m

pub stays_made : (s : Session) (ls : List (List ℕ)) → Made s.table → Made (behind_lines s ls).table
unfolding behind_lines
stays_made s [] m = m
stays_made s (l ∷ ls) m = stays_made (after s (request_of l)) ls (goes_on s (request_of l) m)

-- ---- and 12 is not answered again

-- no call finds it ill-formed
pub never_12 : {t : List ℕ} → Made t → (c : history.Call) → history.answer_to t c ≡ 12 → ⊥
never_12 (made h) c = never_ill_formed h c

-- a table of no words is
nothing_12 : (t : List ℕ) → t ≡ [] → clear_answer t ≡ 12
unfolding clear_answer answer_of well_formed is_legal slots_in
nothing_12 t z = rw z

made_slots : {n : ℕ} {t : List ℕ} → Table n t → Made t → 1 ≤ n
made_slots {n} {t} (none e z) m = absurd (never_12 m history.clear (nothing_12 t z))
made_slots (some long h) m = some_slots long h

setting_slots : (n k : ℕ) → 1 ≤ n → setting_answer n k ≡ 12 → ⊥
unfolding setting_answer answer_of
setting_slots n k h =
    rw (ne_eqb n 0 (λ (z : n ≡ 0). omega arith))
    (cond_where (λ (a : ℕ). a ≡ 12 → ⊥) (not (ltb k n)) (λ _ e. omega (arith, e)) (λ _ e. omega (arith, e)))

-- nor is a delta or a mark answered with it
pub setting_never_12 : (ls : List (List ℕ)) (k : ℕ) → Made (behind_lines no_pool ls).table → setting_answer (slots_of (behind_lines no_pool ls)) k ≡ 12 → ⊥
setting_never_12 ls k m = setting_slots (slots_of (behind_lines no_pool ls)) k (made_slots (matched_lines ls).table m)

-- ---- a number that no line of a list has, or one whose condition does not hold, is not answered

data Others (n : ℕ) : List Line → Type 0 where
  end : (0 ≡ n → ⊥) → Others n []
  other : {l : Line} {ls : List Line} → (l.number ≡ n → ⊥) → Others n ls → Others n (l ∷ ls)
  off : {l : Line} {ls : List Line} → l.holds ≡ false → Others n ls → Others n (l ∷ ls)

never : {n : ℕ} {ls : List Line} → Others n ls → answer_of ls ≡ n → ⊥
unfolding answer_of
never (end h) a = h a
never {n} (other {l} {ls} h o) a = cond_where (λ (k : ℕ). k ≡ n → ⊥) l.holds {x = l.number} {y = answer_of ls} (λ _. h) (λ _. never o) a
never {n} (off {l} {ls} h o) a = never o (ap (λ (b : Bool). cond b l.number (answer_of ls)) (sym h) ∙ a)

-- ---- an add is not answered with 1: the parents of a line are whole txids

bytes_whole : (ws : List (List ℕ)) → are_txids ws ≡ true → length (bytes_in ws) % 32 ≡ 0
unfolding are_txids bytes_in all_of
bytes_whole [] h = refl
bytes_whole (w ∷ ws) h =
    let first = and_left (is_hex64 w) (all_of is_hex64 ws) h in
    let rest = bytes_whole ws (and_right (is_hex64 w) (all_of is_hex64 ws) h) in
    omega (arith, rest, bytes_length w, hex_length w first, length-append (hex_bytes w) (bytes_in ws))

abbrev Whole : Request → Type 0
Whole (add e listed) = length listed % 32 ≡ 0
Whole (make n l) = Unit {0}
Whole (remove x) = Unit {0}
Whole (set_cost x c) = Unit {0}
Whole clear = Unit {0}
Whole totals = Unit {0}
Whole (delta k d) = Unit {0}
Whole (mark k m) = Unit {0}
Whole (template w) = Unit {0}
Whole malformed = Unit {0}

whole_add : (ws : List (List ℕ)) → Whole (as_add ws)
unfolding as_add
whole_add ws =
    let numbers = are_numbers (take 3 (drop 1 ws)) in
    let txids = are_txids (drop 4 ws) in
    let hex = is_hex64 (word_at ws 0) in
    cond_where Whole (leb 4 (length ws) && (hex && (numbers && txids)))
    (λ h. bytes_whole (drop 4 ws)
    (and_right numbers txids (and_right hex (numbers && txids) (and_right (leb 4 (length ws)) (hex && (numbers && txids)) h))))
    (λ _. tt)

whole_plain : (k : List ℕ) (ws : List (List ℕ)) → Whole (by_plain_word k ws)
unfolding by_plain_word as_make as_alone as_delta as_mark as_template
whole_plain k ws =
    cases (same k make_word) (λ e. rw e (cases (eqb (length ws) 4 && are_numbers ws) (λ f. rw f tt) (λ f. rw f tt))) (λ e. rw e
    (cases (same k clear_word) (λ e. rw e (cases (eqb (length ws) 0) (λ f. rw f tt) (λ f. rw f tt))) (λ e. rw e
    (cases (same k totals_word) (λ e. rw e (cases (eqb (length ws) 0) (λ f. rw f tt) (λ f. rw f tt))) (λ e. rw e
    (cases (same k delta_word)
    (λ e. rw e (cases (eqb (length ws) 2 && (are_numbers (take 1 ws) && is_signed (signed_of (word_at ws 1)))) (λ f. rw f tt) (λ f. rw f tt))) (λ e. rw e
    (cases (same k mark_word) (λ e. rw e (cases (eqb (length ws) 2 && are_numbers ws) (λ f. rw f tt) (λ f. rw f tt))) (λ e. rw e
    (cases (same k template_word) (λ e. rw e (cases (eqb (length ws) 3 && are_numbers ws) (λ f. rw f tt) (λ f. rw f tt))) (λ e. rw e tt)))))))))))

whole_word : (k : List ℕ) (ws : List (List ℕ)) → Whole (by_word k ws)
unfolding by_word as_remove as_set_cost
whole_word k ws =
    cases (same k add_word) (λ e. rw e (whole_add ws)) (λ e. rw e
    (cases (same k remove_word) (λ e. rw e (cases (eqb (length ws) 1 && is_hex64 (word_at ws 0)) (λ f. rw f tt) (λ f. rw f tt))) (λ e. rw e
    (cases (same k set_cost_word)
    (λ e. rw e (cases (eqb (length ws) 2 && (is_hex64 (word_at ws 0) && are_numbers (drop 1 ws))) (λ f. rw f tt) (λ f. rw f tt)))
    (λ e. rw e (whole_plain k ws))))))

whole_line : (l : List ℕ) → Whole (request_of l)
unfolding request_of
whole_line l = cases (leb (length l) longest_line) (λ e. rw e (whole_word (word_at (split 32 l) 0) (drop 1 (split 32 l)))) (λ e. rw e tt)

pub add_never_1 : (s : Session) (l : List ℕ) {e : Entry} {listed : List ℕ} → request_of l ≡ add e listed → (add_reply s.table e listed).answer ≡ 1 → ⊥
unfolding add_reply add_refusals
add_never_1 s l {e} {listed} q a =
    let h = subst Whole q (whole_line l) in
    never
    (other (λ z. omega (arith, z)) (off (ap not (eq-eqb (length listed % 32) 0 h))
    (other (λ z. omega (arith, z)) (other (λ z. omega (arith, z)) (other (λ z. omega (arith, z)) (other (λ z. omega (arith, z))
    (other (λ z. omega (arith, z)) (end (λ z. omega (arith, z))))))))))
    (sym (answered (add_refusals s.table e listed) _ _ (λ (r : Placed). r.answer) refl (λ k. refl)) ∙ a)

-- ---- a template is not answered with 1 or 11: there is a delta and a mark for each slot, and a place for each entry

module _ (ls : List (List ℕ)) (w : Terms) where
  abbrev s : Session
  s = behind_lines no_pool ls

  abbrev n : ℕ
  n = slot_count (pool_of s.table)

  slots : n ≡ slots_of s
  slots = table_slots (matched_lines ls).table

  each : (differ (length s.deltas) n || differ (length s.marks) n) ≡ false
  each = rw (eq-eqb (length s.deltas) n (sym slots), eq-eqb (length s.marks) n ((matched_lines ls).marks ∙ sym slots))

  room : short (length lent_room) (entries (pool_of s.table)) ≡ false
  unfolding entries
  room =
      le-ltb (length lent_room) (count_from (occupied (pool_of s.table)) n 0)
      (omega (arith, slots, few (matched_lines ls).table, count_le (occupied (pool_of s.table)) n 0, length-replicate {A = ℕ} capacity 0))

  pub template_never_1 : (template_reply s.table (with_terms s w) lent_room).answer ≡ 1 → ⊥
  unfolding template_reply template_refusals
  template_never_1 a =
      never (other (λ z. omega (arith, z)) (off each (other (λ z. omega (arith, z)) (other (λ z. omega (arith, z)) (end (λ z. omega (arith, z)))))))
      (sym (answered (template_refusals s.table (with_terms s w) lent_room) _ _ (λ (r : Reply). r.answer) refl (λ k. refl)) ∙ a)

  pub template_never_11 : (template_reply s.table (with_terms s w) lent_room).answer ≡ 11 → ⊥
  unfolding template_reply template_refusals
  template_never_11 a =
      never (other (λ z. omega (arith, z)) (other (λ z. omega (arith, z)) (off room (other (λ z. omega (arith, z)) (end (λ z. omega (arith, z)))))))
      (sym (answered (template_refusals s.table (with_terms s w) lent_room) _ _ (λ (r : Reply). r.answer) refl (λ k. refl)) ∙ a)
