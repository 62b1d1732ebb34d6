-- How long a session's parts are: a delta and a mark for each slot of the table, whatever lines there were. Assumes nothing.
use mathlib.Core.Path.{◌≡◌, refl, sym, ap, ◌∙◌}
use mathlib.Core.Bool.{true, ◌&&◌}
use mathlib.Core.List.{List, [], ◌∷◌}
use Prim.Native.Nat.{ℕ, ◌≤◌}
use native.Mathlib.Omega.{arith}
use lib.Dec.{eqb, leb}
use lib.IntN.{ℤ, pos}
use lib.ListN.{length, length-set, length-replicate}
use borrow.Author.Tests.{eqb-true, ne_eqb, leb-true}
use Rattle.lists.proofs.Bools.{cases, cond_where, and_left, and_right}
use Rattle.slotsets.specs.SlotSets.{capacity}
use Rattle.refusals.specs.Refusals.{answer_of, kept_unless}
use Rattle.txids.specs.declared.Txid.{Txid}
use Rattle.pool_table.specs.declared.Limits.{Limits}
use Rattle.pool_table.specs.declared.Entry.{Entry}
use Rattle.pool_table.specs.WellFormed.{well_formed}
use Rattle.pool_table.specs.Pool.{slot_count}
use Rattle.pool_table.specs.Words.{row_at, slots_in, is_legal, pool_of}
use Rattle.pool_table.proofs.Rows.{slot_count_lem}
use Rattle.pool_rules.specs.declared.Placed.{Placed}
use Rattle.pool_rules.specs.Calls.{make_answer, clear_answer, add_reply, named_reply, add_refusals, named_refusals, after_add, after_remove, after_set_cost}
use Rattle.pool_rules.specs.Calls.{after_clear}
use Rattle.pool_history.specs.History as history
use Rattle.pool_history.proofs.Follows.{follows, follows_length}
use Rattle.pool_reader.specs.Requests.{Request, make, add, remove, set_cost, clear, totals, delta, mark, template, malformed, request_of}
use Rattle.pool_session.specs.Session.{Session, no_pool, slots_of, lent_table, after, after_making, wiped, wiped_all, mark_of}
use Rattle.pool_session.specs.Program.{behind_lines}
use Rattle.pool_session.specs.Memory.{words_for}

-- ---- the calls leave a table of no words as it is

add_nothing : (t : List ℕ) (e : Entry) (listed : List ℕ) → t ≡ [] → after_add t e listed ≡ []
unfolding after_add add_refusals kept_unless answer_of well_formed is_legal slots_in
add_nothing t e listed z = rw z

remove_nothing : (t : List ℕ) (x : Txid) → t ≡ [] → after_remove t x ≡ []
unfolding after_remove named_refusals kept_unless answer_of well_formed is_legal slots_in
remove_nothing t x z = rw z

cost_nothing : (t : List ℕ) (x : Txid) (c : ℕ) → t ≡ [] → after_set_cost t x c ≡ []
unfolding after_set_cost named_refusals kept_unless answer_of well_formed is_legal slots_in
cost_nothing t x c z = rw z

clear_nothing : (t : List ℕ) → t ≡ [] → after_clear t ≡ []
unfolding after_clear kept_unless answer_of well_formed is_legal slots_in
clear_nothing t z = rw z

-- ---- a table

-- a table of a history, on words for so many slots; or none
pub data Table (n : ℕ) (t : List ℕ) : Type 0 where
  none : n ≡ 0 → t ≡ [] → Table n t
  some : {lent : List ℕ} {es : List history.Event} → length lent ≡ row_at n → history.History lent es t → Table n t

pub record Matched (s : Session) : Type 0 where
  pub table : Table (slots_of s) s.table
  pub marks : length s.marks ≡ slots_of s

-- ---- how long the table is

-- words that a pool can be made on are for 1 to 1,024 slots
legal_few : (n len : ℕ) → is_legal len ≡ true → len ≡ row_at n → (1 ≤ n) × (n ≤ capacity)
unfolding is_legal slots_in
legal_few n len h e =
    let within = and_right (eqb (row_at (slots_in len)) len) (leb 1 (slots_in len) && leb (slots_in len) capacity) h in
    let low = leb-true 1 (slots_in len) (and_left (leb 1 (slots_in len)) (leb (slots_in len) capacity) within) in
    let high = leb-true (slots_in len) capacity (and_right (leb 1 (slots_in len)) (leb (slots_in len) capacity) within) in
    (omega (arith, e, low), omega (arith, e, high))

pub some_slots : {n : ℕ} {lent t : List ℕ} {es : List history.Event} → length lent ≡ row_at n → history.History lent es t → 1 ≤ n
some_slots {n} {lent} long h = (legal_few n (length lent) (follows h).legal long).0

pub few : {n : ℕ} {t : List ℕ} → Table n t → n ≤ capacity
few (none e _) = omega (arith, e)
few {n} (some {lent} long h) = (legal_few n (length lent) (follows h).legal long).1

pub table_length : {n : ℕ} {t : List ℕ} → Table n t → length t ≡ words_for n
unfolding words_for
table_length {n} {t} (none e z) = rw (e, z)
table_length {n} {t} (some {lent} long h) =
    let one = some_slots long h in
    follows_length (follows h) ∙ rw (ne_eqb n 0 (λ (z : n ≡ 0). omega arith)) long

pub table_slots : {n : ℕ} {t : List ℕ} → Table n t → slot_count (pool_of t) ≡ n
unfolding slots_in
table_slots {n} {t} (none e z) = slot_count_lem t ∙ rw (e, z)
table_slots {n} {t} (some {lent} long h) = slot_count_lem t ∙ ap slots_in (follows_length (follows h) ∙ long) ∙ omega arith

-- ---- each line keeps it so

wiped_length : {A : Type 0} (r : Placed) (a : A) (xs : List A) → length (wiped r a xs) ≡ length xs
unfolding wiped
wiped_length {A} r a xs = cond_where (λ (l : List A). length l ≡ length xs) (eqb r.answer 0) (λ _. length-set xs r.slot a) (λ _. refl)

wiped_all_length : {A : Type 0} (answer : ℕ) (a : A) (xs : List A) → length (wiped_all answer a xs) ≡ length xs
unfolding wiped_all
wiped_all_length {A} answer a xs =
    cond_where (λ (l : List A). length l ≡ length xs) (eqb answer 0) (λ _. length-replicate (length xs) a) (λ _. refl)

-- as many slots and marks as before
same_many : {s : Session} (t : List ℕ) (deltas : List ℤ) (marks : List ℕ) → Matched s → Table (slots_of s) t
    → length deltas ≡ length s.deltas → length marks ≡ length s.marks
    → Matched (record { table = t; deltas = deltas; marks = marks })
same_many t deltas marks z h d m = record { table = rw d h; marks = m ∙ z.marks ∙ sym d }

making : (n : ℕ) (l : Limits) (s : Session) → Matched s → Matched (after_making n l s)
unfolding after_making
making n l s z =
    cases (eqb (make_answer (lent_table n) l) 0)
    (λ e.
    rw e
    (record {
      table =
          rw (length-replicate n (pos 0))
          (some (length-replicate {A = ℕ} (row_at n) 0) (history.begun l (eqb-true (make_answer (lent_table n) l) 0 e)));
      marks = length-replicate {A = ℕ} n 0 ∙ sym (length-replicate n (pos 0));
    }))
    (λ e. rw e z)

module _ {n : ℕ} {t : List ℕ} where
  table_added : (e : _) (listed : List ℕ) → Table n t → Table n (history.table_after t (history.add e listed))
  table_added e listed (none k z) = none k (add_nothing t e listed z)
  table_added e listed (some long h) = some long (history.next (history.add e listed) h)

  table_removed : (x : _) → Table n t → Table n (history.table_after t (history.remove x))
  table_removed x (none k z) = none k (remove_nothing t x z)
  table_removed x (some long h) = some long (history.next (history.remove x) h)

  table_cost : (x : _) (c : ℕ) → Table n t → Table n (history.table_after t (history.set_cost x c))
  table_cost x c (none k z) = none k (cost_nothing t x c z)
  table_cost x c (some long h) = some long (history.next (history.set_cost x c) h)

  table_cleared : Table n t → Table n (history.table_after t history.clear)
  table_cleared (none k z) = none k (clear_nothing t z)
  table_cleared (some long h) = some long (history.next history.clear h)

pub matched_after : (s : Session) (q : Request) → Matched s → Matched (after s q)
matched_after s (make n l) z = making n l s z
matched_after s (add e listed) z =
    let r = add_reply s.table e listed in
    same_many _ _ _ z (table_added e listed z.table) (wiped_length r (pos 0) s.deltas) (wiped_length r 0 s.marks)
matched_after s (remove x) z =
    let r = named_reply s.table x in
    same_many _ _ _ z (table_removed x z.table) (wiped_length r (pos 0) s.deltas) (wiped_length r 0 s.marks)
matched_after s (set_cost x c) z = same_many _ _ _ z (table_cost x c z.table) refl refl
matched_after s clear z =
    let a = clear_answer s.table in
    same_many _ _ _ z (table_cleared z.table) (wiped_all_length a (pos 0) s.deltas) (wiped_all_length a 0 s.marks)
matched_after s totals z = z
matched_after s (delta k d) z = same_many _ _ _ z z.table (length-set s.deltas k d) refl
matched_after s (mark k m) z = same_many _ _ _ z z.table refl (length-set s.marks k (mark_of m))
matched_after s (template w) z = z
matched_after s malformed z = z

matched_behind : (s : Session) (ls : List (List ℕ)) → Matched s → Matched (behind_lines s ls)
unfolding behind_lines
matched_behind s [] z = z
matched_behind s (l ∷ ls) z = matched_behind (after s (request_of l)) ls (matched_after s (request_of l) z)

pub matched_lines : (ls : List (List ℕ)) → Matched (behind_lines no_pool ls)
matched_lines ls = matched_behind no_pool ls (record { table = none refl refl; marks = refl })
