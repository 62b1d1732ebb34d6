-- From what a request's function says to what its line leaves. Assumes nothing.
use mathlib.Core.Path.{◌≡◌, sym, ap, ◌∙◌}
use mathlib.Core.Bool.{true, false}
use mathlib.Core.List.{List, ◌++◌}
use Prim.Native.Nat.{ℕ, ◌≤◌}
use native.Mathlib.Omega.{arith}
use lib.Dec.{eqb}
use lib.IntN.{ℤ, pos}
use lib.ListN.{length, take, drop, set, replicate, length-append, length-set, length-replicate}
use lib.Seq.{length-take-le, take-append_seam, take_all}
use borrow.Author.Tests.{eq-eqb, ne_eqb, eqb-false}
use Rattle.lists.specs.Lists.{overwrite}
use Rattle.lists.proofs.Bools.{cases, cond_where}
use Rattle.refusals.specs.declared.Reply.{Reply}
use Rattle.refusals.specs.Refusals.{answer_of, reply_of, kept_unless}
use Rattle.slotsets.specs.SlotSets.{capacity}
use Rattle.txids.specs.declared.Txid.{Txid}
use Rattle.pool_table.specs.declared.Entry.{Entry}
use Rattle.pool_table.specs.declared.Limits.{Limits}
use Rattle.pool_table.specs.Words.{pool_of}
use Rattle.pool_rules.specs.Calls.{make_answer, after_make, add_reply, named_reply, clear_answer, after_set_cost}
use Rattle.template_rules.specs.declared.Terms.{Terms}
use Rattle.template_rules.specs.Filling.{Settings, template}
use Rattle.template_rules.specs.Calls.{template_refusals, template_reply, template_room}
use Rattle.pool_reader.specs.Requests.{Request, make, add, remove, set_cost, clear, delta, mark}
use Rattle.pool_writer.specs.Answers.{placed_text, number_text, selected_text}
use Rattle.pool_session.specs.declared.Memory.{Memory}
use Rattle.pool_session.specs.Session.{Session, slots_of, lent_table, after_making, after, setting_answer, mark_of}
use Rattle.pool_session.specs.Answers.{text_of, lent_room, with_terms, template_text}
use Rattle.pool_session.specs.Memory.{Lent, lent, lends, words_for, session_in, Says, Answered, Stepped, Sized, memory_length}
use Rattle.pool_session.proofs.Arrays.{in_front, stays, wiped_length, wiped_all_length}

pub words_fit : (n : ℕ) → n ≤ capacity → words_for n ≤ memory_length
unfolding words_for
words_fit n h = cond_where (λ (k : ℕ). k ≤ memory_length) (eqb n 0) (λ _. omega arith) (λ _. omega arith)

-- a table's words are in the memory
pub words_in : (n words : ℕ) (memory : List ℕ) → words ≡ words_for n → n ≤ capacity → length memory ≡ memory_length → words ≤ length memory
words_in n words memory e h l = omega (arith, e, words_fit n h, l)

-- a table that a call left, put back in front of the rest of the memory
pub put_back : {A : Type 0} (words : ℕ) (new memory : List A) {t : List A} → words ≤ length memory → length new ≡ length (take words memory) → new ≡ t
    → new ++ drop words memory ≡ overwrite t memory
put_back {A} words new memory h l q =
    in_front words new memory (l ∙ length-take-le words memory h) ∙ ap (λ (t : List A). overwrite t memory) q

-- a text that is another one
pub tells : (old : List ℕ) {a b new : List ℕ} {len : ℕ} → a ≡ b → Says a old new len → Says b old new len
tells old e s = (s.0 ∙ ap length e, s.1 ∙ ap (λ (t : List ℕ). overwrite t old) e)

-- a make that succeeds leaves a pool without settings
made_session : (slots : ℕ) (l : Limits) (s : Session) → make_answer (lent_table slots) l ≡ 0
    → after_making slots l s ≡ record { table = after_make (lent_table slots) l; deltas = replicate slots (pos 0); marks = replicate slots 0 }
unfolding after_making
made_session slots l s z = rw (eq-eqb (make_answer (lent_table slots) l) 0 z)

-- a line asks for this
pub asks : {n m k : ℕ} {p q : Request} {old new : Lent} {left len : ℕ} → n ≡ m → p ≡ q → Stepped n k p old new left len → Stepped m k q old new left len
asks e f s = rw (← e, ← f) s

module _ (m : Memory) (room : List ℕ) (k : ℕ) (z : Sized m) where
  abbrev n : ℕ
  n = m.slots

  abbrev old : Lent
  old = lends m room

  abbrev in_words : words_for n ≤ length m.words
  in_words = omega (arith, words_fit n z.few, z.memory)

  abbrev in_deltas : n ≤ length m.deltas
  in_deltas = omega (arith, z.few, z.deltas)

  abbrev in_marks : n ≤ length m.marks
  in_marks = omega (arith, z.few, z.marks)

  many : length (take n m.deltas) ≡ n
  many = length-take-le n m.deltas in_deltas

  words_stay : m.words ≡ overwrite (take (words_for n) m.words) m.words
  words_stay = stays (words_for n) m.words in_words

  deltas_stay : m.deltas ≡ overwrite (take n m.deltas) m.deltas
  deltas_stay = stays n m.deltas in_deltas

  marks_stay : m.marks ≡ overwrite (take n m.marks) m.marks
  marks_stay = stays n m.marks in_marks

  module _ {out : List ℕ} {len : ℕ} where
    -- a line that leaves all
    pub leaves_all : (q : Request) → after (session_in n old) q ≡ session_in n old
        → Says (text_of (session_in n old) k q) room out len
        → Stepped n k q old (lent m.words m.deltas m.marks out) n len
    leaves_all q e s = record {
      slots = sym (ap slots_of e ∙ many);
      answers = record { words = rw e words_stay; deltas = rw e deltas_stay; marks = rw e marks_stay; says = s };
    }

    -- a make that is refused, and one that is not
    pub leaves_made : (slots : ℕ) (l : Limits) → (make_answer (lent_table slots) l ≡ 0 → ⊥)
        → Says (number_text (make_answer (lent_table slots) l)) room out len
        → Stepped n k (make slots l) old (lent m.words m.deltas m.marks out) n len
    unfolding after_making
    leaves_made slots l r s = leaves_all (make slots l) (rw (ne_eqb (make_answer (lent_table slots) l) 0 r)) s

    pub not_made : (slots : ℕ) (l : Limits) {words : List ℕ} → (make_answer (lent_table slots) l ≡ 0 → ⊥) → words ≡ m.words
        → Says (number_text (make_answer (lent_table slots) l)) room out len
        → Stepped n k (make slots l) old (lent words m.deltas m.marks out) n len
    not_made slots l r w s = rw w (leaves_made slots l r s)

    pub made_now : (slots : ℕ) (l : Limits) {words : List ℕ} → make_answer (lent_table slots) l ≡ 0
        → words ≡ overwrite (after_make (lent_table slots) l) m.words → Says (number_text 0) room out len
        → Stepped n k (make slots l) old
        (lent words (overwrite (replicate slots (pos 0)) m.deltas) (overwrite (replicate slots 0) m.marks) out) slots len
    made_now slots l r w s =
        let e = made_session slots l (session_in n old) r in
        record {
          slots = sym (ap slots_of e ∙ length-replicate slots (pos 0));
          answers = record { words = rw e w; deltas = rw e; marks = rw e; says = rw r s };
        }

    pub cost_set : (x : Txid) (c : ℕ) {words : List ℕ} → words ≡ overwrite (after_set_cost (take (words_for n) m.words) x c) m.words
        → Says (placed_text (named_reply (take (words_for n) m.words) x)) room out len
        → Stepped n k (set_cost x c) old (lent words m.deltas m.marks out) n len
    cost_set x c w s =
        record { slots = sym many; answers = record { words = w; deltas = deltas_stay; marks = marks_stay; says = s } }

    pub delta_set : (i : ℕ) (d : ℤ) {deltas : List ℤ} → deltas ≡ overwrite (set (take n m.deltas) i d) m.deltas
        → Says (number_text (setting_answer n i)) room out len
        → Stepped n k (delta i d) old (lent m.words deltas m.marks out) n len
    delta_set i d w s = record {
      slots = sym (length-set (take n m.deltas) i d ∙ many);
      answers = record { words = words_stay; deltas = w; marks = marks_stay; says = rw many s };
    }

    pub mark_set : (i b : ℕ) {marks : List ℕ} → marks ≡ overwrite (set (take n m.marks) i (mark_of b)) m.marks
        → Says (number_text (setting_answer n i)) room out len
        → Stepped n k (mark i b) old (lent m.words m.deltas marks out) n len
    mark_set i b w s = record {
      slots = sym many;
      answers = record { words = words_stay; deltas = deltas_stay; marks = w; says = rw many s };
    }

  -- a line that changes all, and not how many slots there are
  module _ {new : Lent} {len : ℕ} where
    pub added : (e : Entry) (listed : List ℕ) → Answered n k (add e listed) old new len → Stepped n k (add e listed) old new n len
    added e listed a =
        record { slots = sym (wiped_length n m.deltas in_deltas (add_reply (take (words_for n) m.words) e listed) (pos 0)); answers = a }

    pub removed : (x : Txid) → Answered n k (remove x) old new len → Stepped n k (remove x) old new n len
    removed x a =
        record { slots = sym (wiped_length n m.deltas in_deltas (named_reply (take (words_for n) m.words) x) (pos 0)); answers = a }

    pub cleared : Answered n k clear old new len → Stepped n k clear old new n len
    cleared a =
        record { slots = sym (wiped_all_length n m.deltas in_deltas (clear_answer (take (words_for n) m.words)) (pos 0)); answers = a }

-- ---- a template's reply and room

-- the slots stand at the start of the room, and fit it
pub record Picked (t : List ℕ) (w : Settings) (written : ℕ) (new : List ℕ) : Type 0 where
  pub few : written ≤ capacity
  pub are : take capacity (take written new) ≡ template (pool_of t) w

module _ (t : List ℕ) (w : Settings) (r : Reply) (is : r ≡ template_reply t w lent_room) where
  abbrev out : List ℕ
  out = template (pool_of t) w

  abbrev answer : ℕ
  answer = answer_of (template_refusals t w lent_room)

  module _ (new : List ℕ) (n : new ≡ template_room t w lent_room) (l : length new ≡ capacity) (z : r.answer ≡ 0) where
    refused : eqb answer 0 ≡ false → Picked t w r.written new
    unfolding template_reply reply_of
    refused f =
        let a : r.answer ≡ answer = ap (λ (r : Reply). r.answer) (rw f at is) in
        absurd (eqb-false answer 0 f (sym a ∙ z))

    answered : eqb answer 0 ≡ true → Picked t w r.written new
    unfolding template_reply template_room reply_of kept_unless
    answered e =
        let m : r.written ≡ length out = ap (λ (r : Reply). r.written) (rw e at is) in
        let o : new ≡ overwrite out lent_room = rw e at n in
        let fits : length out ≤ capacity = omega (arith, sym l ∙ ap length o ∙ length-append out (drop (length out) lent_room)) in
        record {
          few = omega (arith, m, fits);
          are = rw (m, o, take-append_seam out (drop (length out) lent_room)) (take_all capacity out fits);
        }

    pub picked : Picked t w r.written new
    picked = cases (eqb answer 0) answered refused

-- what is printed of it
module _ (s : Session) (w : Terms) where
  pub told_refused : ((template_reply s.table (with_terms s w) lent_room).answer ≡ 0 → ⊥)
      → template_text s w ≡ number_text (template_reply s.table (with_terms s w) lent_room).answer
  unfolding template_text
  told_refused n = rw (ne_eqb (template_reply s.table (with_terms s w) lent_room).answer 0 n)

  pub told_selected : (template_reply s.table (with_terms s w) lent_room).answer ≡ 0
      → template_text s w ≡ selected_text s.table (template (pool_of s.table) (with_terms s w))
  unfolding template_text
  told_selected e = rw (eq-eqb (template_reply s.table (with_terms s w) lent_room).answer 0 e)
