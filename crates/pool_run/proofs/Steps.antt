-- From what a step says to where the program stands behind its line, and behind a byte within a line. Assumes nothing.
use mathlib.Core.Path.{◌≡◌, refl, sym, ap, ◌∙◌}
use mathlib.Core.Bool.{true}
use mathlib.Core.List.{List, [], ◌∷◌, ◌++◌}
use Prim.Native.Nat.{ℕ, ◌≤◌, min}
use native.Mathlib.Omega.{arith}
use lib.IntN.{ℤ}
use lib.ListN.{length, take, drop, length-append}
use lib.Seq.{take_at}
use Rattle.slotsets.specs.SlotSets.{capacity}
use Rattle.pool_reader.specs.Requests.{Request, request_of}
use Rattle.pool_session.specs.declared.Memory.{Memory}
use Rattle.pool_session.specs.Session.{Session, no_pool, slots_of, after}
use Rattle.pool_session.specs.Answers.{text_of}
use Rattle.pool_session.specs.Program.{last_text, number_behind, answers_from, responses, behind_lines}
use Rattle.pool_session.specs.Memory.{Lent, lends, words_for, session_in, Says, Stepped}
use Rattle.pool_session.proofs.Steps.{asks}
use Rattle.pool_session.proofs.Sizes.{Matched, few, table_length, matched_lines}
use Rattle.pool_run.specs.declared.Desk.{Desk}
use Rattle.pool_run.specs.declared.writes.Printed.{Printed}
use Rattle.pool_run.specs.Reads.{held, unprinted, Wrote}
use Rattle.pool_run.specs.Standing.{kept_length, Gathered, printed_of, Due, DueLast, Stands, Told, Holds, Responded}
use Rattle.pool_run.specs.Stops.{Whole}
use Rattle.pool_run.proofs.Answers.{printed_more, printed_whole, more_bytes}
use Rattle.pool_run.proofs.Lines.{nothing_gathered, asks_same, cut_within, cut_behind, next_number}

-- ---- the session

pub behind_more : (s : Session) (ls : List (List ℕ)) (l : List ℕ) → behind_lines s (ls ++ (l ∷ [])) ≡ after (behind_lines s ls) (request_of l)
unfolding behind_lines
behind_more s [] l = refl
behind_more s (k ∷ ls) l = behind_more (after s (request_of k)) ls l

parts : {t u : List ℕ} {d e : List ℤ} {m n : List ℕ} → t ≡ u → d ≡ e → m ≡ n
    → ◌≡◌ {A = Session} (record { table = t; deltas = d; marks = m }) (record { table = u; deltas = e; marks = n })
parts a b c = rw (a, b, c)

-- what a step leaves stands at the start of the arrays, and is as long as it was
session_left : {n k left len : ℕ} {q : Request} {old new : Lent} → Matched (after (session_in n old) q) → Stepped n k q old new left len
    → session_in left new ≡ after (session_in n old) q
session_left {n} {k} {left} {len} {q} {old} {new} z st =
    let s = after (session_in n old) q in
    let e = st.slots in
    parts
    (ap (take (words_for left)) st.answers.words
    ∙ take_at s.table (drop (length s.table) old.words) (words_for left) (table_length z.table ∙ ap words_for (sym e)))
    (ap (take left) st.answers.deltas
    ∙ take_at s.deltas (drop (length s.deltas) old.deltas) left (sym e))
    (ap (take left) st.answers.marks
    ∙ take_at s.marks (drop (length s.marks) old.marks) left (z.marks ∙ sym e))

-- ---- a text at the start of its room

pub says_holds : (text old new : List ℕ) (len : ℕ) → Says text old new len → Holds text new len
says_holds text old new len s = record {
  within = omega (arith, s.0, ap length s.1, length-append text (drop (length text) old));
  says = ap (take len) s.1 ∙ take_at text (drop (length text) old) len (sym s.0);
}

-- ---- where the program stands

pub at_start : (m : Memory) (line : List ℕ) → m.slots ≡ 0 → Stands [] (record { memory = m; line = line; len = 0; printed = unprinted })
unfolding answers_from behind_lines words_for
at_start m line e = record {
  lines = [];
  pending = [];
  cut = λ rest. refl;
  gathered = nothing_gathered line;
  shown = record { takes = refl; number = refl; bytes = refl };
  slots = e;
  session = rw e;
}

module _ {input : List ℕ} {d : Desk} (st : Stands input d) where
  -- no more is kept of a line than there is room for
  pub kept_within : d.len ≤ kept_length
  kept_within = omega (arith, st.gathered.many)

  -- each whole line is answered
  pub told : {read : ℕ} → read ≡ held (length input) → Told read d
  told e = record {
    input = input;
    lines = st.lines;
    pending = st.pending;
    many = e;
    cut = st.cut;
    kept = st.gathered.many;
    shown = st.shown;
  }

  -- a byte within the line
  pub byte_taken : (b : ℕ) {len : ℕ} {new : List ℕ} → (b ≡ 10 → ⊥) → Gathered (st.pending ++ (b ∷ [])) new len
      → Stands (input ++ (b ∷ [])) (record { memory = d.memory; line = new; len = len; printed = d.printed })
  byte_taken b n g = record {
    lines = st.lines;
    pending = st.pending ++ (b ∷ []);
    cut = cut_within input st.lines st.pending b st.cut n;
    gathered = g;
    shown = st.shown;
    slots = st.slots;
    session = st.session;
  }

  -- the line is done
  pub line_done : {old out : List ℕ} {new : Memory} {len k : ℕ} → k ≡ d.printed.number
      → Stepped (min d.memory.slots capacity) k (request_of (take d.len d.line)) (lends d.memory old) (lends new out) new.slots len
      → Responded st.lines st.pending d.printed.number new out len
  line_done {old} {out} {new} {len} {k} e step =
      let before = matched_lines st.lines in
      let within : d.memory.slots ≤ capacity = rw st.slots (few before.table) in
      let same : min d.memory.slots capacity ≡ d.memory.slots = omega arith in
      let q = request_of st.pending in
      let m = lends d.memory old in
      let now : Stepped d.memory.slots d.printed.number q m (lends new out) new.slots len =
      rw (← e) (asks same (asks_same st.gathered) step) in
      let leaves : after (session_in d.memory.slots m) q ≡ behind_lines no_pool (st.lines ++ (st.pending ∷ [])) =
      ap (λ (s : Session). after s q) st.session ∙ sym (behind_more no_pool st.lines st.pending) in
      let sized : Matched (after (session_in d.memory.slots m) q) = rw leaves (matched_lines (st.lines ++ (st.pending ∷ []))) in
      record {
        holds = rw (← st.session) (says_holds (text_of (session_in d.memory.slots m) d.printed.number q) old out len now.answers.says);
        slots = now.slots ∙ ap slots_of leaves;
        session = session_left sized now ∙ leaves;
      }

  -- its answer is due
  pub answer_due : {new : Memory} {out : List ℕ} {len : ℕ} → Responded st.lines st.pending d.printed.number new out len
      → Due d.printed (take len out) (take d.len d.line) (session_in new.slots (lends new []))
  answer_due h = record {
    lines = st.lines;
    pending = st.pending;
    shown = st.shown;
    asks = asks_same st.gathered;
    leaves = h.session;
    says = h.holds.says;
  }

  -- and written
  pub line_answered : {new : Memory} {out : List ℕ} {len : ℕ} {p : Printed} → Responded st.lines st.pending d.printed.number new out len
      → Wrote d.printed (length (take len out)) p → p.is_open ≡ true
      → Stands (input ++ (10 ∷ [])) (record { memory = new; line = d.line; len = 0; printed = p })
  line_answered h wrote still =
      let e = st.shown.number in
      record {
        lines = st.lines ++ (st.pending ∷ []);
        pending = [];
        cut = cut_behind input st.lines st.pending 10 st.cut refl;
        gathered = nothing_gathered d.line;
        shown = record {
          takes = still;
          number =
              (wrote still).0
              ∙ next_number d.printed.number (length st.lines) e
              ∙ ap number_behind (sym (length-append st.lines (st.pending ∷ [])));
          bytes =
              more_bytes (printed_of st.lines) (printed_of (st.lines ++ (st.pending ∷ [])))
              (text_of (behind_lines no_pool st.lines) d.printed.number (request_of st.pending))
              st.shown.bytes (printed_more st.lines st.pending d.printed.number e) (ap length h.holds.says) (wrote still).1;
        };
        slots = h.slots;
        session = h.session;
      }

-- ---- the input's end

module _ {read : ℕ} {d : Desk} (t : Told read d) where
  pub last_due : {out : List ℕ} {n : ℕ} → Holds (last_text d.printed.number t.pending) out n → DueLast d.printed (take n out)
  last_due h = record { lines = t.lines; pending = t.pending; shown = t.shown; says = h.says }

  pub all_printed : {out : List ℕ} {n : ℕ} {p : Printed} → Holds (last_text d.printed.number t.pending) out n
      → Wrote d.printed (length (take n out)) p → p.is_open ≡ true → Whole read p
  all_printed h wrote still = record {
    input = t.input;
    many = t.many;
    takes = still;
    bytes =
        more_bytes (printed_of t.lines) (responses t.input) (last_text d.printed.number t.pending) t.shown.bytes
        (printed_whole t.lines t.input t.pending d.printed.number t.cut t.shown.number)
        (ap length h.says) (wrote still).1;
  }
