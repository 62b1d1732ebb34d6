-- The pool program between two lines: a table, and a delta and a mark for each of its slots; and what a request leaves of them (README,
-- "The pool program"). Assumes nothing.
use Rattle.std.specs.Prelude.{ℕ, cond, not, List, [], ◌∷◌, eqb, ltb, length, set, replicate, ℤ, pos}
use Rattle.lists.specs.Below.{bit}
use Rattle.refusals.specs.Refusals.{line, answer_of}
use Rattle.pool_table.specs.declared.Limits.{Limits}
use Rattle.pool_table.specs.Words.{row_at}
use Rattle.pool_rules.specs.declared.Placed.{Placed}
use Rattle.pool_rules.specs.Calls.{make_answer, after_make, add_reply, after_add, named_reply, after_remove, after_set_cost, clear_answer, after_clear}
use Rattle.pool_reader.specs.Requests.{Request, make, add, remove, set_cost, clear, totals, delta, mark, template, malformed}

pub record Session : Type 0 where
  pub table : List ℕ
  pub deltas : List ℤ
  pub marks : List ℕ

-- README: "Before the first make that succeeds every other call is answered with 12, as on a table of no words."
abbrev pub no_pool : Session
no_pool = record { table = []; deltas = []; marks = [] }

abbrev pub slots_of : Session → ℕ
slots_of s = length s.deltas

-- ---- make: a table of so many slots, whatever its words held before

abbrev pub lent_table : ℕ → List ℕ
lent_table n = replicate (row_at n) 0

-- the new pool, which has no settings; "A make that is refused leaves the pool and all settings."
unfoldable pub after_making : ℕ → Limits → Session → Session
after_making n l s =
    cond (eqb (make_answer (lent_table n) l) 0)
    (record { table = after_make (lent_table n) l; deltas = replicate n (pos 0); marks = replicate n 0 })
    s

-- ---- add and remove: the slot that was taken or freed has no settings from before

unfoldable pub wiped : {A : Type 0} → Placed → A → List A → List A
wiped r none xs = cond (eqb r.answer 0) (set xs r.slot none) xs

abbrev pub after_placed : Placed → List ℕ → Session → Session
after_placed r t s = record { table = t; deltas = wiped r (pos 0) s.deltas; marks = wiped r 0 s.marks }

-- ---- clear: no slot has settings

unfoldable pub wiped_all : {A : Type 0} → ℕ → A → List A → List A
wiped_all answer none xs = cond (eqb answer 0) (replicate (length xs) none) xs

abbrev pub after_clearing : Session → Session
after_clearing s =
    record {
      table = after_clear s.table;
      deltas = wiped_all (clear_answer s.table) (pos 0) s.deltas;
      marks = wiped_all (clear_answer s.table) 0 s.marks;
    }

-- ---- a delta and a mark: 12 without a pool, 3 for a slot that it has not

unfoldable pub setting_answer : ℕ → ℕ → ℕ
setting_answer n k = answer_of (line 12 (eqb n 0) ∷ line 3 (not (ltb k n)) ∷ [])

-- (past the last slot there is nothing to set)
abbrev pub after_delta : ℕ → ℤ → Session → Session
after_delta k d s = record { table = s.table; deltas = set s.deltas k d; marks = s.marks }

-- "any number but 0 withholds, 0 releases": a mark is 0 or 1
unfoldable pub mark_of : ℕ → ℕ
mark_of m = bit (not (eqb m 0))

abbrev pub after_mark : ℕ → ℕ → Session → Session
after_mark k m s = record { table = s.table; deltas = s.deltas; marks = set s.marks k (mark_of m) }

-- ---- what a line leaves that asks for this

abbrev pub after : Session → Request → Session
after s (make n l) = after_making n l s
after s (add e listed) = after_placed (add_reply s.table e listed) (after_add s.table e listed) s
after s (remove x) = after_placed (named_reply s.table x) (after_remove s.table x) s
after s (set_cost x c) = record { table = after_set_cost s.table x c; deltas = s.deltas; marks = s.marks }
after s clear = after_clearing s
after s totals = s
after s (delta k d) = after_delta k d s
after s (mark k m) = after_mark k m s
after s (template w) = s
after s malformed = s
