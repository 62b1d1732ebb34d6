-- Demand 3: "From an empty pool, after any sequence of pool calls, refused ones included". A call with its arguments, its answer and the
-- table that it leaves: each by the definition that stands in the call's own contract, so that nothing lies between the two. Assumes nothing.
use Rattle.std.specs.Prelude.{ℕ, ◌≡◌, Bool, true, List, [], ◌∷◌, eqb, length}
use Rattle.txids.specs.declared.Txid.{Txid}
use Rattle.pool_table.specs.declared.Limits.{Limits}
use Rattle.pool_table.specs.declared.Entry.{Entry}
use Rattle.pool_table.specs.Words.{slots_in}
use Rattle.pool_rules.specs.Calls.{make_answer, after_make, add_reply, after_add, named_reply, after_remove, after_set_cost, clear_answer, after_clear}
use Rattle.pool_rules.specs.Calls.{totals_reply}
use Rattle.template_rules.specs.Filling.{Settings}
use Rattle.template_rules.specs.Calls.{template_reply}

-- the pool calls. An add has its entry and the bytes of its parents' txids, a template its settings and its room. As the contracts have it,
-- the program's add is `add (entry_of txid fee weight cost) parents`, and its remove and set_cost name `txid_at txid 0`, each of the 32 bytes
-- that it is given: so two calls name one txid exactly where their bytes are the same (`same_bytes` of txids)
pub data Call : Type 0 where
  make : Limits → Call
  add : Entry → List ℕ → Call
  remove : Txid → Call
  set_cost : Txid → ℕ → Call
  clear : Call
  totals : Call
  template : Settings → List ℕ → Call

-- the number that a call answers on a table
abbrev pub answer_to : List ℕ → Call → ℕ
answer_to t (make l) = make_answer t l
answer_to t (add e listed) = (add_reply t e listed).answer
answer_to t (remove x) = (named_reply t x).answer
answer_to t (set_cost x c) = (named_reply t x).answer
answer_to t clear = clear_answer t
answer_to t totals = (totals_reply t).answer
answer_to t (template w room) = (template_reply t w room).answer

-- the table that it leaves. Totals and template are lent the table to read alone
abbrev pub table_after : List ℕ → Call → List ℕ
table_after t (make l) = after_make t l
table_after t (add e listed) = after_add t e listed
table_after t (remove x) = after_remove t x
table_after t (set_cost x c) = after_set_cost t x c
table_after t clear = after_clear t
table_after t totals = t
table_after t (template w room) = t

-- ---- a sequence of calls on a lent table

-- how many slots a pool has that is made on it
abbrev pub slots_on : List ℕ → ℕ
slots_on lent = slots_in (length lent)

-- a call that was made, and whether it succeeded: all that is kept of it. "0 is success"
pub record Event : Type 0 where
  pub call : Call
  pub done : Bool

-- the calls of a sequence as they were answered, and the table then, one call after the other. The latest event comes first
pub data History (lent : List ℕ) : List Event → List ℕ → Type 0 where
  -- "Making a pool empties a lent table": a history begins with a making that succeeds, whatever the table held
  begun : (l : Limits) → make_answer lent l ≡ 0 → History lent (record { call = make l; done = true } ∷ []) (after_make lent l)
  -- and goes on with any call, whatever it answers
  next : {es : List Event} {t : List ℕ} (c : Call) → History lent es t
      → History lent (record { call = c; done = eqb (answer_to t c) 0 } ∷ es) (table_after t c)
