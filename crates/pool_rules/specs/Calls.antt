-- Document 01: the six calls on a lent table. What each answers, in the order of its refusals, and the whole table that it leaves.
-- "A refusal returns its number and zero for all else; all lent memory stays." Assumes nothing.
use Rattle.std.specs.Prelude.{ℕ, ◌%◌, not, ◌&&◌, List, [], ◌∷◌, eqb, ltb, length, Option, Some, None, Result, Ok, Err}
use Rattle.refusals.specs.declared.Refusal.{Refusal}
use Rattle.refusals.specs.Refusals.{Line, line, number_of, answer_of, reply_of, kept_unless}
use Rattle.txids.specs.declared.Txid.{Txid}
use Rattle.txids.specs.Txids.{txid_at}
use Rattle.pool_table.specs.declared.Limits.{Limits}
use Rattle.pool_table.specs.declared.Entry.{Entry}
use Rattle.pool_table.specs.Pool.{entries}
use Rattle.pool_table.specs.Words.{is_legal, slots_in, pool_of, table_of}
use Rattle.pool_table.specs.Changes.{made}
use Rattle.pool_table.specs.Ranges.{limits_in_range, entry_in_range}
use Rattle.pool_table.specs.WellFormed.{well_formed}
use Rattle.pool_rules.specs.declared.Placed.{Placed}
use Rattle.pool_rules.specs.declared.Totals.{Totals}
use Rattle.pool_rules.specs.declared.Sums.{Sums}
use Rattle.pool_rules.specs.Module8.{is_in, slot_of, is_full, lowest_free, is_listed, count_with, size_with, added, removed, cost_set, cleared}

-- a refusal of a call that answers a slot, and of one that answers totals: the number, "and zero for all else"
abbrev pub no_slot : ℕ → Placed
no_slot k = record { answer = k; slot = 0 }

abbrev pub no_totals : ℕ → Totals
no_totals k = record { answer = k; entries = 0; weight = 0 }

abbrev pub placed : ℕ → Placed
placed s = record { answer = 0; slot = s }

-- "Whenever an answer is an enum, a definition gives this paper's number and values for each of the enum's cases": of the look-up
abbrev pub placed_of : Option ℕ → Placed
placed_of (Some s) = placed s
placed_of None = no_slot 10

-- what C is told of a call's outcome: of one that answers a slot, and of one that answers totals
abbrev pub placed_from : Result ℕ Refusal → Placed
placed_from (Ok s) = placed s
placed_from (Err r) = no_slot (number_of r)

abbrev pub totals_from : Result Sums Refusal → Totals
totals_from (Ok s) = record { answer = 0; entries = s.entries; weight = s.weight }
totals_from (Err r) = no_totals (number_of r)

-- the entry that add is given; the txid is the four words of its 32 bytes
abbrev pub entry_of : List ℕ → ℕ → ℕ → ℕ → Entry
entry_of bytes fee weight cost = record { txid = txid_at bytes 0; fee = fee; weight = record { 0 = weight }; cost = cost }

-- 12: the table is not well-formed
abbrev pub broken : List ℕ → Line
broken t = line 12 (not (well_formed t))

-- ---- make: "make 3", for "slots, whole ones, and limits: when made"

unfoldable pub make_refusals : List ℕ → Limits → List Line
make_refusals t l = line 3 (not (is_legal (length t) && limits_in_range l)) ∷ []

unfoldable pub make_answer : List ℕ → Limits → ℕ
make_answer t l = answer_of (make_refusals t l)

unfoldable pub after_make : List ℕ → Limits → List ℕ
after_make t l = kept_unless (make_refusals t l) t (table_of (made l (slots_in (length t))))

-- ---- add: "add 12, 1, 3, 6, 7, 8, 9"

unfoldable pub add_refusals : List ℕ → Entry → List ℕ → List Line
add_refusals t e listed =
    broken t
    ∷ line 1 (not (eqb (length listed % 32) 0))
    ∷ line 3 (not (entry_in_range e))
    ∷ line 6 (is_in (pool_of t) e.txid)
    ∷ line 7 (is_full (pool_of t))
    ∷ line 8 (ltb (pool_of t).limits.count (count_with (pool_of t) (is_listed (pool_of t) e.txid listed)))
    ∷ line 9 (ltb (pool_of t).limits.size (size_with (pool_of t) (is_listed (pool_of t) e.txid listed) e.weight.0))
    ∷ []

unfoldable pub add_reply : List ℕ → Entry → List ℕ → Placed
add_reply t e listed = reply_of no_slot (add_refusals t e listed) (placed (lowest_free (pool_of t)))

unfoldable pub after_add : List ℕ → Entry → List ℕ → List ℕ
after_add t e listed = kept_unless (add_refusals t e listed) t (table_of (added (pool_of t) e listed))

-- ---- remove and set-cost: "remove and set-cost 12, 10"

-- 10: "txid not in the pool"
unfoldable pub named_refusals : List ℕ → Txid → List Line
named_refusals t x = broken t ∷ line 10 (not (is_in (pool_of t) x)) ∷ []

-- both answer the slot
unfoldable pub named_reply : List ℕ → Txid → Placed
named_reply t x = reply_of no_slot (named_refusals t x) (placed (slot_of (pool_of t) x))

unfoldable pub after_remove : List ℕ → Txid → List ℕ
after_remove t x = kept_unless (named_refusals t x) t (table_of (removed (pool_of t) (slot_of (pool_of t) x)))

unfoldable pub after_set_cost : List ℕ → Txid → ℕ → List ℕ
after_set_cost t x c = kept_unless (named_refusals t x) t (table_of (cost_set (pool_of t) (slot_of (pool_of t) x) c))

-- ---- clear and totals: "clear and totals 12"

unfoldable pub clear_answer : List ℕ → ℕ
clear_answer t = answer_of (broken t ∷ [])

unfoldable pub after_clear : List ℕ → List ℕ
after_clear t = kept_unless (broken t ∷ []) t (table_of (cleared (pool_of t)))

-- "totals (entries, total weight)"
unfoldable pub totals_reply : List ℕ → Totals
totals_reply t = reply_of no_totals (broken t ∷ []) (record { answer = 0; entries = entries (pool_of t); weight = (pool_of t).total })
