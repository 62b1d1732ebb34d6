-- Demand 3: which refusal a call of a history gets, and what it answers, by what stands. n is how many slots the pool has; 12 is not among
-- the refusals. Assumes nothing.
use Rattle.std.specs.Prelude.{ℕ, ◌%◌, not, ◌||◌, List, [], ◌∷◌, map, eqb, ltb, length}
use Rattle.refusals.specs.Refusals.{Line, line, answer_of, differ, short}
use Rattle.txids.specs.declared.Txid.{Txid}
use Rattle.pool_table.specs.declared.Entry.{Entry}
use Rattle.pool_table.specs.Ranges.{limits_in_range, entry_in_range}
use Rattle.pool_rules.specs.Module8.{is_listed, count_with, size_with}
use Rattle.pool_chunks.specs.Sorted.{bad_delta}
use Rattle.template_rules.specs.Filling.{Settings}
use Rattle.pool_history.specs.History.{Call, make, add, remove, set_cost, clear, totals, template, Event}
use Rattle.pool_history.specs.Standing.{stands, how_many, limits_now, standing}

-- "add .. 1, 3, 6, 7, 8, 9": "txid already in the pool", "no slot free", and the clusters of the listed parents that stand
unfoldable pub add_refusals_by : ℕ → List Event → Entry → List ℕ → List Line
add_refusals_by n es e listed =
    let p = standing n es in
    line 1 (not (eqb (length listed % 32) 0))
    ∷ line 3 (not (entry_in_range e))
    ∷ line 6 (stands es e.txid)
    ∷ line 7 (eqb (how_many es) n)
    ∷ line 8 (ltb (limits_now es).count (count_with p (is_listed p e.txid listed)))
    ∷ line 9 (ltb (limits_now es).size (size_with p (is_listed p e.txid listed) e.weight.0))
    ∷ []

-- "remove and set-cost .. 10": "txid not in the pool"
unfoldable pub named_refusals_by : List Event → Txid → List Line
named_refusals_by es x = line 10 (not (stands es x)) ∷ []

-- "template .. 1, 11, 3"
unfoldable pub template_refusals_by : ℕ → List Event → Settings → List ℕ → List Line
template_refusals_by n es w room =
    line 1 (differ (length w.deltas) n || differ (length w.marks) n)
    ∷ line 11 (short (length room) (how_many es))
    ∷ line 3 (bad_delta (standing n es) w.deltas)
    ∷ []

-- "make 3", and here the slots are whole ones; "clear and totals 12" alone
unfoldable pub refusals_by : ℕ → List Event → Call → List Line
refusals_by n es (make l) = line 3 (not (limits_in_range l)) ∷ []
refusals_by n es (add e listed) = add_refusals_by n es e listed
refusals_by n es (remove x) = named_refusals_by es x
refusals_by n es (set_cost x c) = named_refusals_by es x
refusals_by n es clear = []
refusals_by n es totals = []
refusals_by n es (template w room) = template_refusals_by n es w room

-- ---- the calls alone

-- the events of a list of calls, the latest first: whether a call succeeds follows from those before it
unfoldable pub events_of : ℕ → List Call → List Event
events_of n [] = []
events_of n (c ∷ cs) = record { call = c; done = eqb (answer_of (refusals_by n (events_of n cs) c)) 0 } ∷ events_of n cs

abbrev pub calls_of : List Event → List Call
calls_of es = map (λ e. e.call) es
