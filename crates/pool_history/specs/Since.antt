-- What stands, in one sentence each: since the last add of its txid. That specs/Standing.antt says the same, one event after the other, is
-- proofs/Since.antt. Assumes nothing.
use Rattle.std.specs.Prelude.{ℕ, ◌≡◌, Bool, true, false, cond, not, ◌&&◌, List, [], ◌∷◌, ◌++◌}
use Rattle.lists.specs.Lists.{all_of}
use Rattle.txids.specs.declared.Txid.{Txid}
use Rattle.txids.specs.Txids.{same_txid}
use Rattle.pool_table.specs.declared.Entry.{Entry}
use Rattle.pool_history.specs.History.{Call, make, add, remove, set_cost, clear, totals, template, Event}

-- whether a txid comes or goes by a call that succeeds. It is `is_about` of specs/Standing.antt but for one line: a set-cost is about an entry
-- that neither comes nor goes by it
abbrev pub comes_or_goes : Txid → Call → Bool
comes_or_goes x (make l) = true
comes_or_goes x (add e listed) = same_txid e.txid x
comes_or_goes x (remove y) = same_txid y x
comes_or_goes x (set_cost y c) = false
comes_or_goes x clear = true
comes_or_goes x totals = false
comes_or_goes x (template w room) = false

-- no such call succeeded
abbrev pub neither_came_nor_went : Txid → List Event → Bool
neither_came_nor_went x es = all_of (λ e. not (e.done && comes_or_goes x e.call)) es

-- an add of this txid succeeded, and since then no making, no clear and no remove of it: that add, the events after it and those before it,
-- the latest first
pub record Since (es : List Event) (x : Txid) : Type 0 where
  pub entry : Entry
  pub listed : List ℕ
  pub newer : List Event
  pub older : List Event
  pub whole : es ≡ newer ++ (record { call = add entry listed; done = true } ∷ older)
  pub named : entry.txid ≡ x
  pub kept : neither_came_nor_went x newer ≡ true

-- "save a cost set later": the cost that the add gave, or that of the last set-cost of it that succeeded since
abbrev pub cost_after : Txid → Call → ℕ → ℕ
cost_after x (make l) before = before
cost_after x (add e listed) before = before
cost_after x (remove y) before = before
cost_after x (set_cost y c) before = cond (same_txid y x) c before
cost_after x clear before = before
cost_after x totals before = before
cost_after x (template w room) before = before

unfoldable pub cost_since : Txid → List Event → ℕ → ℕ
cost_since x [] first = first
cost_since x (e ∷ es) first = cond e.done (cost_after x e.call (cost_since x es first)) (cost_since x es first)

-- no remove of it succeeded
abbrev pub is_remove_of : Txid → Call → Bool
is_remove_of x (make l) = false
is_remove_of x (add e listed) = false
is_remove_of x (remove y) = same_txid y x
is_remove_of x (set_cost y c) = false
is_remove_of x clear = false
is_remove_of x totals = false
is_remove_of x (template w room) = false

abbrev pub not_removed : Txid → List Event → Bool
not_removed x es = all_of (λ e. not (e.done && is_remove_of x e.call)) es
