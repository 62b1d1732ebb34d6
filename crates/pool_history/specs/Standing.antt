-- Demand 3's last sentence: "Which entries and links stand, and what each entry holds, follows from the calls by 01's module 8." What
-- stands after a list of events, the latest first: by the calls that succeeded alone, without any pool. Assumes nothing.
use Rattle.std.specs.Prelude.{ℕ, ◌+◌, ◌-◌, ◌*◌, Bool, true, false, cond, not, ◌&&◌, ◌||◌, List, [], ◌∷◌, eqb}
use Rattle.lists.specs.Below.{keep_if, any_from, first_from}
use Rattle.lists.specs.Lists.{any_of}
use Rattle.txids.specs.declared.Txid.{Txid}
use Rattle.txids.specs.Txids.{same_txid, txid_at, listed_count}
use Rattle.slotsets.specs.SlotSets.{set_of}
use Rattle.pool_table.specs.declared.Limits.{Limits}
use Rattle.pool_table.specs.declared.Entry.{Entry}
use Rattle.pool_table.specs.Pool.{Slot, Pool, no_txid, no_entry, free}
use Rattle.pool_table.specs.Changes.{with_cost, made}
use Rattle.pool_rules.specs.Module8.{with_slots}
use Rattle.pool_history.specs.History.{Call, make, add, remove, set_cost, clear, totals, template, Event}

-- ---- which entries stand

-- those of which an add succeeded since the last making or clear and no remove succeeded after
abbrev pub stands_after : Call → Txid → Bool → Bool
stands_after (make l) x before = false
stands_after (add e listed) x before = same_txid e.txid x || before
stands_after (remove y) x before = not (same_txid y x) && before
stands_after (set_cost y c) x before = before
stands_after clear x before = false
stands_after totals x before = before
stands_after (template w room) x before = before

unfoldable pub stands : List Event → Txid → Bool
stands [] x = false
stands (e ∷ es) x = cond e.done (stands_after e.call x (stands es x)) (stands es x)

-- the same as a list, the latest added first
unfoldable pub without : Txid → List Txid → List Txid
without y [] = []
without y (x ∷ xs) = keep_if (not (same_txid y x)) x (without y xs)

abbrev pub who_after : Call → List Txid → List Txid
who_after (make l) before = []
who_after (add e listed) before = e.txid ∷ before
who_after (remove y) before = without y before
who_after (set_cost y c) before = before
who_after clear before = []
who_after totals before = before
who_after (template w room) before = before

unfoldable pub who_stand : List Event → List Txid
who_stand [] = []
who_stand (e ∷ es) = cond e.done (who_after e.call (who_stand es)) (who_stand es)

-- whether a list has this txid, and whether it has none twice
abbrev pub occurs : Txid → List Txid → Bool
occurs x xs = any_of (λ y. same_txid y x) xs

unfoldable pub none_twice : List Txid → Bool
none_twice [] = true
none_twice (x ∷ xs) = not (occurs x xs) && none_twice xs

-- ---- what each entry holds

-- "An entry keeps what its add gave it, save a cost set later."
abbrev pub held_after : Call → Txid → Entry → Entry
held_after (make l) x before = before
held_after (add e listed) x before = cond (same_txid e.txid x) e before
held_after (remove y) x before = before
held_after (set_cost y c) x before = cond (same_txid y x) (with_cost c before) before
held_after clear x before = before
held_after totals x before = before
held_after (template w room) x before = before

unfoldable pub held : List Event → Txid → Entry
held [] x = no_entry
held (e ∷ es) x = cond e.done (held_after e.call x (held es x)) (held es x)

-- ---- which links stand

-- whether a list of txids has this one
unfoldable pub lists : List ℕ → Txid → Bool
lists listed x = any_from (λ j. same_txid (txid_at listed (32 * j)) x) (listed_count listed) 0

-- a link from x to its parent y: x's add listed y, which stood then and was not x itself, and "a link stands until one of its ends is removed or
-- the pool is cleared or made anew". `stood` is what stood before the call
abbrev pub linked_after : Call → (Txid → Bool) → Txid → Txid → Bool → Bool
linked_after (make l) stood x y before = false
linked_after (add e listed) stood x y before = cond (same_txid e.txid x) (lists listed y && (stood y && not (same_txid x y))) before
linked_after (remove z) stood x y before = not (same_txid z x) && (not (same_txid z y) && before)
linked_after (set_cost z c) stood x y before = before
linked_after clear stood x y before = false
linked_after totals stood x y before = before
linked_after (template w room) stood x y before = before

unfoldable pub linked : List Event → Txid → Txid → Bool
linked [] x y = false
linked (e ∷ es) x y = cond e.done (linked_after e.call (stands es) x y (linked es x y)) (linked es x y)

-- ---- how many, and what they weigh: "The total weight equals all weights added less all removed, since the last clear or making"

-- the sum, over the adds since then, of what w says of an entry
abbrev pub added_after : (Entry → ℕ) → Call → ℕ → ℕ
added_after w (make l) before = 0
added_after w (add e listed) before = w e + before
added_after w (remove y) before = before
added_after w (set_cost y c) before = before
added_after w clear before = 0
added_after w totals before = before
added_after w (template u room) before = before

unfoldable pub all_added : (Entry → ℕ) → List Event → ℕ
all_added w [] = 0
all_added w (e ∷ es) = cond e.done (added_after w e.call (all_added w es)) (all_added w es)

-- the same over the removes, of the entry that was held before
abbrev pub removed_after : (Entry → ℕ) → Call → (Txid → Entry) → ℕ → ℕ
removed_after w (make l) was before = 0
removed_after w (add e listed) was before = before
removed_after w (remove y) was before = w (was y) + before
removed_after w (set_cost y c) was before = before
removed_after w clear was before = 0
removed_after w totals was before = before
removed_after w (template u room) was before = before

unfoldable pub all_removed : (Entry → ℕ) → List Event → ℕ
all_removed w [] = 0
all_removed w (e ∷ es) = cond e.done (removed_after w e.call (held es) (all_removed w es)) (all_removed w es)

-- each entry weighs its raw weight, and counts as one. That no more is removed than was added is a theorem
abbrev pub weight_of_entry : Entry → ℕ
weight_of_entry e = e.weight.0

abbrev pub one_each : Entry → ℕ
one_each e = 1

unfoldable pub total_weight : List Event → ℕ
total_weight es = all_added weight_of_entry es - all_removed weight_of_entry es

unfoldable pub how_many : List Event → ℕ
how_many es = all_added one_each es - all_removed one_each es

-- ---- where they stand: "Adding takes the lowest free slot; a freed slot is free." The pool has n slots

-- the slot of each txid, which slots are in use, and whose each of these is
pub record Board : Type 0 where
  pub place : Txid → ℕ
  pub used : ℕ → Bool
  pub who : ℕ → Txid

abbrev pub empty_board : Board
empty_board = record { place = λ x. 0; used = λ s. false; who = λ s. no_txid }

unfoldable pub lowest_unused : ℕ → Board → ℕ
lowest_unused n b = first_from (λ s. not (b.used s)) n 0

abbrev pub board_after : ℕ → Call → Board → Board
board_after n (make l) b = empty_board
board_after n (add e listed) b =
    record {
      place = λ x. cond (same_txid e.txid x) (lowest_unused n b) (b.place x);
      used = λ s. eqb s (lowest_unused n b) || b.used s;
      who = λ s. cond (eqb s (lowest_unused n b)) e.txid (b.who s);
    }
board_after n (remove y) b = record { place = b.place; used = λ s. not (eqb s (b.place y)) && b.used s; who = b.who }
board_after n (set_cost y c) b = b
board_after n clear b = empty_board
board_after n totals b = b
board_after n (template w room) b = b

unfoldable pub board : ℕ → List Event → Board
board n [] = empty_board
board n (e ∷ es) = cond e.done (board_after n e.call (board n es)) (board n es)

-- ---- the limits: "stores both limits and the bytes per sigop, kept until it is made anew"

abbrev pub limits_after : Call → Limits → Limits
limits_after (make l) before = l
limits_after (add e listed) before = before
limits_after (remove y) before = before
limits_after (set_cost y c) before = before
limits_after clear before = before
limits_after totals before = before
limits_after (template w room) before = before

unfoldable pub limits_now : List Event → Limits
limits_now [] = record { count = 0; size = 0; bytes_per_sigop = 0 }
limits_now (e ∷ es) = cond e.done (limits_after e.call (limits_now es)) (limits_now es)

-- ---- whom a call is about: "No call changes another entry's own numbers or any other link." Making and clearing are about all

abbrev pub is_about : Call → Txid → Bool
is_about (make l) x = true
is_about (add e listed) x = same_txid e.txid x
is_about (remove y) x = same_txid y x
is_about (set_cost y c) x = same_txid y x
is_about clear x = true
is_about totals x = false
is_about (template w room) x = false

-- of the link from x to its parent y
abbrev pub is_about_link : Call → Txid → Txid → Bool
is_about_link (make l) x y = true
is_about_link (add e listed) x y = same_txid e.txid x
is_about_link (remove z) x y = same_txid z x || same_txid z y
is_about_link (set_cost z c) x y = false
is_about_link clear x y = true
is_about_link totals x y = false
is_about_link (template w room) x y = false

-- ---- all of it: the pool that stands

-- a slot in use holds what its txid holds and names the slots of the txids to which it is linked, parents and children; every other is free
unfoldable pub standing_at : ℕ → List Event → ℕ → Slot
standing_at n es s =
    let b = board n es in
    cond (b.used s)
    (record {
      entry = held es (b.who s);
      parents = set_of (λ i. b.used i && linked es (b.who s) (b.who i));
      children = set_of (λ i. b.used i && linked es (b.who i) (b.who s));
    })
    free

unfoldable pub standing : ℕ → List Event → Pool
standing n es = with_slots (made (limits_now es) n) (total_weight es) (λ s x. standing_at n es s)
