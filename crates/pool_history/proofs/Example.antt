-- A history of three calls on a table of two slots, and of five more, computed by the definitions: there are histories, and wrong programs
-- contradict this one. Assumes nothing.
use mathlib.Core.Path.{◌≡◌, refl, sym, ap, ◌∙◌}
use mathlib.Core.Bool.{true, false, or-false}
use mathlib.Core.List.{List, [], ◌∷◌, ◌++◌}
use Prim.Native.Nat.{ℕ, ◌≤◌}
use native.Mathlib.Omega.{arith}
use lib.ListN.{length, replicate}
use lib.IntN.{pos}
use borrow.Author.Tests.{le-ltb}
use Rattle.lists.specs.Below.{any_from, count_from, first_from}
use Rattle.lists.specs.Lists.{same}
use Rattle.refusals.specs.Refusals.{answer_of, reply_of}
use Rattle.txids.specs.declared.Txid.{Txid}
use Rattle.txids.specs.Txids.{number_of, word_at, txid_at, same_txid}
use Rattle.txids.proofs.Theorems.{same_equal}
use Rattle.weights.specs.Weights.{virtual_size, adjusted}
use Rattle.pool_table.specs.declared.Entry.{Entry}
use Rattle.pool_table.specs.declared.Limits.{Limits}
use Rattle.pool_table.specs.Pool.{Pool, slot_at, is_occupied, entries}
use Rattle.pool_table.specs.Words.{pool_of}
use Rattle.pool_table.specs.Ranges.{limits_in_range, entry_in_range}
use Rattle.ways.specs.Ways.{reach}
use Rattle.txset.specs.Sets.{has, has_in}
use Rattle.slotsets.specs.SlotSets.{word_of, words_of, set_of}
use Rattle.pool_table.specs.Changes.{with_cost, free_slots, made}
use Rattle.pool_table.specs.Links.{is_parent, is_child, is_linked, in_cluster, in_clusters, count_of, sum_from, weight_of}
use Rattle.pool_rules.specs.Module8.{holds, is_in, slot_of, is_place_of, is_listed, count_with, size_with, each_from, with_slots}
use Rattle.chunk_tests.specs.Tests.{is_negative, is_below}
use Rattle.pool_chunks.specs.Chunks.{fee_of, size_of}
use Rattle.pool_chunks.specs.Sorted.{delta_in_range, bad_delta}
use Rattle.template_rules.specs.Filling as filling
use Rattle.template_rules.proofs.One.{Fits}
use Rattle.pool_history.specs.History.{make, add, remove, set_cost, clear, answer_to, table_after, slots_on, Event, History, begun, next}
use Rattle.pool_history.specs.Standing.{stands, held, linked, lists, all_added, all_removed, total_weight, how_many, board, lowest_unused}
use Rattle.pool_history.specs.Standing.{standing_at, limits_now, standing}
use Rattle.pool_history.specs.Replies.{add_refusals_by, named_refusals_by, template_refusals_by, refusals_by}
use Rattle.pool_history.proofs.Theorems.{goes_on, link_stands, count_stands, answer_stands, totals_answers, template_answers, pool_stands}
use Rattle.pool_history.proofs.Theorems.{entry_holds, entry_place, limits_stand, refused_leaves}
use Rattle.pool_rules.specs.Calls.{make_refusals, make_answer, after_make, totals_reply}
use Rattle.pool_table.specs.Words.{is_legal, slots_in}
use Rattle.template_rules.specs.Calls.{template_reply}
use Rattle.pool_history.proofs.Refuted.{lone_taken, cleared_empty, template_lone}

-- a pool is made, a parent is added, and its child
abbrev pub bounds : Limits
bounds = record { count = 64; size = 101000; bytes_per_sigop = 20 }

abbrev pub parent : Entry
parent = record { txid = record { w0 = 1; w1 = 0; w2 = 0; w3 = 0 }; fee = 100; weight = record { 0 = 400 }; cost = 4 }

abbrev pub child : Entry
child = record { txid = record { w0 = 2; w1 = 0; w2 = 0; w3 = 0 }; fee = 200; weight = record { 0 = 800 }; cost = 4 }

-- the 32 bytes of the parent's txid
abbrev pub parent_bytes : List ℕ
parent_bytes = replicate 7 0 ++ (1 ∷ replicate 24 0)

abbrev pub first : List Event
first = record { call = make bounds; done = true } ∷ []

abbrev pub second : List Event
second = record { call = add parent []; done = true } ∷ first

abbrev pub third : List Event
third = record { call = add child parent_bytes; done = true } ∷ second

-- then the parent is removed and added again, the child's cost is set, its second add is refused, and the pool is made anew
abbrev pub fourth : List Event
fourth = record { call = remove parent.txid; done = true } ∷ third

abbrev pub fifth : List Event
fifth = record { call = add parent []; done = true } ∷ fourth

abbrev pub sixth : List Event
sixth = record { call = set_cost child.txid 8; done = true } ∷ fifth

abbrev pub seventh : List Event
seventh = record { call = add child parent_bytes; done = false } ∷ sixth

abbrev pub fewer : Limits
fewer = record { count = 1; size = 1000; bytes_per_sigop = 0 }

abbrev pub eighth : List Event
eighth = record { call = make fewer; done = true } ∷ seventh

-- the child's first add has no refusal
no_refusal : answer_of (refusals_by 2 second (add child parent_bytes)) ≡ 0
unfolding refusals_by add_refusals_by answer_of entry_in_range stands same_txid same how_many all_added all_removed limits_now count_with size_with count_of weight_of sum_from count_from in_clusters any_from first_from is_listed is_place_of is_in slot_of holds txid_at word_at number_of in_cluster reach is_linked is_parent is_child has_in has slot_at is_occupied virtual_size standing standing_at with_slots each_from made free_slots total_weight board lowest_unused held linked lists set_of words_of word_of
no_refusal = refl

-- no deltas, nothing withheld, and room in the block
abbrev pub asked : filling.Settings
asked =
    record {
      deltas = pos 0 ∷ pos 0 ∷ [];
      marks = 0 ∷ 0 ∷ [];
      terms = record { budget = record { 0 = 4000000 }; reserve = 400; minimum = 1000 };
    }

fits : Fits (standing 2 second) asked 0
unfolding slot_at standing standing_at with_slots each_from made free_slots board lowest_unused first_from held same_txid same limits_now delta_in_range is_negative is_below filling.withheld fee_of size_of adjusted virtual_size
fits = record { delta = refl; fee = refl; minimum = refl; mark = refl; weight = omega arith; cost = omega arith }

good_deltas : bad_delta (standing 2 second) (pos 0 ∷ pos 0 ∷ []) ≡ false
unfolding bad_delta any_from is_occupied delta_in_range slot_at standing standing_at with_slots each_from made free_slots board lowest_unused first_from held same_txid same
good_deltas = refl

-- ---- whatever words the table held

module _ (lent : List ℕ) (long : length lent ≡ 82) where
  two : slots_on lent ≡ 2
  unfolding slots_in
  two = rw long

  pub after_first : History lent first (after_make lent bounds)
  unfolding make_answer make_refusals answer_of is_legal slots_in limits_in_range
  after_first = begun bounds (rw long)

  abbrev t1 : List ℕ
  t1 = after_make lent bounds

  abbrev t2 : List ℕ
  t2 = table_after t1 (add parent [])

  abbrev t3 : List ℕ
  t3 = table_after t2 (add child parent_bytes)

  parent_taken : answer_to t1 (add parent []) ≡ 0
  unfolding entry_in_range stands how_many all_added all_removed limits_now virtual_size
  parent_taken = lone_taken after_first parent refl refl (omega (arith, two)) (omega arith)

  pub after_second : History lent second t2
  after_second = goes_on after_first (add parent []) parent_taken

  pub after_third : History lent third t3
  after_third = goes_on after_second (add child parent_bytes) (answer_stands after_second (add child parent_bytes) ∙ rw two no_refusal)

  -- ---- what it leaves

  -- no "made-up number of entries or total weight"
  pub two_entries : totals_reply t3 ≡ record { answer = 0; entries = 2; weight = 1200 }
  unfolding how_many total_weight all_added all_removed held
  two_entries = totals_answers after_third

  -- no "links .. lost": the child names its parent
  pub child_linked : is_parent (pool_of t3) (slot_of (pool_of t3) child.txid) (slot_of (pool_of t3) parent.txid) ≡ true
  unfolding stands linked lists any_from same_txid same txid_at word_at number_of
  child_linked = link_stands after_third child.txid parent.txid

  -- "or invented": and not the other way
  pub parent_not : is_parent (pool_of t3) (slot_of (pool_of t3) parent.txid) (slot_of (pool_of t3) child.txid) ≡ false
  unfolding stands linked lists any_from same_txid same txid_at word_at number_of
  parent_not = link_stands after_third parent.txid child.txid

  -- a clear that forgets nothing is another
  pub clear_forgets : table_after t3 clear ≡ t3 → ⊥
  unfolding all_added all_removed
  clear_forgets e = omega (arith, ap (λ (t : List ℕ). entries (pool_of t)) e, cleared_empty after_third, count_stands after_third)

  -- ---- a template that is always empty is another: with the parent alone in the pool, it is the template

  parent_at : slot_of (pool_of t2) parent.txid ≡ 0
  unfolding stands same_txid same board lowest_unused first_from
  parent_at = entry_place after_second parent.txid refl ∙ rw two

  pool_is : pool_of t2 ≡ standing 2 second
  pool_is = pool_stands after_second ∙ ap (λ (n : ℕ). standing n second) two

  parent_fits : Fits (pool_of t2) asked (slot_of (pool_of t2) parent.txid)
  parent_fits = rw (parent_at, pool_is) fits

  alone : (y : Txid) → stands second y ≡ true → y ≡ parent.txid
  unfolding stands
  alone y e = sym (same_equal parent.txid y (sym (or-false (same_txid parent.txid y)) ∙ e))

  pub template_parent : filling.template (pool_of t2) asked ≡ 0 ∷ []
  unfolding stands same_txid same
  template_parent =
      template_lone after_second asked parent.txid refl alone parent_fits ∙ ap (λ (s : ℕ). s ∷ []) parent_at

  pub template_has : (room : List ℕ) → 1 ≤ length room → template_reply t2 asked room ≡ record { answer = 0; written = 1 }
  unfolding reply_of template_refusals_by answer_of how_many all_added all_removed
  template_has room one =
      let same_one : filling.template (standing 2 second) asked ≡ 0 ∷ [] =
      ap (λ (p : Pool). filling.template p asked) (sym pool_is) ∙ template_parent in
      template_answers after_second asked room ∙ rw (two, good_deltas, le-ltb (length room) 1 one, same_one)

  -- ---- the history goes on

  abbrev t4 : List ℕ
  t4 = table_after t3 (remove parent.txid)

  abbrev t5 : List ℕ
  t5 = table_after t4 (add parent [])

  abbrev t6 : List ℕ
  t6 = table_after t5 (set_cost child.txid 8)

  abbrev t7 : List ℕ
  t7 = table_after t6 (add child parent_bytes)

  abbrev t8 : List ℕ
  t8 = table_after t7 (make fewer)

  pub after_fourth : History lent fourth t4
  unfolding refusals_by named_refusals_by answer_of stands same_txid same
  after_fourth = goes_on after_third (remove parent.txid) (answer_stands after_third (remove parent.txid))

  pub after_fifth : History lent fifth t5
  unfolding entry_in_range stands same_txid same how_many all_added all_removed limits_now virtual_size
  after_fifth = goes_on after_fourth (add parent []) (lone_taken after_fourth parent refl refl (omega (arith, two)) (omega arith))

  -- "a freed slot is free", and "adding takes the lowest free slot": 0 again
  pub again_lowest : slot_of (pool_of t5) parent.txid ≡ 0
  unfolding stands same_txid same board lowest_unused first_from
  again_lowest = entry_place after_fifth parent.txid refl ∙ rw two

  -- "a link stands until one of its ends is removed": the child's add listed the parent, and yet they are not linked
  pub again_apart : (is_parent (pool_of t5) (slot_of (pool_of t5) child.txid) (slot_of (pool_of t5) parent.txid) ≡ false)
      × (is_parent (pool_of t5) (slot_of (pool_of t5) parent.txid) (slot_of (pool_of t5) child.txid) ≡ false)
  unfolding linked lists any_from same_txid same
  again_apart = (link_stands after_fifth child.txid parent.txid, link_stands after_fifth parent.txid child.txid)

  pub after_sixth : History lent sixth t6
  unfolding refusals_by named_refusals_by answer_of stands same_txid same
  after_sixth = goes_on after_fifth (set_cost child.txid 8) (answer_stands after_fifth (set_cost child.txid 8))

  -- "save a cost set later"
  pub cost_set : (slot_at (pool_of t6) (slot_of (pool_of t6) child.txid)).entry ≡ with_cost 8 child
  unfolding stands held same_txid same
  cost_set = entry_holds after_sixth child.txid refl

  -- 6: "txid already in the pool"
  pub twice_refused : answer_to t6 (add child parent_bytes) ≡ 6
  unfolding refusals_by add_refusals_by answer_of entry_in_range stands same_txid same
  twice_refused = answer_stands after_sixth (add child parent_bytes)

  pub after_seventh : History lent seventh t7
  after_seventh = rw twice_refused at (next (add child parent_bytes) after_sixth)

  -- "all lent memory stays"
  pub twice_stays : t7 ≡ t6
  twice_stays = refused_leaves after_sixth (add child parent_bytes) (λ z. omega (arith, twice_refused, z))

  pub after_eighth : History lent eighth t8
  unfolding refusals_by answer_of limits_in_range
  after_eighth = goes_on after_seventh (make fewer) (answer_stands after_seventh (make fewer))

  -- "Making a pool empties a lent table", and its limits are the new ones
  pub made_anew : (totals_reply t8 ≡ record { answer = 0; entries = 0; weight = 0 }) × ((pool_of t8).limits ≡ fewer)
  unfolding how_many total_weight all_added all_removed limits_now
  made_anew = (totals_answers after_eighth, limits_stand after_eighth)
