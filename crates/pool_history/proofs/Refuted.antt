-- Wrong programs, and after any history the theorem that shuts each out. Assumes nothing.
use mathlib.Core.Path.{◌≡◌, refl, sym, ap, ◌∙◌}
use mathlib.Core.Bool.{Bool, true, false, ◌&&◌, and-true, and-false}
use mathlib.Core.List.{List, [], ◌∷◌}
use Prim.Native.Nat.{ℕ, suc, ◌+◌, ◌≤◌, ◌<◌}
use native.Mathlib.Nat.{zero-add}
use native.Mathlib.Omega.{arith}
use lib.Dec.{leb}
use borrow.Author.Tests.{eq-eqb, ne_eqb, le-ltb, leb-true}
use Rattle.lists.specs.Below.{any_from}
use Rattle.lists.proofs.Below.{at_none}
use Rattle.lists.proofs.Bools.{clash, cases, and_left, is_false}
use Rattle.lists.proofs.Ranges.{count_none}
use Rattle.refusals.specs.Refusals.{answer_of}
use Rattle.txids.specs.declared.Txid.{Txid}
use Rattle.txids.specs.Txids.{same_txid}
use Rattle.txids.proofs.Theorems.{same_equal, equal_same}
use Rattle.weights.specs.Weights.{virtual_size}
use Rattle.pool_table.specs.declared.Entry.{Entry}
use Rattle.pool_table.specs.declared.Limits.{Limits}
use Rattle.pool_table.specs.Pool.{Pool, slot_at, slot_count, occupied, entries}
use Rattle.pool_table.specs.Words.{pool_of}
use Rattle.pool_table.specs.Ranges.{limits_in_range, entry_in_range}
use Rattle.pool_table.specs.Links.{is_parent, is_child, in_clusters, count_of, weight_of}
use Rattle.pool_clusters.proofs.Sums.{sum_none}
use Rattle.pool_rules.specs.Module8.{is_in, slot_of, lowest_free, is_listed, count_with, size_with}
use Rattle.template_rules.specs.Filling as filling
use Rattle.template_rules.proofs.One.{Fits}
use Rattle.template_rules.proofs.Theorems.{template_one}
use Rattle.pool_history.specs.History.{make, add, remove, clear, answer_to, table_after, slots_on, Event, History, begun}
use Rattle.pool_history.specs.Standing.{stands, linked, lists, all_added, all_removed, how_many, board, limits_now, standing}
use Rattle.pool_history.specs.Replies.{add_refusals_by, refusals_by}
use Rattle.pool_history.proofs.Kept.{well_kept, kept_plain}
use Rattle.pool_history.proofs.Answers.{can_add, can_name}
use Rattle.pool_history.proofs.Steps.{answer_is}
use Rattle.pool_history.proofs.Places.{in_at}
use Rattle.pool_history.proofs.AccountMore.{lowest_unused_lem}
use Rattle.pool_history.proofs.Follows.{follows}
use Rattle.pool_history.proofs.Theorems.{goes_on, parents_and_children, well_formed_lem, entry_stands, entry_place, slot_used, slot_holds}
use Rattle.pool_history.proofs.Theorems.{link_stands, link_ends, link_holds, count_stands, limits_stand, answer_stands}

-- a set of no slots has no clusters
module _ (p : Pool) (f : ℕ → Bool) (none : (s : ℕ) → f s ≡ false) where
  no_cluster : (b : ℕ) → in_clusters p f b ≡ false
  unfolding in_clusters
  no_cluster b = at_none _ (slot_count p) 0 (λ a _ _. rw (none a))

  count_alone : count_with p f ≡ 1
  unfolding count_with count_of
  count_alone = ap suc (count_none (in_clusters p f) (slot_count p) (λ b _. no_cluster b))

  size_alone : (weight : ℕ) → size_with p f weight ≡ virtual_size weight
  unfolding size_with weight_of
  size_alone weight =
      ap (λ (k : ℕ). virtual_size (k + weight)) (sum_none _ (in_clusters p f) (slot_count p) 0 no_cluster) ∙ ap virtual_size (zero-add weight)

none_listed : (p : Pool) (own : Txid) (s : ℕ) → is_listed p own [] s ≡ false
unfolding is_listed any_from
none_listed p own s = refl

some_count : (l : Limits) → limits_in_range l ≡ true → 1 ≤ l.count
unfolding limits_in_range
some_count l e =
    let low = and_left (leb 1 l.count && leb l.count 64) (leb 1 l.size && leb l.size 101000) e in
    leb-true 1 l.count (and_left (leb 1 l.count) (leb l.count 64) low)

-- ---- on any table

-- not a making that leaves what the table held: "Making a pool empties a lent table"
pub made_empty : (t : List ℕ) (l : Limits) → answer_to t (make l) ≡ 0 → entries (pool_of (table_after t (make l))) ≡ 0
unfolding all_added all_removed
made_empty t l done = omega (arith, count_stands (begun l done))

-- ---- after any history

module _ {lent : List ℕ} {es : List Event} {t : List ℕ} (h : History lent es t) where
  -- not a pool that refuses every add: an add without parents is taken wherever its numbers are in range, its txid does not stand, a slot is
  -- free and it is not too large by itself
  pub lone_taken : (e : Entry) → entry_in_range e ≡ true → stands es e.txid ≡ false → how_many es < slots_on lent
      → virtual_size e.weight.0 ≤ (limits_now es).size → answer_to t (add e []) ≡ 0
  unfolding refusals_by add_refusals_by answer_of
  lone_taken e ranged absent room light =
      let p = standing (slots_on lent) es in
      let none = none_listed p e.txid in
      let some = some_count (limits_now es) (ap limits_in_range (sym (limits_stand h)) ∙ (kept_plain (well_kept t (well_formed_lem h))).limits) in
      answer_stands h (add e [])
      ∙ rw (ranged, absent, ne_eqb (how_many es) (slots_on lent) (λ z. omega arith), count_alone p _ none, size_alone p _ none e.weight.0)
      (rw (le-ltb (limits_now es).count 1 (omega arith), le-ltb (limits_now es).size (virtual_size e.weight.0) (omega arith)))

  -- not "links or entries lost or invented along the way": what an add that is taken leaves. All else is as it was: `other_stays`, `other_keeps`
  -- and `other_link`
  module _ (e : Entry) (listed : List ℕ) (done : answer_to t (add e listed) ≡ 0) where
    abbrev new : Pool
    new = pool_of (table_after t (add e listed))

    pub added_stands : is_in new e.txid ≡ true
    unfolding stands
    added_stands = entry_stands (goes_on h (add e listed) done) e.txid ∙ rw (equal_same e.txid e.txid refl)

    pub added_one : entries new ≡ suc (entries (pool_of t))
    unfolding all_added all_removed
    added_one = omega (arith, count_stands (goes_on h (add e listed) done), count_stands h)

    -- "Adding takes the lowest free slot"
    pub added_place : slot_of new e.txid ≡ lowest_free (pool_of t)
    unfolding stands board
    added_place =
        let own = equal_same e.txid e.txid refl in
        entry_place (goes_on h (add e listed) done) e.txid (rw own) ∙ rw own (lowest_unused_lem (follows h).right)

    -- its txid did not stand
    absent : stands es e.txid ≡ false
    absent = sym (entry_stands h e.txid) ∙ (can_add t e listed (sym (answer_is t (add e listed)) ∙ done)).absent

    -- it is linked to the listed parents that stand, and to no other
    pub added_links : (y : Txid) → is_parent new (slot_of new e.txid) (slot_of new y) ≡ (lists listed y && is_in (pool_of t) y)
    unfolding linked
    added_links y =
        link_stands (goes_on h (add e listed) done) e.txid y
        ∙ rw (equal_same e.txid e.txid refl, entry_stands h y)
        (ap (λ (b : Bool). lists listed y && b)
        (cases (same_txid e.txid y)
        (λ c. let no : stands es y ≡ false = ap (stands es) (sym (same_equal e.txid y c)) ∙ absent in rw no)
        (λ c. rw c (and-true (stands es y)))))

    no_child : (x : Txid) → linked (record { call = add e listed; done = true } ∷ es) x e.txid ≡ false
    unfolding linked
    no_child x =
        cases (same_txid e.txid x)
        (λ c. rw (c, absent) (and-false (lists listed e.txid)))
        (λ c. rw c (is_false (linked es x e.txid) (λ l. clash (link_ends h x e.txid l).1 absent)))

    -- and it has no child, though the add of another may have listed it before. (The Rust links them then: docs/DIFFERENCES.md)
    pub added_childless : (s : ℕ) → is_child new (slot_of new e.txid) s ≡ false
    added_childless s =
        let g = goes_on h (add e listed) done in
        let a = slot_of new e.txid in
        let x = (slot_at new s).entry.txid in
        is_false (is_child new a s)
        (λ c.
        let l = (link_holds g s a (parents_and_children g s a ∙ c)).2 in
        clash l (ap (linked _ x) (in_at new e.txid added_stands).named ∙ no_child x))

  -- not a remove that removes a second entry: there is one entry less, and it is the named one
  module _ (x : Txid) (done : answer_to t (remove x) ≡ 0) where
    pub removed_one : entries (pool_of t) ≡ suc (entries (pool_of (table_after t (remove x))))
    unfolding all_added all_removed
    removed_one = omega (arith, count_stands (goes_on h (remove x) done), count_stands h)

    pub removed_gone : is_in (pool_of (table_after t (remove x))) x ≡ false
    unfolding stands
    removed_gone = entry_stands (goes_on h (remove x) done) x ∙ rw (equal_same x x refl)

    -- "a freed slot is free"
    pub removed_free : occupied (pool_of (table_after t (remove x))) (slot_of (pool_of t) x) ≡ false
    unfolding board
    removed_free =
        let s = slot_of (pool_of t) x in
        let stood : stands es x ≡ true = sym (entry_stands h x) ∙ can_name t x (sym (answer_is t (remove x)) ∙ done) in
        slot_used (goes_on h (remove x) done) s ∙ rw (eq-eqb s ((board (slots_on lent) es).place x) (entry_place h x stood))

  -- not a clear that forgets nothing
  pub cleared_empty : entries (pool_of (table_after t clear)) ≡ 0
  unfolding all_added all_removed refusals_by answer_of
  cleared_empty = omega (arith, count_stands (goes_on h clear (answer_stands h clear)))

  -- not a template that is always empty: where one entry stands that fits, it is the template. `Fits`, of template_rules/proofs/One.antt, is
  -- what an entry by itself is asked for
  pub template_lone : (w : filling.Settings) (x : Txid) → stands es x ≡ true → ((y : Txid) → stands es y ≡ true → y ≡ x)
      → Fits (pool_of t) w (slot_of (pool_of t) x) → filling.template (pool_of t) w ≡ slot_of (pool_of t) x ∷ []
  template_lone w x i one fits =
      let kept = well_kept t (well_formed_lem h) in
      let at = in_at (pool_of t) x (entry_stands h x ∙ i) in
      template_one (pool_of t) kept.good kept.few w (slot_of (pool_of t) x) at.there
      (λ s o. let u = slot_holds h s o in sym u.1 ∙ ap (slot_of (pool_of t)) (one _ u.0))
      fits
