-- Demand 3, for readers: "From an empty pool, after any sequence of pool calls, refused ones included". `History lent es t`: a pool was made
-- on the table `lent`, `es` are that making and the calls since, the latest first, each with whether it succeeded, and t is the table now.
-- What stands by them is in specs/Standing.antt, without a pool. No proof of a function cites these. Assumes nothing.
use mathlib.Core.Path.{◌≡◌, refl, sym, ap, ◌∙◌, subst}
use mathlib.Core.Bool.{true, false, not, ◌&&◌}
use mathlib.Core.Logic.{◌⊎◌}
use mathlib.Core.List.{List, [], ◌∷◌, ◌++◌}
use Prim.Native.Nat.{ℕ, ◌+◌, ◌≤◌}
use native.Mathlib.Omega.{arith}
use lib.Dec.{eqb}
use lib.ListN.{length, drop}
use borrow.Author.Tests.{ne_eqb}
use Rattle.lists.specs.Lists.{elem, distinct, overwrite}
use Rattle.refusals.specs.declared.Reply.{Reply}
use Rattle.refusals.specs.Refusals.{answer_of, reply_of, kept_unless, refusal, success}
use Rattle.refusals.proofs.Lines.{Takes, succeeds, writes}
use Rattle.txids.specs.declared.Txid.{Txid}
use Rattle.txids.specs.Txids.{same_txid}
use Rattle.weights.specs.Weights.{virtual_size}
use Rattle.ways.specs.Ways.{Way}
use Rattle.pool_table.specs.declared.Entry.{Entry}
use Rattle.pool_table.specs.declared.Limits.{Limits}
use Rattle.pool_table.specs.declared.Side.TheVariants.{Parents}
use Rattle.pool_table.specs.Pool.{Pool, slot_at, slot_count, occupied, entries}
use Rattle.pool_table.specs.Words.{pool_of, table_of}
use Rattle.pool_table.specs.Changes.{with_cost}
use Rattle.pool_table.specs.Links.{is_parent, is_child, in_cluster, in_clusters, count_of, weight_of}
use Rattle.pool_table.specs.WellFormed.{well_formed}
use Rattle.pool_rules.specs.declared.Placed.{Placed}
use Rattle.pool_rules.specs.declared.Totals.{Totals}
use Rattle.pool_rules.specs.Module8.{is_in, slot_of, is_listed}
use Rattle.pool_rules.specs.Calls.{no_slot, placed, make_answer, after_make, add_reply, after_add, named_reply, after_remove, after_set_cost, clear_answer}
use Rattle.pool_rules.specs.Calls.{after_clear, totals_reply}
use Rattle.template_rules.specs.Filling as filling
use Rattle.template_rules.specs.Calls.{template_refusals, template_reply, template_room}
use Rattle.template_rules.proofs.Theorems as rules
use Rattle.template_rules.proofs.Theorems.{Allowed}
use Rattle.pool_history.specs.History.{Call, template, answer_to, table_after, slots_on, Event, History, next}
use Rattle.pool_history.specs.Standing.{stands, who_stand, occurs, none_twice, held, lists, linked, all_added, all_removed, weight_of_entry, one_each}
use Rattle.pool_history.specs.Standing.{how_many, total_weight, board, lowest_unused, limits_now, is_about, is_about_link, standing}
use Rattle.pool_history.specs.Since.{Since, cost_since, not_removed}
use Rattle.pool_history.specs.Kin.{Kin, Joining}
use Rattle.pool_history.specs.Replies.{add_refusals_by, named_refusals_by, template_refusals_by, refusals_by, events_of, calls_of}
use Rattle.pool_history.proofs.Plain.{parent_names, namer}
use Rattle.pool_history.proofs.Kept.{Kept, well_kept}
use Rattle.pool_history.proofs.Answers.{can_template}
use Rattle.pool_history.proofs.Steps as steps
use Rattle.pool_history.proofs.Places.{At, at_slot}
use Rattle.pool_history.proofs.Account.{account}
use Rattle.pool_history.proofs.Follows.{Follows, follows, follows_plain, follows_length, follows_pool, follows_table}
use Rattle.pool_history.proofs.Replies as replies
use Rattle.pool_history.proofs.Since.{since_stands, since_holds, since_linked, since_place, stands_since}
use Rattle.pool_history.proofs.Kin as kin
use Rattle.pool_history.proofs.Who.{who_stands, counted, as_many}
use Rattle.pool_history.proofs.Others.{Same, other_same, link_same}

-- a history goes on with a call that succeeds
pub goes_on : {lent : List ℕ} {es : List Event} {t : List ℕ} → History lent es t → (c : Call) → answer_to t c ≡ 0
    → History lent (record { call = c; done = true } ∷ es) (table_after t c)
goes_on {lent} {es} {t} h c z = subst (λ (k : ℕ). History lent (record { call = c; done = eqb k 0 } ∷ es) (table_after t c)) z (next c h)

module _ {lent : List ℕ} {es : List Event} {t : List ℕ} (h : History lent es t) where
  -- how many slots the pool has
  abbrev n : ℕ
  n = slots_on lent

  so : Follows lent es t
  so = follows h

  kept : Kept (pool_of t)
  kept = well_kept t so.well

  -- ---- what holds of the links

  -- "parents and children name each other"
  pub parents_and_children : (a b : ℕ) → is_parent (pool_of t) a b ≡ is_child (pool_of t) b a
  parents_and_children = steps.name_each_other kept

  -- "no parent chain closes on itself"
  pub no_chain_closes : (a : ℕ) → Way (is_parent (pool_of t)) a a → ⊥
  no_chain_closes = steps.no_chain_closes kept

  -- "and no cluster passes the pool's count .. limit": the one of the last making that succeeded
  pub cluster_count : (s : ℕ) → occupied (pool_of t) s ≡ true → count_of (pool_of t) (in_cluster (pool_of t) s) ≤ (limits_now es).count
  cluster_count s o = omega (arith, steps.within_count kept s o, ap (λ (l : Limits). l.count) so.right.limits)

  -- "or size limit": its raw weight together, as virtual size
  pub cluster_size : (s : ℕ) → occupied (pool_of t) s ≡ true → virtual_size (weight_of (pool_of t) (in_cluster (pool_of t) s)) ≤ (limits_now es).size
  cluster_size s o = omega (arith, steps.within_size kept s o, ap (λ (l : Limits). l.size) so.right.limits)

  -- ---- "So no later call finds the pool ill-formed"

  pub well_formed_lem : well_formed t ≡ true
  well_formed_lem = so.well

  -- 12 is not answered again, whatever the call
  pub never_ill_formed : (c : Call) → answer_to t c ≡ 12 → ⊥
  never_ill_formed = replies.follows_never so

  -- ---- "Which entries and links stand, and what each entry holds, follows from the calls by 01's module 8."

  -- an entry is in the pool exactly where it stands by the events: where some add of its txid succeeded since the last making or clear and
  -- no remove of it succeeded after
  pub entry_stands : (x : Txid) → is_in (pool_of t) x ≡ stands es x
  entry_stands = replies.follows_in so

  pub entry_since : (x : Txid) → is_in (pool_of t) x ≡ true → Since es x
  entry_since x i = stands_since es x (sym (entry_stands x) ∙ i)

  pub since_entry : (x : Txid) → Since es x → is_in (pool_of t) x ≡ true
  since_entry x u = entry_stands x ∙ since_stands es x u

  -- "An entry keeps what its add gave it, save a cost set later."
  pub entry_holds : (x : Txid) → stands es x ≡ true → (slot_at (pool_of t) (slot_of (pool_of t) x)).entry ≡ held es x
  entry_holds x e = (so.right.told x (slot_of (pool_of t) x) (replies.follows_at so x e)).held

  pub holds_since : (x : Txid) (u : Since es x)
      → (slot_at (pool_of t) (slot_of (pool_of t) x)).entry ≡ with_cost (cost_since x u.newer u.entry.cost) u.entry
  holds_since x u = entry_holds x (since_stands es x u) ∙ since_holds es x u

  -- "Adding takes the lowest free slot"
  pub entry_place : (x : Txid) → stands es x ≡ true → slot_of (pool_of t) x ≡ (board n es).place x
  entry_place = replies.follows_slot so

  -- it was the lowest that was not in use when the entry was added
  pub place_since : (x : Txid) (u : Since es x) → slot_of (pool_of t) x ≡ lowest_unused n (board n u.older)
  place_since x u = entry_place x (since_stands es x u) ∙ since_place n es x u

  -- "a freed slot is free."
  pub slot_used : (s : ℕ) → occupied (pool_of t) s ≡ (board n es).used s
  slot_used = so.right.used

  -- no slot holds anything else: one entry to a slot, one slot to an entry
  pub slot_holds : (s : ℕ) → occupied (pool_of t) s ≡ true
      → (stands es (slot_at (pool_of t) s).entry.txid ≡ true) × (slot_of (pool_of t) (slot_at (pool_of t) s).entry.txid ≡ s)
  slot_holds s o =
      let x = (slot_at (pool_of t) s).entry.txid in
      let a : At (pool_of t) x s = record { there = o; named = refl } in
      ((so.right.told x s a).stands, at_slot (follows_plain so) a)

  -- "A listed parent not in the pool, the own txid, or a repeat is ignored. Every other listed parent is linked, both ways, and a link stands
  -- until one of its ends is removed or the pool is cleared or made anew." A txid that does not stand has no slot and no link
  pub link_stands : (x y : Txid) → is_parent (pool_of t) (slot_of (pool_of t) x) (slot_of (pool_of t) y) ≡ linked es x y
  link_stands = kin.follows_link so

  pub link_ends : (x y : Txid) → linked es x y ≡ true → (stands es x ≡ true) × (stands es y ≡ true)
  link_ends = so.right.ends

  -- the child's add listed the parent, which stood then and was not the child itself, and has not been removed since
  pub link_since : (x y : Txid) (u : Since es x)
      → is_parent (pool_of t) (slot_of (pool_of t) x) (slot_of (pool_of t) y)
      ≡ ((lists u.listed y && (stands u.older y && not (same_txid x y))) && not_removed y u.newer)
  link_since x y u = link_stands x y ∙ since_linked es x u y

  -- no slot names another without such a link, and both are in use
  pub link_holds : (a b : ℕ) → is_parent (pool_of t) a b ≡ true
      → (occupied (pool_of t) a ≡ true) × (occupied (pool_of t) b ≡ true)
      × (linked es (slot_at (pool_of t) a).entry.txid (slot_at (pool_of t) b).entry.txid ≡ true)
  link_holds a b e =
      let k = parent_names (pool_of t) a b e in
      (namer (follows_plain so) Parents a b k, (follows_plain so).named Parents a b k, kin.parent_link so a b k)

  -- "The total weight equals all weights added less all removed, since the last clear or making."
  pub total_stands : (pool_of t).total + all_removed weight_of_entry es ≡ all_added weight_of_entry es
  total_stands = so.right.total

  -- "a made-up number of entries" is shut out: they are all that were added less all that were removed since then
  pub count_stands : entries (pool_of t) + all_removed one_each es ≡ all_added one_each es
  count_stands = so.right.entries

  -- and they are as many as stand: this list has each that stands, none twice, and is as long
  pub who_occurs : (x : Txid) → occurs x (who_stand es) ≡ stands es x
  who_occurs = who_stands es

  pub who_once : none_twice (who_stand es) ≡ true
  who_once = (counted h).once

  pub who_many : length (who_stand es) ≡ how_many es
  who_many = as_many (counted h)

  pub who_entries : entries (pool_of t) ≡ length (who_stand es)
  who_entries = replies.follows_entries so ∙ sym who_many

  -- "stores both limits and the bytes per sigop, kept until it is made anew"
  pub limits_stand : (pool_of t).limits ≡ limits_now es
  limits_stand = so.right.limits

  pub slots_stay : slot_count (pool_of t) ≡ n
  slots_stay = so.right.count

  pub length_stays : length t ≡ length lent
  length_stays = follows_length so

  -- all of it at once, word by word
  pub pool_stands : pool_of t ≡ standing n es
  pool_stands = follows_pool so

  pub table_stands : t ≡ table_of (standing n es)
  table_stands = follows_table so

  -- "follows from the calls": which of them succeed, too
  pub calls_alone : es ≡ events_of n (calls_of es)
  calls_alone = replies.follows_calls h

  -- ---- what a call answers

  -- which refusal, in terms of what stands
  pub answer_stands : (c : Call) → answer_to t c ≡ answer_of (refusals_by n es c)
  answer_stands = replies.follows_answer so

  -- the clusters of 8 and 9 are those of the links that stand: one entry's, and those of a newcomer's listed parents together
  pub cluster_kin : (x y : Txid) → stands es x ≡ true → stands es y ≡ true
      → in_cluster (pool_of t) (slot_of (pool_of t) x) (slot_of (pool_of t) y) ≡ true → Kin es x y
  cluster_kin = kin.follows_kin so

  pub kin_cluster : (x y : Txid) → Kin es x y → in_cluster (pool_of t) (slot_of (pool_of t) x) (slot_of (pool_of t) y) ≡ true
  kin_cluster = kin.kin_follows so

  pub clusters_joining : (own : Txid) (listed : List ℕ) (y : Txid) → stands es y ≡ true
      → in_clusters (pool_of t) (is_listed (pool_of t) own listed) (slot_of (pool_of t) y) ≡ true → Joining es own listed y
  clusters_joining = kin.follows_joining so

  pub joining_clusters : (own : Txid) (listed : List ℕ) (y : Txid) → Joining es own listed y
      → in_clusters (pool_of t) (is_listed (pool_of t) own listed) (slot_of (pool_of t) y) ≡ true
  joining_clusters = kin.joining_follows so

  -- so that the numbers of 8 and 9 count no free slot
  pub cluster_held : (s b : ℕ) → occupied (pool_of t) s ≡ true → in_cluster (pool_of t) s b ≡ true → occupied (pool_of t) b ≡ true
  cluster_held = kin.follows_held so

  pub clusters_held : (own : Txid) (listed : List ℕ) (b : ℕ) → in_clusters (pool_of t) (is_listed (pool_of t) own listed) b ≡ true
      → occupied (pool_of t) b ≡ true
  clusters_held = kin.joined_held so

  -- "add, remove and set-cost (each answers the slot)"
  pub add_answers : (e : Entry) (listed : List ℕ)
      → add_reply t e listed ≡ reply_of no_slot (add_refusals_by n es e listed) (placed (lowest_unused n (board n es)))
  add_answers = replies.follows_add so

  pub named_answers : (x : Txid) → named_reply t x ≡ reply_of no_slot (named_refusals_by es x) (placed ((board n es).place x))
  named_answers = replies.follows_named so

  -- "totals (entries, total weight)"
  pub totals_answers : totals_reply t ≡ record { answer = 0; entries = how_many es; weight = total_weight es }
  totals_answers = replies.follows_totals so

  -- ---- templates

  -- by the calls alone: which refusal, else the length of the template of the pool that stands, and the room that begins with it
  pub template_answers : (w : filling.Settings) (room : List ℕ)
      → template_reply t w room ≡ reply_of refusal (template_refusals_by n es w room) (success (length (filling.template (standing n es) w)))
  template_answers = replies.follows_template so

  pub template_writes : (w : filling.Settings) (room : List ℕ)
      → template_room t w room ≡ kept_unless (template_refusals_by n es w room) room (overwrite (filling.template (standing n es) w) room)
  template_writes = replies.follows_room so

  module _ (w : filling.Settings) where
    -- the template of the pool, of which all below speaks
    abbrev chosen : List ℕ
    chosen = filling.template (pool_of t) w

    -- it is the one of the pool that stands, of which the two above speak
    pub template_stands : chosen ≡ filling.template (standing n es) w
    template_stands = ap (λ (p : Pool). filling.template p w) pool_stands

    -- "a template that is answered equals demand 2's": its length is answered, and the room begins with it
    pub template_answered : (room : List ℕ) → answer_to t (template w room) ≡ 0
        → ((template_reply t w room).written ≡ length chosen) × (length chosen ≤ length room)
        × (template_room t w room ≡ chosen ++ drop (length chosen) room)
    unfolding template_reply template_room
    template_answered room z =
        let y : answer_of (template_refusals t w room) ≡ 0 = sym (steps.answer_is t (template w room)) ∙ z in
        let none : Takes (template_refusals t w room) = record { answer = y } in (
          sym (ap (λ (r : Reply). r.written) (succeeds refusal (success (length chosen)) none refl)),
          omega (arith, rules.template_few (pool_of t) kept.good kept.few w, can_template t w room y),
          sym (writes room (overwrite chosen room) none refl),
        )

    -- "names no transaction twice": no slot, and slots and transactions are one for one
    pub template_once : distinct chosen ≡ true
    template_once = rules.template_once (pool_of t) kept.good kept.few w

    pub template_names : (a b : ℕ) → elem a chosen ≡ true → elem b chosen ≡ true
        → (slot_at (pool_of t) a).entry.txid ≡ (slot_at (pool_of t) b).entry.txid → a ≡ b
    template_names a b i j =
        let held : (s : ℕ) → elem s chosen ≡ true → occupied (pool_of t) s ≡ true = rules.template_held (pool_of t) kept.good kept.few w in
        (follows_plain so).distinct a b (held a i) (held b j)

    -- "and each after all its ancestors in the pool"
    pub template_after : (xs ys : List ℕ) (s a : ℕ) → chosen ≡ xs ++ (s ∷ ys) → Way (is_parent (pool_of t)) s a → elem a xs ≡ true
    template_after = rules.template_after (pool_of t) kept.good kept.few w

    -- "with raw weight within the budget"
    pub template_budget : filling.raw_sum (pool_of t) chosen ≤ w.terms.budget.0
    template_budget = rules.template_budget (pool_of t) kept.good kept.few w

    -- "and, unless it is empty, sigops plus reserve at most 80,000"
    pub template_sigops : (chosen ≡ []) ⊎ (filling.cost_sum (pool_of t) chosen + w.terms.reserve ≤ 80000)
    template_sigops = rules.template_sigops (pool_of t) kept.good kept.few w

-- ---- nothing is lost

module _ {lent : List ℕ} {es : List Event} {t : List ℕ} (h : History lent es t) (c : Call) where
  -- the pool before the call, and after it
  abbrev p : Pool
  p = pool_of t

  abbrev q : Pool
  q = pool_of (table_after t c)

  -- "A refusal .. all lent memory stays."
  pub refused_leaves : (answer_to t c ≡ 0 → ⊥) → table_after t c ≡ t
  refused_leaves z = steps.refused_stays t c (ne_eqb (answer_to t c) 0 z)

  -- "No call changes another entry's own numbers": it is in the pool exactly where it was, in its slot, and holds what it held
  module _ (x : Txid) (e : is_about c x ≡ false) where
    same : Same (account (slots_on lent) es) (account (slots_on lent) (record { call = c; done = eqb (answer_to t c) 0 } ∷ es)) x
    same = other_same (slots_on lent) es c (eqb (answer_to t c) 0) x e

    pub other_stays : is_in q x ≡ is_in p x
    other_stays = entry_stands (next c h) x ∙ same.stands ∙ sym (entry_stands h x)

    pub other_keeps : is_in p x ≡ true → (slot_of q x ≡ slot_of p x) × ((slot_at q (slot_of q x)).entry ≡ (slot_at p (slot_of p x)).entry)
    other_keeps i =
        let u : stands es x ≡ true = sym (entry_stands h x) ∙ i in
        let v = same.stands ∙ u in (
          entry_place (next c h) x v ∙ same.place ∙ sym (entry_place h x u),
          entry_holds (next c h) x v ∙ same.held ∙ sym (entry_holds h x u),
        )

  -- "or any other link"
  pub other_link : (x y : Txid) → is_about_link c x y ≡ false
      → is_parent q (slot_of q x) (slot_of q y) ≡ is_parent p (slot_of p x) (slot_of p y)
  other_link x y e = link_stands (next c h) x y ∙ link_same (slots_on lent) es c (eqb (answer_to t c) 0) x y e ∙ sym (link_stands h x y)

-- ---- "prove that any two outcomes allowed by one contract coincide": of each pool call on any table, what it answers and what it leaves; of
-- template it is `template_outcome` of template_rules. `Allowed reply after a l`, of template_rules/proofs/Theorems.antt: a is that reply, and
-- l is what is to be left

coincide : {R : Type 0} {reply a b : R} {after l m : List ℕ} → Allowed reply after a l → Allowed reply after b m → (a ≡ b) × (l ≡ m)
coincide x y = (x.answers ∙ sym y.answers, x.leaves ∙ sym y.leaves)

module _ (t : List ℕ) {l m : List ℕ} where
  pub make_one : (limits : Limits) {a b : ℕ} → Allowed (make_answer t limits) (after_make t limits) a l
      → Allowed (make_answer t limits) (after_make t limits) b m → (a ≡ b) × (l ≡ m)
  make_one limits = coincide

  pub add_one : (e : Entry) (listed : List ℕ) {a b : Placed} → Allowed (add_reply t e listed) (after_add t e listed) a l
      → Allowed (add_reply t e listed) (after_add t e listed) b m → (a ≡ b) × (l ≡ m)
  add_one e listed = coincide

  pub remove_one : (x : Txid) {a b : Placed} → Allowed (named_reply t x) (after_remove t x) a l → Allowed (named_reply t x) (after_remove t x) b m
      → (a ≡ b) × (l ≡ m)
  remove_one x = coincide

  pub set_cost_one : (x : Txid) (c : ℕ) {a b : Placed} → Allowed (named_reply t x) (after_set_cost t x c) a l
      → Allowed (named_reply t x) (after_set_cost t x c) b m → (a ≡ b) × (l ≡ m)
  set_cost_one x c = coincide

  pub clear_one : {a b : ℕ} → Allowed (clear_answer t) (after_clear t) a l → Allowed (clear_answer t) (after_clear t) b m → (a ≡ b) × (l ≡ m)
  clear_one = coincide

  -- totals is lent the table to read alone
  pub totals_one : {a b : Totals} → Allowed (totals_reply t) t a l → Allowed (totals_reply t) t b m → (a ≡ b) × (l ≡ m)
  totals_one = coincide
