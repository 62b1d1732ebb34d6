-- Who stands, as a list (specs/Standing.antt): each once, and as many as were added less those that were removed. Assumes nothing.
use mathlib.Core.Path.{◌≡◌, refl, sym, ap, ◌∙◌}
use mathlib.Core.Bool.{Bool, true, false, not, ◌&&◌, ◌||◌, and-false}
use mathlib.Core.List.{List, [], ◌∷◌}
use Prim.Native.Nat.{ℕ, suc, ◌+◌}
use native.Mathlib.Omega.{arith}
use lib.Dec.{eqb}
use lib.ListN.{length}
use borrow.Author.Tests.{eqb-true, not-true}
use Rattle.lists.specs.Lists.{any_of}
use Rattle.lists.proofs.Bools.{clash, cases, and_both, or_left, or_right}
use Rattle.txids.specs.declared.Txid.{Txid}
use Rattle.txids.specs.Txids.{same_txid}
use Rattle.txids.proofs.Theorems.{same_equal}
use Rattle.pool_table.specs.declared.Entry.{Entry}
use Rattle.pool_history.specs.History.{Call, make, add, remove, set_cost, clear, totals, template, answer_to, Event, History, begun, next}
use Rattle.pool_history.specs.Standing.{stands, without, who_stand, occurs, none_twice, all_added, all_removed, one_each, how_many}
use Rattle.pool_history.proofs.Answers.{can_add, can_name}
use Rattle.pool_history.proofs.Steps.{answer_is}
use Rattle.pool_history.proofs.Places.{txids_flip}
use Rattle.pool_history.proofs.Follows.{Follows, follows}
use Rattle.pool_history.proofs.Replies.{follows_in}

-- ---- a list without a txid

occurs_without : (x y : Txid) (zs : List Txid) → occurs x (without y zs) ≡ (not (same_txid y x) && occurs x zs)
unfolding any_of without
occurs_without x y [] = sym (and-false (not (same_txid y x)))
occurs_without x y (z ∷ zs) =
    cases (same_txid y z)
    (λ e.
    let same : same_txid z x ≡ same_txid y x = ap (λ (v : Txid). same_txid v x) (sym (same_equal y z e)) in
    rw (e, same) (occurs_without x y zs ∙ cases (same_txid y x) (λ u. rw u) (λ u. rw u)))
    (λ e.
    rw (e, occurs_without x y zs)
    (cases (same_txid y x)
    (λ u.
    let other : same_txid z x ≡ false = txids_flip z x ∙ ap (λ (v : Txid). same_txid v z) (sym (same_equal y x u)) ∙ e in
    rw (u, other))
    (λ u. rw u)))

-- one that does not occur is not missed
all_without : (y : Txid) (zs : List Txid) → occurs y zs ≡ false → without y zs ≡ zs
unfolding any_of without
all_without y [] e = refl
all_without y (z ∷ zs) e =
    rw (txids_flip y z ∙ or_left (same_txid z y) (occurs y zs) e)
    (ap (λ (l : List Txid). z ∷ l) (all_without y zs (or_right (same_txid z y) (occurs y zs) e)))

once_without : (y : Txid) (zs : List Txid) → none_twice zs ≡ true → none_twice (without y zs) ≡ true
unfolding none_twice without
once_without y [] e = refl
once_without y (z ∷ zs) e =
    let u = and_both (not (occurs z zs)) (none_twice zs) e in
    let none : occurs z (without y zs) ≡ false =
    occurs_without z y zs ∙ ap (λ (b : Bool). not (same_txid y z) && b) (not-true (occurs z zs) u.0) ∙ and-false (not (same_txid y z)) in
    cases (same_txid y z)
    (λ c. rw c (once_without y zs u.1))
    (λ c. rw (c, none) (once_without y zs u.1))

-- and one that occurs, in a list that has none twice, is one less
one_without : (y : Txid) (zs : List Txid) → none_twice zs ≡ true → occurs y zs ≡ true → length zs ≡ suc (length (without y zs))
unfolding any_of none_twice without
one_without y [] e o = clash o refl
one_without y (z ∷ zs) e o =
    let u = and_both (not (occurs z zs)) (none_twice zs) e in
    cases (same_txid y z)
    (λ c.
    let none : occurs y zs ≡ false = ap (λ (v : Txid). occurs v zs) (same_equal y z c) ∙ not-true (occurs z zs) u.0 in
    rw (c, all_without y zs none))
    (λ c.
    let rest : occurs y zs ≡ true = sym (ap (λ (b : Bool). b || occurs y zs) (txids_flip z y ∙ c)) ∙ o in
    rw c (ap suc (one_without y zs u.1 rest)))

-- ---- who stands

who_turn : (c : Call) (d : Bool) (x : Txid) (es : List Event) → occurs x (who_stand es) ≡ stands es x
    → occurs x (who_stand (record { call = c; done = d } ∷ es)) ≡ stands (record { call = c; done = d } ∷ es) x
unfolding any_of stands who_stand
who_turn c false x es h = h
who_turn (make l) true x es h = refl
who_turn (add e listed) true x es h = ap (λ (b : Bool). same_txid e.txid x || b) h
who_turn (remove y) true x es h = occurs_without x y (who_stand es) ∙ ap (λ (b : Bool). not (same_txid y x) && b) h
who_turn (set_cost y c) true x es h = h
who_turn clear true x es h = refl
who_turn totals true x es h = h
who_turn (template w room) true x es h = h

pub who_stands : (es : List Event) (x : Txid) → occurs x (who_stand es) ≡ stands es x
unfolding any_of stands who_stand
who_stands [] x = refl
who_stands (v ∷ es) x = who_turn v.call v.done x es (who_stands es x)

-- ---- after any history

pub record Counted (es : List Event) : Type 0 where
  pub once : none_twice (who_stand es) ≡ true
  pub many : length (who_stand es) + all_removed one_each es ≡ all_added one_each es

module _ {lent : List ℕ} {es : List Event} {t : List ℕ} (h : Follows lent es t) (k : Counted es) where
  -- an add that succeeds is of one that did not stand, a remove of one that did
  counted_add : (e : Entry) (listed : List ℕ) → answer_to t (add e listed) ≡ 0 → Counted (record { call = add e listed; done = true } ∷ es)
  unfolding who_stand none_twice all_added all_removed
  counted_add e listed z =
      let absent = (can_add t e listed (sym (answer_is t (add e listed)) ∙ z)).absent in
      let none : occurs e.txid (who_stand es) ≡ false = who_stands es e.txid ∙ sym (follows_in h e.txid) ∙ absent in
      record { once = rw none k.once; many = omega (arith, k.many) }

  counted_remove : (x : Txid) → answer_to t (remove x) ≡ 0 → Counted (record { call = remove x; done = true } ∷ es)
  unfolding who_stand all_added all_removed
  counted_remove x z =
      let stood = can_name t x (sym (answer_is t (remove x)) ∙ z) in
      let there : occurs x (who_stand es) ≡ true = who_stands es x ∙ sym (follows_in h x) ∙ stood in
      record { once = once_without x (who_stand es) k.once; many = omega (arith, k.many, one_without x (who_stand es) k.once there) }

  counted_done : (c : Call) → answer_to t c ≡ 0 → Counted (record { call = c; done = true } ∷ es)
  unfolding who_stand none_twice all_added all_removed
  counted_done (make l) z = record { once = refl; many = refl }
  counted_done (add e listed) z = counted_add e listed z
  counted_done (remove x) z = counted_remove x z
  counted_done (set_cost x c) z = record { once = k.once; many = k.many }
  counted_done clear z = record { once = refl; many = refl }
  counted_done totals z = record { once = k.once; many = k.many }
  counted_done (template w room) z = record { once = k.once; many = k.many }

  counted_next : (c : Call) → Counted (record { call = c; done = eqb (answer_to t c) 0 } ∷ es)
  unfolding who_stand all_added all_removed
  counted_next c =
      cases (eqb (answer_to t c) 0)
      (λ e. rw e (counted_done c (eqb-true (answer_to t c) 0 e)))
      (λ e. rw e (record { once = k.once; many = k.many }))

pub counted : {lent : List ℕ} {es : List Event} {t : List ℕ} → History lent es t → Counted es
unfolding who_stand none_twice all_added all_removed
counted (begun l z) = record { once = refl; many = refl }
counted (next c h) = counted_next (follows h) (counted h) c

pub as_many : {es : List Event} → Counted es → length (who_stand es) ≡ how_many es
unfolding how_many
as_many k = omega (arith, k.many)
