-- An entry stands, holds what it holds and is linked by its last add and what succeeded since (specs/Since.antt). Assumes nothing.
use mathlib.Core.Path.{◌≡◌, refl, sym, ap, ap₂, ◌∙◌}
use mathlib.Core.Bool.{Bool, true, false, cond, not, ◌&&◌, ◌||◌, and-true, and-false}
use mathlib.Core.List.{List, [], ◌∷◌, ◌++◌}
use Prim.Native.Nat.{ℕ}
use borrow.Author.Tests.{not-true}
use Rattle.lists.specs.Lists.{all_of}
use Rattle.lists.proofs.Bools.{clash, cases, and_both}
use Rattle.txids.specs.declared.Txid.{Txid}
use Rattle.txids.specs.Txids.{same_txid}
use Rattle.txids.proofs.Theorems.{same_equal, equal_same}
use Rattle.pool_table.specs.declared.Entry.{Entry}
use Rattle.pool_table.specs.Changes.{with_cost}
use Rattle.pool_history.specs.History.{Call, make, add, remove, set_cost, clear, totals, template, Event}
use Rattle.pool_history.specs.Standing.{stands_after, stands, held_after, held, lists, linked_after, linked, Board, lowest_unused, board_after}
use Rattle.pool_history.specs.Standing.{board}
use Rattle.pool_history.specs.Since.{comes_or_goes, neither_came_nor_went, Since, cost_after, cost_since, is_remove_of, not_removed}

-- ---- one event by which x neither comes nor goes

stands_turn : (x : Txid) (c : Call) (d b : Bool) → not (d && comes_or_goes x c) ≡ true → cond d (stands_after c x b) b ≡ b
stands_turn x c false b e = refl
stands_turn x (make l) true b e = clash e refl
stands_turn x (add i listed) true b e = rw (not-true (same_txid i.txid x) e)
stands_turn x (remove y) true b e = rw (not-true (same_txid y x) e)
stands_turn x (set_cost y c) true b e = refl
stands_turn x clear true b e = clash e refl
stands_turn x totals true b e = refl
stands_turn x (template w room) true b e = refl

held_turn : (x : Txid) (c : Call) (d : Bool) (i : Entry) (k : ℕ) → not (d && comes_or_goes x c) ≡ true
    → cond d (held_after c x (with_cost k i)) (with_cost k i) ≡ with_cost (cond d (cost_after x c k) k) i
held_turn x c false i k e = refl
held_turn x (make l) true i k e = clash e refl
held_turn x (add j listed) true i k e = rw (not-true (same_txid j.txid x) e)
held_turn x (remove y) true i k e = refl
held_turn x (set_cost y c) true i k e = cases (same_txid y x) (λ z. rw z) (λ z. rw z)
held_turn x clear true i k e = clash e refl
held_turn x totals true i k e = refl
held_turn x (template w room) true i k e = refl

linked_turn : (x y : Txid) (c : Call) (d : Bool) (stood : Txid → Bool) (b r : Bool) → not (d && comes_or_goes x c) ≡ true
    → cond d (linked_after c stood x y (b && r)) (b && r) ≡ (b && (not (d && is_remove_of y c) && r))
linked_turn x y c false stood b r e = refl
linked_turn x y (make l) true stood b r e = clash e refl
linked_turn x y (add i listed) true stood b r e = rw (not-true (same_txid i.txid x) e)
linked_turn x y (remove z) true stood b r e = rw (not-true (same_txid z x) e) (cases (same_txid z y) (λ u. rw u (sym (and-false b))) (λ u. rw u))
linked_turn x y (set_cost z c) true stood b r e = refl
linked_turn x y clear true stood b r e = clash e refl
linked_turn x y totals true stood b r e = refl
linked_turn x y (template w room) true stood b r e = refl

place_turn : (n : ℕ) (x : Txid) (c : Call) (d : Bool) (b : Board) → not (d && comes_or_goes x c) ≡ true
    → (cond d (board_after n c b) b).place x ≡ b.place x
place_turn n x c false b e = refl
place_turn n x (make l) true b e = clash e refl
place_turn n x (add i listed) true b e = rw (not-true (same_txid i.txid x) e)
place_turn n x (remove y) true b e = refl
place_turn n x (set_cost y c) true b e = refl
place_turn n x clear true b e = clash e refl
place_turn n x totals true b e = refl
place_turn n x (template w room) true b e = refl

-- ---- all since the add

module _ (x : Txid) (es : List Event) where
  stands_over : (newer : List Event) → neither_came_nor_went x newer ≡ true → stands (newer ++ es) x ≡ stands es x
  unfolding all_of stands
  stands_over [] e = refl
  stands_over (v ∷ newer) e =
      let u = and_both (not (v.done && comes_or_goes x v.call)) (neither_came_nor_went x newer) e in
      stands_turn x v.call v.done (stands (newer ++ es) x) u.0 ∙ stands_over newer u.1

  held_over : (newer : List Event) → neither_came_nor_went x newer ≡ true
      → held (newer ++ es) x ≡ with_cost (cost_since x newer (held es x).cost) (held es x)
  unfolding all_of held cost_since
  held_over [] e = refl
  held_over (v ∷ newer) e =
      let u = and_both (not (v.done && comes_or_goes x v.call)) (neither_came_nor_went x newer) e in
      ap (λ (i : Entry). cond v.done (held_after v.call x i) i) (held_over newer u.1)
      ∙ held_turn x v.call v.done (held es x) (cost_since x newer (held es x).cost) u.0

  linked_over : (y : Txid) (newer : List Event) → neither_came_nor_went x newer ≡ true → linked (newer ++ es) x y ≡ (linked es x y && not_removed y newer)
  unfolding all_of linked
  linked_over y [] e = sym (and-true (linked es x y))
  linked_over y (v ∷ newer) e =
      let u = and_both (not (v.done && comes_or_goes x v.call)) (neither_came_nor_went x newer) e in
      ap (λ (b : Bool). cond v.done (linked_after v.call (stands (newer ++ es)) x y b) b) (linked_over y newer u.1)
      ∙ linked_turn x y v.call v.done (stands (newer ++ es)) (linked es x y) (not_removed y newer) u.0

  place_over : (n : ℕ) (newer : List Event) → neither_came_nor_went x newer ≡ true → (board n (newer ++ es)).place x ≡ (board n es).place x
  unfolding all_of board
  place_over n [] e = refl
  place_over n (v ∷ newer) e =
      let u = and_both (not (v.done && comes_or_goes x v.call)) (neither_came_nor_went x newer) e in
      place_turn n x v.call v.done (board n (newer ++ es)) u.0 ∙ place_over n newer u.1

-- ---- the theorems

pub since_stands : (es : List Event) (x : Txid) → Since es x → stands es x ≡ true
unfolding stands
since_stands es x u =
    ap (λ (l : List Event). stands l x) u.whole ∙ stands_over x _ u.newer u.kept
    ∙ ap (λ (b : Bool). b || stands u.older x) (equal_same u.entry.txid x u.named)

pub since_holds : (es : List Event) (x : Txid) (u : Since es x) → held es x ≡ with_cost (cost_since x u.newer u.entry.cost) u.entry
unfolding held
since_holds es x u =
    let first : Event = record { call = add u.entry u.listed; done = true } in
    let own : held (first ∷ u.older) x ≡ u.entry = rw (equal_same u.entry.txid x u.named) in
    ap (λ (l : List Event). held l x) u.whole ∙ held_over x (first ∷ u.older) u.newer u.kept
    ∙ ap (λ (i : Entry). with_cost (cost_since x u.newer i.cost) i) own

pub since_linked : (es : List Event) (x : Txid) (u : Since es x) (y : Txid)
    → linked es x y ≡ ((lists u.listed y && (stands u.older y && not (same_txid x y))) && not_removed y u.newer)
unfolding linked
since_linked es x u y =
    let first : Event = record { call = add u.entry u.listed; done = true } in
    let own : linked (first ∷ u.older) x y ≡ (lists u.listed y && (stands u.older y && not (same_txid x y))) =
    rw (equal_same u.entry.txid x u.named) in
    ap (λ (l : List Event). linked l x y) u.whole ∙ linked_over x (first ∷ u.older) y u.newer u.kept
    ∙ ap (λ (b : Bool). b && not_removed y u.newer) own

pub since_place : (n : ℕ) (es : List Event) (x : Txid) (u : Since es x) → (board n es).place x ≡ lowest_unused n (board n u.older)
unfolding board
since_place n es x u =
    ap (λ (l : List Event). (board n l).place x) u.whole ∙ place_over x _ n u.newer u.kept
    ∙ rw (equal_same u.entry.txid x u.named)

-- one event more
since_more : (v : Event) (es : List Event) (x : Txid) → not (v.done && comes_or_goes x v.call) ≡ true → Since es x → Since (v ∷ es) x
unfolding all_of
since_more v es x e u =
    record {
      entry = u.entry;
      listed = u.listed;
      newer = v ∷ u.newer;
      older = u.older;
      whole = ap (λ (l : List Event). v ∷ l) u.whole;
      named = u.named;
      kept = ap₂ ◌&&◌ e u.kept;
    }

since_turn : (x : Txid) (es : List Event) (c : Call) (d : Bool) → (stands es x ≡ true → Since es x)
    → cond d (stands_after c x (stands es x)) (stands es x) ≡ true → Since (record { call = c; done = d } ∷ es) x
unfolding all_of
since_turn x es c false u e = since_more _ es x refl (u e)
since_turn x es (make l) true u e = clash e refl
since_turn x es (add i listed) true u e =
    cases (same_txid i.txid x)
    (λ z. record { entry = i; listed = listed; newer = []; older = es; whole = refl; named = same_equal i.txid x z; kept = refl })
    (λ z. since_more _ es x (ap not z) (u (sym (ap (λ (b : Bool). b || stands es x) z) ∙ e)))
since_turn x es (remove y) true u e =
    let b = and_both (not (same_txid y x)) (stands es x) e in
    since_more _ es x b.0 (u b.1)
since_turn x es (set_cost y c) true u e = since_more _ es x refl (u e)
since_turn x es clear true u e = clash e refl
since_turn x es totals true u e = since_more _ es x refl (u e)
since_turn x es (template w room) true u e = since_more _ es x refl (u e)

pub stands_since : (es : List Event) (x : Txid) → stands es x ≡ true → Since es x
unfolding stands
stands_since [] x e = clash e refl
stands_since (v ∷ es) x e = since_turn x es v.call v.done (stands_since es x) e
