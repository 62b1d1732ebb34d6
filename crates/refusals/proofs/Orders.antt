-- The check of an order as a record over plain values: the first i entries are positions, none twice, and they are what was seen. Assumes nothing.
use Prim.Native.Nat.{ℕ, suc, ◌+◌, ◌≤◌, ◌<◌}
use native.Mathlib.Numerals.{add-one}
use native.Mathlib.Omega.{arith}
use mathlib.Core.Path.{◌≡◌, refl, sym, ap, ap₂, ◌∙◌}
use mathlib.Core.Bool.{Bool, true, false, not, ◌&&◌, ◌||◌, and-false}
use mathlib.Core.List.{List, [], ◌∷◌, ◌++◌}
use lib.Dec.{eqb, ltb, leb}
use lib.ListN.{length, get_or, take, drop, take-append-drop}
use lib.Seq.{take-suc, take-length, drop-cons}
use borrow.Author.Tests.{lt-ltb, le-ltb, le-leb, lt-leb, eq-eqb, ne_eqb, eqb-true}
use Rattle.txset.specs.declared.TxSet.{TxSet}
use Rattle.lists.specs.Lists.{any_of, all_of, elem, distinct}
use Rattle.txset.specs.Sets.{positions, is_position, mem}
use Rattle.lists.proofs.Bools.{and_left}
use Rattle.lists.proofs.Lists.{all_append, elem_append, elem_one, distinct_snoc, distinct_front}
use Rattle.refusals.specs.Refusals.{is_order}

pub record Seen (n : ℕ) (order : List ℕ) (seen : TxSet) (i : ℕ) : Type 0 where
  pub small : n ≤ positions
  pub long : length order ≡ n
  pub within : i ≤ n
  pub below : all_of (λ p. ltb p n) (take i order) ≡ true
  pub once : distinct (take i order) ≡ true
  pub are : (p : ℕ) → p < n → mem seen p ≡ elem p (take i order)

pub seen_none : (n : ℕ) (order : List ℕ) (seen : TxSet) → n ≤ positions → length order ≡ n → ((p : ℕ) → mem seen p ≡ false) → Seen n order seen 0
unfolding all_of distinct elem any_of
seen_none n order seen h e f = record { small = h; long = e; within = omega arith; below = refl; once = refl; are = λ p _. f p }

module _ {n : ℕ} {order : List ℕ} {seen : TxSet} {i : ℕ} (s : Seen n order seen i) (h : i < length order) where
  -- the first i entries and the next
  next : take (i + 1) order ≡ take i order ++ (get_or order i 0 ∷ [])
  next = rw (add-one, take-suc order i 0 h)

  pub seen_more : (t : TxSet) → get_or order i 0 < n → mem seen (get_or order i 0) ≡ false
      → ((q : ℕ) → mem t q ≡ (mem seen q || (is_position q && eqb q (get_or order i 0)))) → Seen n order t (i + 1)
  unfolding all_of
  seen_more t l e f = record {
    small = s.small;
    long = s.long;
    within = omega (arith, s.long);
    below = ap (all_of (λ p. ltb p n)) next ∙ all_append (λ p. ltb p n) (take i order) (get_or order i 0 ∷ [])
        ∙ ap₂ ◌&&◌ s.below (ap (λ (b : Bool). b && true) (lt-ltb (get_or order i 0) n l));
    once = ap distinct next ∙ distinct_snoc (take i order) (get_or order i 0)
        ∙ ap₂ (λ (a b : Bool). a && not b) s.once (sym (s.are (get_or order i 0) l) ∙ e);
    are = λ q k.
        f q ∙ ap₂ ◌||◌ (s.are q k) (ap (λ (b : Bool). b && eqb q (get_or order i 0)) (lt-ltb q positions (omega (arith, s.small))) ∙ sym (elem_one q (get_or order i 0)))
        ∙ sym (elem_append q (take i order) (get_or order i 0 ∷ [])) ∙ ap (elem q) (sym next);
  }

  -- an entry that is no position
  pub seen_outside : n ≤ get_or order i 0 → false ≡ (leb n positions && is_order n order)
  unfolding is_order all_of
  seen_outside l = sym (rw (ne, and-false (eqb (length order) n)) (and-false (leb n positions)))
    where
      ne : all_of (λ p. ltb p n) order ≡ false
      ne = ap (all_of (λ p. ltb p n)) (sym (take-append-drop i order) ∙ ap (λ (l : List ℕ). take i order ++ l) (drop-cons order i 0 h))
          ∙ all_append (λ p. ltb p n) (take i order) (get_or order i 0 ∷ drop (suc i) order)
          ∙ ap₂ ◌&&◌ s.below (ap (λ (b : Bool). b && all_of (λ p. ltb p n) (drop (suc i) order)) (le-ltb (get_or order i 0) n l))

  -- an entry that was seen before
  pub seen_twice : get_or order i 0 < n → mem seen (get_or order i 0) ≡ true → false ≡ (leb n positions && is_order n order)
  unfolding is_order
  seen_twice l e =
      sym (rw (ne, and-false (all_of (λ p. ltb p n) order), and-false (eqb (length order) n)) (and-false (leb n positions)))
    where
      ne : distinct order ≡ false
      ne = ap distinct (sym (take-append-drop (i + 1) order))
          ∙ distinct_front (take (i + 1) order) (drop (i + 1) order)
          (ap distinct next ∙ distinct_snoc (take i order) (get_or order i 0)
          ∙ ap (λ (b : Bool). distinct (take i order) && not b) (sym (s.are (get_or order i 0) l) ∙ e) ∙ and-false (distinct (take i order)))

pub seen_all : {n : ℕ} {order : List ℕ} {seen : TxSet} {i : ℕ} → Seen n order seen i → length order ≤ i → true ≡ (leb n positions && is_order n order)
unfolding is_order
seen_all {n} {order} {seen} {i} s h =
    let e : i ≡ length order = omega (arith, s.long, s.within) in
    let t : take i order ≡ order = rw (e, take-length) in
    sym (rw (le-leb n positions s.small, eq-eqb (length order) n s.long, rw t at s.below, rw t at s.once))

pub too_many : (n : ℕ) (order : List ℕ) → positions < n → false ≡ (leb n positions && is_order n order)
too_many n order h = sym (rw (lt-leb n positions h))

pub another_length : (n : ℕ) (order : List ℕ) → (length order ≡ n → ⊥) → false ≡ (leb n positions && is_order n order)
unfolding is_order
another_length n order h = sym (rw (ne_eqb (length order) n h) (and-false (leb n positions)))

-- an order has as many entries as there are members
pub order_length : (n : ℕ) (order : List ℕ) → is_order n order ≡ true → length order ≡ n
unfolding is_order
order_length n order e = eqb-true (length order) n (and_left (eqb (length order) n) (all_of (λ p. ltb p n) order && distinct order) e)

-- of at most 64 members the check of an order says just that
pub small_order : (n : ℕ) (order : List ℕ) → n ≤ positions → (leb n positions && is_order n order) ≡ is_order n order
small_order n order h = ap (λ (b : Bool). b && is_order n order) (le-leb n positions h)
