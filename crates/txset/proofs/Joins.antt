-- What `TxSet::join` does to a list of sets: for each i of a set `walk` the i-th gains the members of a set `extra`. Assumes nothing.
use mathlib.Core.Path.{◌≡◌, refl, sym, ap, ap₂, ◌∙◌}
use mathlib.Core.Bool.{Bool, true, false, not, ◌&&◌, ◌||◌, and-true, and-false, or-false}
use mathlib.Core.Logic.{⊎_elim}
use mathlib.Core.List.{List}
use Prim.Native.Nat.{ℕ, ◌+◌, ◌≤◌, ◌<◌}
use native.Mathlib.Omega.{arith}
use lib.Dec.{eqb, ltb}
use lib.ListN.{length}
use borrow.Author.Tests.{lt-ltb, le-ltb, eq-eqb, ne_eqb}
use Rattle.txset.specs.declared.TxSet.{TxSet}
use Rattle.txset.specs.Sets.{positions, is_position, mem, is_empty, lowest_of, set_at, put_at, Joined, set_words}
use Rattle.lists.proofs.Numbers.{lt_or_ge, by_number, below_here, below_else}
use Rattle.txset.proofs.Sets.{mem_past, empty_mem, length_put, put_at_lem, put_else, at_past}
use Rattle.txset.proofs.Walk.{lowest_mem}

-- while `rest` is left of the walk: the sets with what is yet to come are those that come out
pub record Joining (walk extra : TxSet) (old new : List ℕ) (rest : TxSet) : Type 0 where
  pub same : length new ≡ length old
  pub has : (i a : ℕ) → i < length old
      → (mem (set_at new i) a || (mem rest i && mem extra a)) ≡ (mem (set_at old i) a || (mem walk i && mem extra a))

-- all of the walk is left
pub join_start : (walk extra : TxSet) (old : List ℕ) → Joining walk extra old old walk
join_start walk extra old = record { same = refl; has = λ i a l. refl }

-- what is gained now need not come later
gained : (x e : Bool) → (x || e || (false && e)) ≡ (x || (true && e))
gained true e = refl
gained false e = or-false e

-- one set of the walk is put: what came and what is yet to come stay the same together
module _
    (extra : TxSet)
    (ws : List ℕ)
    (rest next u : TxSet)
    (p : ℕ)
    (at : mem rest p ≡ true)
    (n : (i : ℕ) → mem next i ≡ (mem rest i && not (eqb i p)))
    (h : (a : ℕ) → mem u a ≡ (mem (set_at ws p) a || mem extra a)) where
  turn_at : p < length ws → (a : ℕ)
      → (mem (set_at (put_at ws p u) p) a || (mem next p && mem extra a)) ≡ (mem (set_at ws p) a || (mem rest p && mem extra a))
  turn_at l a =
      ap₂ (λ (b c : Bool). b || (c && mem extra a))
      (put_at_lem ws p u l a ∙ h a)
      (n p ∙ ap (λ (b : Bool). mem rest p && not b) (eq-eqb p p refl) ∙ and-false (mem rest p))
      ∙ gained (mem (set_at ws p) a) (mem extra a)
      ∙ ap (λ (b : Bool). mem (set_at ws p) a || (b && mem extra a)) (sym at)

  turn_by : (a i : ℕ) → i < length ws
      → (mem (set_at (put_at ws p u) i) a || (mem next i && mem extra a)) ≡ (mem (set_at ws i) a || (mem rest i && mem extra a))
  turn_by a =
      by_number
      (λ i. i < length ws
      → (mem (set_at (put_at ws p u) i) a || (mem next i && mem extra a)) ≡ (mem (set_at ws i) a || (mem rest i && mem extra a)))
      p
      (λ l. turn_at l a)
      (λ i m l.
      ap₂ (λ (b c : Bool). b || (c && mem extra a))
      (put_else ws p u i a m)
      (n i ∙ ap (λ (b : Bool). mem rest i && not b) (ne_eqb i p (λ e. m (sym e))) ∙ and-true (mem rest i)))

-- a turn: the lowest p of the rest is taken out, and u, the p-th set with the members of extra, is put in its place
pub join_turn : {walk extra : TxSet} {old new : List ℕ} {rest next s : TxSet} {p : ℕ} {new' : List ℕ} (u : TxSet)
    → is_empty rest ≡ false → p ≡ lowest_of rest → ((i : ℕ) → mem next i ≡ (mem rest i && not (eqb i (lowest_of rest))))
    → s ≡ set_at new p → ((a : ℕ) → mem u a ≡ (mem s a || mem extra a)) → new' ≡ put_at new p u
    → Joining walk extra old new rest → Joining walk extra old new' next
join_turn {walk} {extra} {old} {new} {rest} {next} {s} {p} {new'} u left lowest n at h put j =
    let at_p : mem rest p ≡ true = rw lowest (lowest_mem rest left) in
    let next-p : (i : ℕ) → mem next i ≡ (mem rest i && not (eqb i p)) = λ i. rw lowest (n i) in
    let has-u : (a : ℕ) → mem u a ≡ (mem (set_at new p) a || mem extra a) = λ a. rw (← at) (h a) in
    rw put (record {
      same = length_put new p u ∙ j.same;
      has = λ i a l. turn_by extra new rest next u p at_p next-p has-u a i (omega (arith, j.same)) ∙ j.has i a l;
    })

-- none is left
pub join_done : {walk extra : TxSet} {old new : List ℕ} {rest : TxSet} → is_empty rest ≡ true
    → Joining walk extra old new rest → Joined walk extra old new
join_done {walk} {extra} {old} {new} {rest} e j =
    record {
      same = j.same;
      has = λ i a l.
          sym (or-false (mem (set_at new i) a))
          ∙ ap (λ (b : Bool). mem (set_at new i) a || (b && mem extra a)) (sym (empty_mem rest e i))
          ∙ j.has i a l;
    }

-- a list with a set for each position has one for each of the walk, so there the join is one at every i
pub joined_at : {walk extra : TxSet} {old new : List ℕ} → set_words ≤ length old → Joined walk extra old new
    → (i a : ℕ) → mem (set_at new i) a ≡ (mem (set_at old i) a || (mem walk i && mem extra a))
joined_at {walk} {extra} {old} {new} n j i a =
    ⊎_elim
    (λ l. j.has i a l)
    (λ l.
    at_past new i a (omega (arith, j.same))
    ∙ sym (ap₂ (λ (b c : Bool). b || (c && mem extra a)) (at_past old i a l) (mem_past walk i (omega arith))))
    (lt_or_ge i (length old))

-- ---- a relation f turned around: j is entered in the a-th set where f j a, one j after the other

-- the next, i, is joined to the sets of its own a
pub turned_more : (f : ℕ → ℕ → Bool) (i : ℕ) (own single : TxSet) {old new : List ℕ} → i < positions → set_words ≤ length old
    → ((a : ℕ) → mem own a ≡ f i a) → ((j : ℕ) → mem single j ≡ (is_position j && eqb j i)) → Joined own single old new
    → ((a j : ℕ) → mem (set_at old a) j ≡ (ltb j i && f j a)) → (a j : ℕ) → mem (set_at new a) j ≡ (ltb j (i + 1) && f j a)
turned_more f i own single l long has-own has_i join h a j =
    joined_at long join a j
    ∙ ap₂ ◌||◌ (h a j) (ap₂ ◌&&◌ (has-own a) (has_i j))
    ∙ by_number (λ j. ((ltb j i && f j a) || (f i a && (is_position j && eqb j i))) ≡ (ltb j (i + 1) && f j a)) i
    (rw (le-ltb i i (omega arith), lt-ltb i positions l, eq-eqb i i refl, below_here i) (and-true (f i a)))
    (λ j n. rw (ne_eqb j i (λ e. n (sym e)), and-false (is_position j), and-false (f i a), below_else j i n) (or-false (ltb j i && f j a)))
    j
