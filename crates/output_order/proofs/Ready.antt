-- Which chunks and members are ready: the tests on sets are those of specs/Output.antt on lists. Assumes nothing.
use mathlib.Core.Path.{◌≡◌, refl, sym, ap, ap₂, ◌∙◌}
use mathlib.Core.Bool.{Bool, true, false, not, ◌&&◌, ◌||◌, and-eq-true_iff}
use mathlib.Core.List.{List}
use mathlib.Core.Logic.{⊎_elim}
use Prim.Native.Nat.{ℕ, ◌+◌, ◌≤◌, ◌<◌}
use native.Mathlib.Omega.{arith}
use lib.Dec.{eqb, ltb}
use borrow.Author.Tests.{lt-ltb, le-ltb, ltb-true, not-true}
use Rattle.txset.specs.declared.TxSet.{TxSet}
use Rattle.lists.specs.Below.{all_from}
use Rattle.lists.specs.Lists.{elem}
use Rattle.txset.specs.Sets.{positions, mem, is_empty, is_subset, set_at, mem_at}
use Rattle.lists.proofs.Numbers.{lt_or_ge}
use Rattle.lists.proofs.Below.{all_ext, all_at, at_all}
use Rattle.lists.proofs.Bools.{clash, is_true, is_false, implies, or_either, true_together}
use Rattle.lists.proofs.Lists.{any_none, none_any}
use Rattle.txset.proofs.Sets.{subset_mem, mem_subset, empty_mem}
use Rattle.txset.proofs.Walk.{Turn, lowest_mem}
use Rattle.output_order.specs.Output.{chunk_ready, member_ready}
use Rattle.output_order.specs.Steps.{All, needed}
use Rattle.output_order.specs.Rounds.{freed, Within}

-- what an implication that holds gives
imp_elim : (a b : Bool) → (not a || b) ≡ true → a ≡ true → b ≡ true
imp_elim a b h e = ap (λ (c : Bool). not c || b) (sym e) ∙ h

-- ---- members

-- what the code tests: d has the ancestors of t other than t that are in `all`
pub freed_is : (ancestors : List ℕ) (all done d : TxSet) (t : ℕ)
    → ((a : ℕ) → mem d a ≡ ((mem (set_at ancestors t) a && mem all a) && not (eqb a t))) → is_subset d done ≡ freed ancestors all done t
unfolding is_subset freed
freed_is ancestors all done d t h =
    all_ext (λ a. not (mem d a) || mem done a) (λ a. not ((mem (set_at ancestors t) a && mem all a) && not (eqb a t)) || mem done a) positions 0
    (λ a _ _. ap (λ (b : Bool). not b || mem done a) (h a))

-- one that is left alone is ready
pub freed_alone : {ancestors : List ℕ} {all left done rest : TxSet} {t : ℕ} → Within ancestors all left done → Turn left rest t → is_empty rest ≡ true
    → freed ancestors all done t ≡ true
unfolding freed
freed_alone {ancestors} {all} {left} {done} {rest} {t} h w none =
    at_all (λ a. not ((mem (set_at ancestors t) a && mem all a) && not (eqb a t)) || mem done a) positions 0 (λ a _ _.
    implies ((mem (set_at ancestors t) a && mem all a) && not (eqb a t)) (mem done a) (λ e.
    let parts = (and-eq-true_iff (mem (set_at ancestors t) a && mem all a) (not (eqb a t))).0 e in
    let links = (and-eq-true_iff (mem (set_at ancestors t) a) (mem all a)).0 parts.0 in
    ⊎_elim
    (λ l. clash (w.next a ∙ ap₂ ◌&&◌ l (ap (λ (x : ℕ). not (eqb a x)) (sym w.first) ∙ parts.1)) (empty_mem rest none a))
    (λ d. d)
    (or_either (mem left a) (mem done a)
    (h.either t a (ap (mem left) w.first ∙ lowest_mem left w.left) links.0 links.1))))

-- f is g below n, and holds past it
all_below : (f g : ℕ → Bool) (n m : ℕ) → n ≤ m → ((i : ℕ) → i < n → f i ≡ g i) → ((i : ℕ) → n ≤ i → f i ≡ true) → all_from f m 0 ≡ all_from g n 0
all_below f g n m h low high =
    true_together (all_from f m 0) (all_from g n 0)
    (λ e. at_all g n 0 (λ j _ b. sym (low j (omega arith)) ∙ all_at f m 0 e j (omega arith) (omega arith)))
    (λ e. at_all f m 0 (λ j _ b. ⊎_elim (λ l. low j l ∙ all_at g n 0 e j (omega arith) (omega arith)) (λ l. high j l) (lt_or_ge j n)))

-- where a chunk is ready, each ancestor of its members is in it or out
pub ready_within : (n : ℕ) (anc : ℕ → ℕ → Bool) (out c : List ℕ) → chunk_ready n anc out c ≡ true → (t a : ℕ) → t < n → a < n → elem t c ≡ true
    → anc t a ≡ true → (elem a c || elem a out) ≡ true
unfolding chunk_ready
ready_within n anc out c h t a l m tc ta =
    imp_elim (anc t a) (elem a c || elem a out)
    (all_at (has t) n 0 (imp_elim (elem t c) (all_from (has t) n 0) (all_at (λ t. not (elem t c) || all_from (has t) n 0) n 0 h t (omega arith) (omega arith)) tc)
    a (omega arith) (omega arith))
    ta
  where
    has : ℕ → ℕ → Bool
    has t a = not (anc t a) || (elem a c || elem a out)

-- `done` is what is in the list `out`
module _ (n : ℕ) (done : TxSet) (out : List ℕ) (member : (i : ℕ) → mem done i ≡ elem i out) where
  -- a member is ready
  pub freed_ready : (ancestors : List ℕ) (all : TxSet) (t : ℕ) → All n all
      → freed ancestors all done t ≡ member_ready n (mem_at ancestors) out t
  unfolding freed member_ready
  freed_ready ancestors all t h =
      all_below
      (λ a. not ((mem (set_at ancestors t) a && mem all a) && not (eqb a t)) || mem done a)
      (λ a. not (mem (set_at ancestors t) a) || (eqb a t || elem a out))
      n
      positions
      h.few
      (λ a l.
      ap₂ (λ (b d : Bool). not ((mem (set_at ancestors t) a && b) && not (eqb a t)) || d) (h.are a ∙ lt-ltb a n l) (member a)
      ∙ low (mem (set_at ancestors t) a) (eqb a t) (elem a out))
      (λ a l.
      ap (λ (b : Bool). not ((mem (set_at ancestors t) a && b) && not (eqb a t)) || mem done a) (h.are a ∙ le-ltb a n l)
      ∙ high (mem (set_at ancestors t) a) (eqb a t) (mem done a))
    where
      low : (a e o : Bool) → (not ((a && true) && not e) || o) ≡ (not a || (e || o))
      low true true o = refl
      low true false o = refl
      low false e o = refl

      high : (a e o : Bool) → (not ((a && false) && not e) || o) ≡ true
      high true e o = refl
      high false e o = refl

  -- a chunk is ready, where o has what is outside it
  pub covered_ready : (anc : ℕ → ℕ → Bool) (c : List ℕ) (o : TxSet) → ((a : ℕ) → mem o a ≡ (ltb a n && (needed n anc c a && not (elem a c))))
      → is_subset o done ≡ chunk_ready n anc out c
  unfolding chunk_ready needed
  covered_ready anc c o outside =
      true_together (is_subset o done) (chunk_ready n anc out c)
      (λ h. at_all each n 0 (λ t _ l.
      implies (elem t c) (all_from (has t) n 0)
      (λ tc. at_all (has t) n 0 (λ a _ m. implies (anc t a) (elem a c || elem a out) (λ ta. out_of h t a l m tc ta (elem a c) refl)))))
      (λ h. mem_subset o done (λ a e. member a ∙ in_out h a (sym (outside a) ∙ e)))
    where
      has : ℕ → ℕ → Bool
      has t a = not (anc t a) || (elem a c || elem a out)

      each : ℕ → Bool
      each t = not (elem t c) || all_from (has t) n 0

      asks : ℕ → ℕ → Bool
      asks a t = ltb t n && anc t a

      out_of : is_subset o done ≡ true → (t a : ℕ) → t < 0 + n → a < 0 + n → elem t c ≡ true → anc t a ≡ true
          → (b : Bool) → elem a c ≡ b → (b || elem a out) ≡ true
      out_of h t a l m tc ta true e = refl
      out_of h t a l m tc ta false e =
          let some : needed n anc c a ≡ true =
          is_true (needed n anc c a) (λ none. clash (ap₂ ◌&&◌ (lt-ltb t n (omega arith)) ta) (any_none (asks a) c none t tc)) in
          sym (member a)
          ∙ subset_mem o done h a
          (outside a ∙ ap₂ ◌&&◌ (lt-ltb a n (omega arith)) (ap₂ ◌&&◌ some (ap not e)))

      in_out : chunk_ready n anc out c ≡ true → (a : ℕ) → (ltb a n && (needed n anc c a && not (elem a c))) ≡ true → elem a out ≡ true
      in_out h a e =
          let parts = (and-eq-true_iff (ltb a n) (needed n anc c a && not (elem a c))).0 e in
          let rest = (and-eq-true_iff (needed n anc c a) (not (elem a c))).0 parts.1 in
          let small = ltb-true a n parts.0 in
          is_true (elem a out) (λ no.
          clash rest.0
          (none_any (asks a) c (λ t tc.
          is_false (asks a t) (λ ta.
          let both = (and-eq-true_iff (ltb t n) (anc t a)).0 ta in
          clash
          (ready_within n anc out c h t a (ltb-true t n both.0) small tc both.1)
          (ap₂ ◌||◌ (not-true (elem a c) rest.1) no)))))
