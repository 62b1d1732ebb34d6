-- The steps of `DepGraph::new` on two lists of sets that hold one relation (`Holds`): the start, a turn and the end of each.
-- Assumes nothing.
use mathlib.Core.Path.{◌≡◌, refl, sym, ap, ap₂, ◌∙◌}
use mathlib.Core.Bool.{Bool, true, false, not, ◌&&◌, ◌||◌, and-true, and-false, and_comm, or-false, or_assoc, or_comm}
use mathlib.Core.Logic.{⊎_elim}
use mathlib.Core.List.{List, []}
use Prim.Native.Nat.{ℕ, suc, ◌+◌, ◌≤◌, ◌<◌, min}
use native.Mathlib.Numerals.{add-one}
use native.Mathlib.Omega.{arith}
use lib.Dec.{eqb, ltb}
use lib.ListN.{length, take, replicate, length-take, length-replicate}
use Rattle.std.proofs.lemmas.List.{get_or-replicate}
use lib.Seq.{take-length, take_all, take-take, length-take-le, get_or-take}
use borrow.Author.Tests.{lt-ltb, le-ltb, eq-eqb, ne_eqb, eqb-true}
use Rattle.txset.specs.declared.TxSet.{TxSet}
use Rattle.lists.specs.Below.{any_from}
use Rattle.txset.specs.Sets.{positions, is_position, mem, set_at, put_at, Joined, is_empty, lowest_of}
use Rattle.lists.proofs.Numbers.{by_number, below_here, below_else, flip, lt_or_ge}
use Rattle.ways.specs.Ways.{reach, is_cyclic}
use Rattle.lists.proofs.Ranges.{any_more}
use Rattle.ways.proofs.Ways.{reach_is, way_from}
use Rattle.txset.proofs.Sets.{mem_position, length_put, put_at_lem, put_else, at_past}
use Rattle.txset.proofs.Walk.{lowest_mem}
use Rattle.txset.proofs.Joins.{Joining, join_start, join_turn}
use Rattle.depgraph.specs.declared.DepGraph.{DepGraph}
use Rattle.depgraph.specs.Closed.{Room, Closed, placed}
use Rattle.depgraph.specs.Graph.{is_parent, is_above, is_ancestor}
use Rattle.depgraph.specs.Steps.{Holds, Within, nothing, with_own, Owning, Placed}
use Rattle.depgraph.proofs.Parents.{among, parent_asked}
use Rattle.lists.proofs.Bools.{asked, clash, is_false, and_both}

-- the sets hold any relation that agrees
pub holds_as : {f g : ℕ → ℕ → Bool} {up down : List ℕ} → Holds f up down → ((i a : ℕ) → f i a ≡ g i a) → Holds g up down
holds_as h e =
    record { above = λ i a. h.above i a ∙ e i a; below = λ i a. h.below i a ∙ e i a }

-- who is related has a set in both lists
has_up : {f : ℕ → ℕ → Bool} {up down : List ℕ} → Holds f up down → (i a : ℕ) → f i a ≡ true → i < length up
has_up {up = up} h i a e = ⊎_elim (λ l. l) (λ l. clash e (sym (h.above i a) ∙ at_past up i a l)) (lt_or_ge i (length up))

has_down : {f : ℕ → ℕ → Bool} {up down : List ℕ} → Holds f up down → (i a : ℕ) → f i a ≡ true → a < length down
has_down {down = down} h i a e = ⊎_elim (λ l. l) (λ l. clash e (sym (h.below i a) ∙ at_past down a i l)) (lt_or_ge a (length down))

-- so has each of a row of the other list, and of a part of it
module _ {f : ℕ → ℕ → Bool} {up down : List ℕ} (h : Holds f up down) (k : ℕ) {row : TxSet} (part : TxSet)
    (sub : (i : ℕ) → mem part i ≡ true → mem row i ≡ true) where
  pub within_up : row ≡ set_at down k → Within part up
  within_up at = record { has = λ i e. has_up h i k (sym (h.below i k) ∙ ap (λ (s : TxSet). mem s i) (sym at) ∙ sub i e) }

  pub within_down : row ≡ set_at up k → Within part down
  within_down at = record { has = λ a e. has_down h k a (sym (h.above k a) ∙ ap (λ (s : TxSet). mem s a) (sym at) ∙ sub a e) }

-- where a list has a set for each of the walk, the join is one at every i
joined_within : {walk extra : TxSet} {old new : List ℕ} → Within walk old → Joined walk extra old new
    → (i a : ℕ) → mem (set_at new i) a ≡ (mem (set_at old i) a || (mem walk i && mem extra a))
joined_within {walk} {extra} {old} {new} within j i a =
    ⊎_elim
    (λ l. j.has i a l)
    (λ l.
    at_past new i a (omega (arith, j.same))
    ∙ sym (ap₂ (λ (b c : Bool). b || (c && mem extra a)) (at_past old i a l) (is_false (mem walk i) (λ e. absurd (omega (arith, within.has i e))))))
    (lt_or_ge i (length old))

-- ---- what goes in and what comes out

-- n of the members are left, the list qs: those of ps that have a place so far
pub record Left (ps : List ℕ) (n : ℕ) (qs : List ℕ) : Type 0 where
  pub there : n ≤ length ps
  pub same : take n ps ≡ qs

pub left_all : (ps : List ℕ) → Left ps (length ps) ps
left_all ps = record { there = omega arith; same = take-length ps }

-- there is place for k
pub left_min : {ps qs : List ℕ} {n m : ℕ} (k : ℕ) → m ≡ min n k → Left ps n qs → Left ps m (take k qs)
left_min {ps} {qs} {n} {m} k e h =
    let long : length qs ≡ n = ap length (sym h.same) ∙ length-take-le n ps h.there in
    record {
      there = omega (arith, h.there);
      same = ⊎_elim
          (λ (l : k < n). let g : m ≡ k = omega arith in rw g (sym (take-take k n ps (omega arith)) ∙ ap (take k) h.same))
          (λ (l : n ≤ k). let g : m ≡ n = omega arith in rw g (h.same ∙ sym (take_all k qs (omega arith))))
          (lt_or_ge k n);
    }

taken_few : (k : ℕ) (ps : List ℕ) → length (take k ps) ≤ k
taken_few k ps = omega (arith, length-take k ps)

taken_fewer : (k : ℕ) (ps : List ℕ) → length (take k ps) ≤ length ps
taken_fewer k ps = omega (arith, length-take k ps)

pub left_placed : (ps up down : List ℕ) {n : ℕ} → Left ps n (placed ps up down) → Placed ps up down n
left_placed ps up down {n} h =
    let long : length (placed ps up down) ≡ n = ap length (sym h.same) ∙ length-take-le n ps h.there in
    let qs = take (length up) (take positions ps) in
    record {
      there = h.there;
      room = record {
        few = omega (arith, taken_fewer (length down) qs, taken_fewer (length up) (take positions ps), taken_few positions ps);
        ups = omega (arith, taken_fewer (length down) qs, taken_few (length up) (take positions ps));
        downs = omega (arith, taken_few (length down) qs);
      };
      same = h.same;
    }

pub room_as : {n : ℕ} {up down up' down' : List ℕ} → Room n up down → length up' ≡ length up → length down' ≡ length down → Room n up' down'
room_as r e f = record { few = r.few; ups = omega (arith, r.ups); downs = omega (arith, r.downs) }

-- words of zero are empty sets
pub zeros_empty : {ws : List ℕ} (n : ℕ) → ws ≡ replicate n 0 → (i a : ℕ) → mem (set_at ws i) a ≡ false
unfolding set_at
zeros_empty n e i a = rw e (⊎_elim
    (λ (l : i < n). rw (get_or-replicate {A = ℕ} n i 0 0 l) (at_past [] 0 a (omega arith)))
    (λ (l : n ≤ i). at_past (replicate n 0) i a (rw length-replicate l))
    (lt_or_ge i n))

-- empty sets hold nothing
pub hold_nothing : {up down : List ℕ} → ((i a : ℕ) → mem (set_at up i) a ≡ false) → ((i a : ℕ) → mem (set_at down i) a ≡ false) → Holds nothing up down
hold_nothing e f = record { above = e; below = λ i a. f a i }

-- ---- link: the relation, of the members below i alone

abbrev pub up_to : ℕ → (ℕ → ℕ → Bool) → ℕ → ℕ → Bool
up_to i f j a = ltb j i && f j a

-- i is entered in the sets of its own a
turned_more : (f : ℕ → ℕ → Bool) (i j a : ℕ) → i < positions → (up_to i f j a || (f i a && (is_position j && eqb j i))) ≡ up_to (i + 1) f j a
turned_more f i j a l =
    by_number (λ j. (up_to i f j a || (f i a && (is_position j && eqb j i))) ≡ up_to (i + 1) f j a) i
    (rw (le-ltb i i (omega arith), lt-ltb i positions l, eq-eqb i i refl, below_here i) (and-true (f i a)))
    (λ j n. rw (ne_eqb j i (λ e. n (sym e)), and-false (is_position j), and-false (f i a), below_else j i n) (or-false (ltb j i && f j a)))
    j

pub record Linking (f : ℕ → ℕ → Bool) (up₀ down₀ up down : List ℕ) (i : ℕ) : Type 0 where
  pub ups : length up ≡ length up₀
  pub downs : length down ≡ length down₀
  pub holds : Holds (up_to i f) up down

pub link_start : (f : ℕ → ℕ → Bool) {up down : List ℕ} → Holds nothing up down → Linking f up down up down 0
link_start f h =
    record { ups = refl; downs = refl; holds = holds_as h (λ j a. ap (λ (b : Bool). b && f j a) (sym (le-ltb j 0 (omega arith)))) }

pub link_turn : (f : ℕ → ℕ → Bool) {n : ℕ} (i : ℕ) (own single : TxSet) {up₀ down₀ up down up' down' : List ℕ} → i < n → Room n up₀ down₀
    → Within own down → ((a : ℕ) → mem own a ≡ f i a) → ((j : ℕ) → mem single j ≡ (is_position j && eqb j i))
    → up' ≡ put_at up i own → Joined own single down down' → Linking f up₀ down₀ up down i → Linking f up₀ down₀ up' down' (i + 1)
link_turn f {n} i own single {up = up} {down} l room within has-own has_i put join h =
    rw put (record {
      ups = length_put up i own ∙ h.ups;
      downs = join.same ∙ h.downs;
      holds = record {
        above = λ j a.
            by_number (λ j. mem (set_at (put_at up i own) j) a ≡ up_to (i + 1) f j a) i
            (put_at_lem up i own (omega (arith, h.ups, room.ups)) a ∙ has-own a ∙ ap (λ (b : Bool). b && f i a) (sym (below_here i)))
            (λ j n. put_else up i own j a n ∙ h.holds.above j a ∙ ap (λ (b : Bool). b && f j a) (sym (below_else j i n)))
            j;
        below = λ j a.
            joined_within within join a j
            ∙ ap₂ ◌||◌ (h.holds.below j a) (ap₂ ◌&&◌ (has-own a) (has_i j))
            ∙ turned_more f i j a (omega (arith, room.few));
      };
    })

pub link_done : (ps : List ℕ) {i : ℕ} {up₀ down₀ up down : List ℕ} → length ps ≡ i
    → Linking (is_parent ps) up₀ down₀ up down i → Holds (is_parent ps) up down
link_done ps e h = holds_as h.holds (λ j a. ap (λ (n : ℕ). up_to n (is_parent ps) j a) (sym e) ∙ parent_asked ps j a)

-- the parents of a member, which are some of the first n, have a set
pub parents_within : (ps : List ℕ) (n i : ℕ) (own : TxSet) {down : List ℕ} → n ≤ length ps → n ≤ length down
    → ((a : ℕ) → mem own a ≡ is_parent (take n ps) i a) → Within own down
parents_within ps n i own l m has-own = record { has = λ a e. omega (arith, (among (take n ps)).to i a (sym (has-own a) ∙ e), length-take-le n ps l) }

-- the parents of i among the first n: those that are named, less what is no position below n and less i itself
parents_of : (m p l e : Bool) → (m ≡ true → p ≡ true) → ((m && (p && l)) && e) ≡ ((l && e) && m)
parents_of true p l e h = ap (λ (b : Bool). (b && l) && e) (h refl) ∙ sym (and-true (l && e))
parents_of false p l e h = sym (and-false (l && e))

at_take : (n : ℕ) (ws : List ℕ) (i : ℕ) → i < n → set_at (take n ws) i ≡ set_at ws i
unfolding set_at
at_take n ws i l = ap {B = TxSet} (λ (w : ℕ). record { word = w }) (get_or-take n ws i 0 l)

pub own_parents : (ws : List ℕ) (n i : ℕ) {named : TxSet} (all met own : TxSet) → n ≤ length ws → i < n → named ≡ set_at ws i
    → ((a : ℕ) → mem all a ≡ (is_position a && ltb a n)) → ((a : ℕ) → mem met a ≡ (mem named a && mem all a))
    → ((a : ℕ) → mem own a ≡ (mem met a && not (eqb a i))) → (a : ℕ) → mem own a ≡ is_parent (take n ws) i a
unfolding is_parent
own_parents ws n i {named} all met own fits l at Has-All has-met has-own a =
    has-own a
    ∙ ap (λ (b : Bool). b && not (eqb a i)) (has-met a ∙ ap (λ (b : Bool). mem named a && b) (Has-All a))
    ∙ parents_of (mem named a) (is_position a) (ltb a n) (not (eqb a i)) (λ e. lt-ltb a positions (mem_position named a e))
    ∙ ap₂ (λ (k : ℕ) (s : TxSet). (ltb a k && not (eqb a i)) && mem s a) (sym (length-take-le n ws fits)) (at ∙ sym (at_take n ws i l))

-- ---- join: the sets so far, and what is left of the walk

pub record Joins (walk extra : TxSet) (old new : List ℕ) (rest : TxSet) : Type 0 where
  pub joining : Joining walk extra old new rest
  pub within : Within rest new

pub joins_start : (walk extra : TxSet) (old : List ℕ) → Within walk old → Joins walk extra old old walk
joins_start walk extra old w = record { joining = join_start walk extra old; within = w }

pub next_within : {walk extra : TxSet} {old new : List ℕ} {rest : TxSet} {p : ℕ} → is_empty rest ≡ false → p ≡ lowest_of rest
    → Joins walk extra old new rest → p < length new
next_within {rest = rest} left e j = rw e (j.within.has (lowest_of rest) (lowest_mem rest left))

pub next_position : (rest : TxSet) {p : ℕ} → is_empty rest ≡ false → p ≡ lowest_of rest → p < positions
next_position rest {p} left e = mem_position rest p (rw e (lowest_mem rest left))

pub joins_turn : {walk extra : TxSet} {old new : List ℕ} {rest next : TxSet} {p : ℕ} (u : TxSet)
    → is_empty rest ≡ false → p ≡ lowest_of rest → ((i : ℕ) → mem next i ≡ (mem rest i && not (eqb i (lowest_of rest))))
    → ((a : ℕ) → mem u a ≡ (mem (set_at new p) a || mem extra a)) → Joins walk extra old new rest → Joins walk extra old (put_at new p u) next
joins_turn {new = new} {rest} {next} {p} u left e n h j =
    record {
      joining = join_turn u left e n refl h refl j.joining;
      within = record {
        has = λ i m. rw (length_put new p u) (j.within.has i (and_both (mem rest i) (not (eqb i (lowest_of rest))) (sym (n i) ∙ m)).0);
      };
    }

-- ---- close: the links by way of the members below k

pub record Closing (up₀ down₀ up down : List ℕ) (k : ℕ) : Type 0 where
  pub ups : length up ≡ length up₀
  pub downs : length down ≡ length down₀
  pub holds : (r : ℕ → ℕ → Bool) → Holds r up₀ down₀ → Holds (reach r k) up down

pub close_start : (up down : List ℕ) → Closing up down up down 0
unfolding reach
close_start up down = record { ups = refl; downs = refl; holds = λ r h. h }

-- a walk may leave out who gains nothing
pub joined_as : {walk less extra : TxSet} {old new : List ℕ} → Joined less extra old new
    → ((i a : ℕ) → (mem less i && mem extra a) ≡ (mem walk i && mem extra a)) → Joined walk extra old new
joined_as {old = old} j e = record { same = j.same; has = λ i a l. j.has i a l ∙ ap (λ (b : Bool). mem (set_at old i) a || b) (e i a) }

by_way : (r : ℕ → ℕ → Bool) (k : ℕ) (over under : TxSet) {up down up' down' : List ℕ} → over ≡ set_at up k → under ≡ set_at down k
    → Joined under over up up' → Joined over under down down' → Holds (reach r k) up down → Holds (reach r (suc k)) up' down'
unfolding reach
by_way r k over under {up} {down} at_up at-down join_up join-down h =
    let has_over : (a : ℕ) → mem over a ≡ reach r k k a = λ a. ap (λ (s : TxSet). mem s a) at_up ∙ h.above k a in
    let has-under : (i : ℕ) → mem under i ≡ reach r k i k = λ i. ap (λ (s : TxSet). mem s i) at-down ∙ h.below i k in
    record {
      above = λ i a.
          joined_within (within_up h k under (λ i e. e) at-down) join_up i a
          ∙ ap₂ ◌||◌ (h.above i a) (ap₂ ◌&&◌ (has-under i) (has_over a));
      below = λ i a.
          joined_within (within_down h k over (λ i e. e) at_up) join-down a i
          ∙ ap₂ ◌||◌ (h.below i a) (ap₂ ◌&&◌ (has_over a) (has-under i) ∙ and_comm (reach r k k a) (reach r k i k));
    }

pub close_turn : (k : ℕ) (over under : TxSet) {up₀ down₀ up down up' down' : List ℕ} → over ≡ set_at up k → under ≡ set_at down k
    → Joined under over up up' → Joined over under down down' → Closing up₀ down₀ up down k → Closing up₀ down₀ up' down' (k + 1)
close_turn k over under at_up at-down join_up join-down c =
    record {
      ups = join_up.same ∙ c.ups;
      downs = join-down.same ∙ c.downs;
      holds = λ r h. rw add-one (by_way r k over under at_up at-down join_up join-down (c.holds r h));
    }

-- ---- include_self: the relation, with the own position of the members below i

own_more : (i j a : ℕ) → (ltb j i && eqb j a || eqb j i && eqb a i) ≡ (ltb j (i + 1) && eqb j a)
own_more i j a =
    by_number (λ j. (ltb j i && eqb j a || eqb j i && eqb a i) ≡ (ltb j (i + 1) && eqb j a)) i
    (rw (le-ltb i i (omega arith), eq-eqb i i refl, below_here i) (flip a i))
    (λ j n. rw (ne_eqb j i (λ e. n (sym e)), below_else j i n) (or-false (ltb j i && eqb j a)))
    j

-- the i-th set gains i
pub record Own (i : ℕ) (old new : List ℕ) : Type 0 where
  pub same : length new ≡ length old
  pub has : i < length old → (j a : ℕ) → mem (set_at new j) a ≡ (mem (set_at old j) a || (eqb j i && eqb a i))

pub own_put : {i : ℕ} {s : TxSet} (u : TxSet) {old new : List ℕ} → i < positions → s ≡ set_at old i
    → ((a : ℕ) → mem u a ≡ (mem s a || (is_position a && eqb a i))) → new ≡ put_at old i u → Own i old new
own_put {i} u {old} l at has put =
    rw put (record {
      same = length_put old i u;
      has = λ m j a.
          by_number (λ j. mem (set_at (put_at old i u) j) a ≡ (mem (set_at old j) a || (eqb j i && eqb a i))) i
          (put_at_lem old i u m a ∙ has a
          ∙ ap₂ (λ (t : TxSet) (b : Bool). mem t a || b) at
          (asked (is_position a) (eqb a i) (λ e. lt-ltb a positions (let z : a ≡ i = eqb-true a i e in omega arith))
          ∙ ap (λ (b : Bool). b && eqb a i) (sym (eq-eqb i i refl))))
          (λ j n.
          put_else old i u j a n ∙ sym (or-false (mem (set_at old j) a))
          ∙ ap (λ (b : Bool). mem (set_at old j) a || (b && eqb a i)) (sym (ne_eqb j i (λ e. n (sym e)))))
          j;
    })

own_sets : (f : ℕ → ℕ → Bool) (i : ℕ) {up down up' down' : List ℕ} → i < length up → i < length down → Own i up up' → Own i down down'
    → Holds (with_own i f) up down → Holds (with_own (i + 1) f) up' down'
own_sets f i l m own-up own-down h =
    let more : (j a : ℕ) → (with_own i f j a || (eqb j i && eqb a i)) ≡ with_own (i + 1) f j a = λ j a.
    or_assoc (f j a) (ltb j i && eqb j a) (eqb j i && eqb a i) ∙ ap (λ (b : Bool). f j a || b) (own_more i j a) in
    record {
      above = λ j a. own-up.has l j a ∙ ap (λ (b : Bool). b || (eqb j i && eqb a i)) (h.above j a) ∙ more j a;
      below = λ j a.
          own-down.has m a j ∙ ap₂ ◌||◌ (h.below j a) (and_comm (eqb a i) (eqb j i)) ∙ more j a;
    }

pub record Including (up₀ down₀ up down : List ℕ) (cyclic : Bool) (i : ℕ) : Type 0 where
  pub ups : length up ≡ length up₀
  pub downs : length down ≡ length down₀
  pub owning : (f : ℕ → ℕ → Bool) → Holds f up₀ down₀ → Owning f i up down cyclic

pub own_start : (up down : List ℕ) → Including up down up down false 0
unfolding any_from
own_start up down =
    record {
      ups = refl;
      downs = refl;
      owning = λ f h.
          record {
            sets = holds_as h (λ j a. sym (or-false (f j a)) ∙ ap (λ (b : Bool). f j a || (b && eqb j a)) (sym (le-ltb j 0 (omega arith))));
            cycle = refl;
          };
    }

pub own_turn : (i : ℕ) {n : ℕ} {s : TxSet} {up₀ down₀ up down up' down' : List ℕ} {cyclic cyclic' : Bool} → i < n → Room n up₀ down₀ → s ≡ set_at up i
    → cyclic' ≡ (cyclic || mem s i) → Own i up up' → Own i down down'
    → Including up₀ down₀ up down cyclic i → Including up₀ down₀ up' down' cyclic' (i + 1)
own_turn i {s = s} l room at cycle own-up own-down g =
    record {
      ups = own-up.same ∙ g.ups;
      downs = own-down.same ∙ g.downs;
      owning = λ f h.
          let o = g.owning f h in
          let itself : mem s i ≡ f i i =
          ap (λ (r : TxSet). mem r i) at ∙ o.sets.above i i ∙ ap (λ (b : Bool). f i i || (b && eqb i i)) (le-ltb i i (omega arith))
          ∙ or-false (f i i) in
          record {
            sets = own_sets f i (omega (arith, g.ups, room.ups)) (omega (arith, g.downs, room.downs)) own-up own-down o.sets;
            cycle = cycle ∙ ap₂ ◌||◌ o.cycle itself ∙ sym (any_more (λ j. f j j) i);
          };
    }

-- at the end that is the graph

ancestor_is : (l e r : Bool) → (r ≡ true → l ≡ true) → (r || (l && e)) ≡ (l && (e || r))
ancestor_is true e r h = or_comm r e
ancestor_is false e true h = sym (h refl)
ancestor_is false e false h = refl

pub closed_by : {ps up₀ down₀ up down : List ℕ} {n : ℕ} {g : DepGraph} → Placed ps up₀ down₀ n
    → Owning (reach (is_parent (take n ps)) n) n up down g.cyclic → Closed (placed ps up₀ down₀) up down g
unfolding is_ancestor is_cyclic
closed_by {ps} {up = up} {down} {n} {g} t o =
    let qs = take n ps in
    let o' : Owning (is_above qs) (length qs) up down g.cyclic = rw (length-take-le n ps t.there) o in
    let h : Holds (is_ancestor qs) up down =
    holds_as o'.sets (λ i a.
    ancestor_is (ltb i (length qs)) (eqb i a) (is_above qs i a)
    (λ e. lt-ltb i (length qs) (way_from (among qs) (reach_is (is_parent qs) (length qs) i a e)))) in
    rw (← t.same) (record { ancestors = h.above; descendants = λ i d. h.below d i; cyclic = o'.cycle })
