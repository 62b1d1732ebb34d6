-- The links to the children of one slot are walked, word by word. Assumes nothing.
use mathlib.Core.Path.{◌≡◌, refl, sym, ap, ap₂, ◌∙◌, subst}
use mathlib.Core.Bool.{Bool, true, false, cond, not, ◌&&◌, ◌||◌, and-true, and-false, or-true, or-false}
use mathlib.Core.Logic.{⊎_elim}
use mathlib.Core.List.{List, [], ◌∷◌, ◌++◌}
use Prim.Native.Nat.{ℕ, suc, ◌+◌, ◌-◌, ◌*◌, ◌≤◌, ◌<◌}
use native.Mathlib.Nat.{add-zero, zero-add}
use native.Mathlib.Numerals.{add-one}
use native.Mathlib.Omega.{arith}
use lib.Dec.{eqb, ltb, leb}
use lib.ListN.{length, get_or, take, drop, set}
use lib.Seq.{length-take-le, get_or-take, get_or-set_other, take-take, take-suc, take-set-le, split_at}
use borrow.Author.Tests.{lt-ltb, le-ltb, le-leb, lt-leb, eq-eqb, ne_eqb, eqb-true, eqb-false}
use Rattle.lists.specs.Below.{count_from}
use Rattle.lists.specs.Lists.{elem, any_of, distinct}
use Rattle.lists.proofs.Bools.{clash, cases, is_false}
use Rattle.lists.proofs.Numbers.{lt_or_ge}
use Rattle.lists.proofs.Below.{count_ext, count_shift, count_split}
use Rattle.lists.proofs.Lists.{elem_at, elem_head, elem_snoc, distinct_apart}
use Rattle.txset.specs.declared.TxSet.{TxSet}
use Rattle.txset.specs.Sets.{has_in, positions, mem, size, is_empty, lowest_of}
use Rattle.txset.proofs.Sets.{empty_mem, mem_position}
use Rattle.txset.proofs.Walk.{lowest_mem, lowest_position, Turn}
use Rattle.slotsets.specs.SlotSets.{capacity}
use Rattle.slotsets.proofs.SlotSets.{set_past}
use Rattle.pool_table.specs.declared.Side.{Side}
use Rattle.pool_table.specs.Pool.{Pool, slot_at, slot_count}
use Rattle.pool_table.specs.Words.{pool_of}
use Rattle.pool_table.specs.Links.{side_of, links_at}
use Rattle.pool_table.proofs.Rows.{whole_slot}
use Rattle.pool_links.specs.Steps.{is_tied, no_link, of_done, of_some, children_to, Walk, Walking}
use Rattle.pool_links.proofs.Mutual.{word_mem}
use Rattle.pool_links.proofs.Gaps.{Gap, gap_same}
use Rattle.pool_links.proofs.Walks.{walk_ext, some_left, walk_step, push_room, walk_push}

-- the links of a slot of the pool, as they stand in the table
pub links_own : (p : Pool) (side : Side) (s : ℕ) → s < slot_count p → links_at p side s ≡ side_of side (slot_at p s)
unfolding links_at
links_own p side s l = ap (λ (b : Bool). cond b (side_of side (slot_at p s)) []) (lt-ltb s (slot_count p) l)

-- ---- members word by word

pub count_word : (ws : List ℕ) (j w : ℕ) → w ≡ get_or ws j 0
    → count_from (has_in ws) (64 * j) 0 + size (record { word = w }) ≡ count_from (has_in ws) (64 * (j + 1)) 0
unfolding size
count_word ws j w e =
    let z : 64 * j + 64 ≡ 64 * (j + 1) = omega arith in
    ap (λ (n : ℕ). count_from (has_in ws) (64 * j) 0 + n)
    (count_ext (mem (record { word = w })) (λ d. has_in ws (64 * j + d)) 64 0 (λ d _ l. word_mem ws j w d e (omega arith))
    ∙ sym (count_shift (has_in ws) (64 * j) 64 0))
    ∙ ap (λ (n : ℕ). count_from (has_in ws) (64 * j) 0 + count_from (has_in ws) 64 n) (add-zero (64 * j) ∙ sym (zero-add (64 * j)))
    ∙ sym (count_split (has_in ws) (64 * j) 64 0)
    ∙ ap (λ (n : ℕ). count_from (has_in ws) n 0) z

-- ---- the place in the queue

-- what stands at a place of a list without repeats does not stand before it
at_new : (l : List ℕ) (k : ℕ) → k < length l → distinct l ≡ true → elem (get_or l k 0) (take k l) ≡ false
at_new l k h d =
    is_false (elem (get_or l k 0) (take k l))
    (λ e.
    clash (elem_head (get_or l k 0) (drop (suc k) l))
    (distinct_apart (take k l) (get_or l k 0 ∷ drop (suc k) l) (get_or l k 0) (subst (λ (x : List ℕ). distinct x ≡ true) (split_at l k 0 h) d) e))

module _ {p : Pool} {at a : ℕ} {g : ℕ → Bool} {needs queue : List ℕ} {end : ℕ} (w : Walking p at a g needs queue end) where
  queue_length : length (take end queue) ≡ end
  queue_length = length-take-le end queue (omega (arith, w.walk.short, w.walk.long))

  own : get_or (take end queue) at 0 ≡ a
  own = get_or-take end queue at 0 w.here ∙ w.head

  pub there : elem a (take end queue) ≡ true
  there = subst (λ (i : ℕ). elem i (take end queue) ≡ true) own (elem_at (take end queue) at (omega (arith, queue_length, w.here)))

  not_before : elem a (take at queue) ≡ false
  not_before =
      ap₂ elem (sym own) (sym (take-take at end queue (omega (arith, w.here))))
      ∙ at_new (take end queue) at (omega (arith, queue_length, w.here)) w.walk.once

  -- a child that is not in g was not met
  not_met : (c : ℕ) → g c ≡ false → of_some p (take at queue) a g a c ≡ false
  not_met c h =
      ap₂ (λ (x y : Bool). (x && has_in (slot_at p a).children c) || (eqb a a && y)) not_before h ∙ and-false (eqb a a)

-- ---- one child more

one_more : (r e x y : Bool) → ((r || (e && x)) || (e && y)) ≡ (r || (e && (x || y)))
one_more true e x y = refl
one_more false true x y = refl
one_more false false x y = refl

module _ {p : Pool} {at a : ℕ} {g g' : ℕ → Bool} {needs queue : List ℕ} {end c : ℕ} (w : Walking p at a g needs queue end)
    (child : has_in (slot_at p a).children c ≡ true) (tied : is_tied p a c ≡ true) (new : g c ≡ false) (more : (i : ℕ) → g' i ≡ (g i || eqb i c)) where
  met_more : (b d : ℕ) → (of_some p (take at queue) a g b d || (eqb b a && eqb d c)) ≡ of_some p (take at queue) a g' b d
  met_more b d =
      one_more (of_done p (take at queue) b d) (eqb b a) (g d) (eqb d c)
      ∙ ap (λ (t : Bool). of_done p (take at queue) b d || (eqb b a && t)) (sym (more d))

  pub walking_some : 1 ≤ get_or needs c 0
  walking_some = some_left w.walk (there w) child tied (not_met w c new)

  pub walking_room : end < capacity
  walking_room = push_room w.walk (there w) child tied (not_met w c new)

  pub walking_step : (get_or needs c 0 - 1 ≡ 0 → ⊥) → Walking p at a g' (set needs c (get_or needs c 0 - 1)) queue end
  walking_step n =
      record { walk = walk_ext met_more (walk_step w.walk (there w) child tied (not_met w c new) n); head = w.head; here = w.here }

  pub walking_push : get_or needs c 0 - 1 ≡ 0 → Walking p at a g' (set needs c (get_or needs c 0 - 1)) (set queue end c) (end + 1)
  walking_push z =
      record {
        walk = subst (λ (l : List ℕ). Walk p (of_some p l a g') (set needs c (get_or needs c 0 - 1)) (set queue end c) (end + 1))
            (sym (take-set-le at queue end c (omega (arith, w.here))))
            (walk_ext met_more (walk_push w.walk (there w) child tied (not_met w c new) z));
        head = get_or-set_other queue end at c 0 (λ e. omega (arith, w.here)) ∙ w.head;
        here = omega (arith, w.here);
      }

-- ---- the children in word j

-- of the children below the word's end those that are not in `rest`
abbrev pub children_past : Pool → ℕ → ℕ → TxSet → ℕ → Bool
children_past p a j rest c = has_in (slot_at p a).children c && (ltb c (64 * j + 64) && not (leb (64 * j) c && mem rest (c - 64 * j)))

-- what is left of the word are children
abbrev pub Left : Pool → ℕ → ℕ → TxSet → Type 0
Left p a j rest = (d : ℕ) → mem rest d ≡ true → has_in (slot_at p a).children (64 * j + d) ≡ true

pub walking_ext : {p : Pool} {at a : ℕ} {g g' : ℕ → Bool} {needs queue : List ℕ} {end : ℕ} → ((c : ℕ) → g c ≡ g' c)
    → Walking p at a g needs queue end → Walking p at a g' needs queue end
walking_ext {p} {at} {a} {queue = queue} same w =
    record {
      walk = walk_ext (λ b d. ap (λ (t : Bool). of_done p (take at queue) b d || (eqb b a && t)) (same d)) w.walk;
      head = w.head;
      here = w.here;
    }

-- words without children may be passed
pub walking_gap : {p : Pool} {at a x y : ℕ} {ws needs queue : List ℕ} {end : ℕ} → ws ≡ (slot_at p a).children → x ≤ y → Gap ws x y
    → Walking p at a (children_to p a (64 * x)) needs queue end → Walking p at a (children_to p a (64 * y)) needs queue end
walking_gap {p} {a = a} {x} {y} e up gap w =
    walking_ext (gap_same (slot_at p a).children x y up (subst (λ (l : List ℕ). Gap l x y) e gap)) w

module _ (p : Pool) (a j : ℕ) where
  -- at the start all of it is left
  pub word_left : (w : ℕ) → w ≡ get_or (slot_at p a).children j 0 → Left p a j (record { word = w })
  word_left w e d h = sym (word_mem (slot_at p a).children j w d e (mem_position _ d h)) ∙ h

  pub start_same : (w : ℕ) → w ≡ get_or (slot_at p a).children j 0 → (c : ℕ) → children_to p a (64 * j) c ≡ children_past p a j (record { word = w }) c
  start_same w e c =
      ⊎_elim
      (λ (l : c < 64 * j).
      ap (λ (t : Bool). named && t)
      (lt-ltb c (64 * j) l
      ∙ sym (ap₂ (λ (x y : Bool). x && not (y && mem rest (c - 64 * j))) (lt-ltb c (64 * j + 64) (omega arith)) (lt-leb (64 * j) c l))))
      (λ (l : 64 * j ≤ c).
      ap (λ (t : Bool). named && t) (le-ltb c (64 * j) l)
      ∙ and-false named
      ∙ sym
      (⊎_elim
      (λ (m : c < 64 * j + 64).
      let z : 64 * j + (c - 64 * j) ≡ c = omega arith in
      ap₂ (λ (x y : Bool). named && (x && not (y && mem rest (c - 64 * j)))) (lt-ltb c (64 * j + 64) m) (le-leb (64 * j) c l)
      ∙ ap (λ (t : Bool). named && not t) (word_mem (slot_at p a).children j w (c - 64 * j) e (omega arith) ∙ ap (has_in (slot_at p a).children) z)
      ∙ never named)
      (λ (m : 64 * j + 64 ≤ c).
      ap (λ (t : Bool). named && (t && not (leb (64 * j) c && mem rest (c - 64 * j)))) (le-ltb c (64 * j + 64) m) ∙ and-false named)
      (lt_or_ge c (64 * j + 64))))
      (lt_or_ge c (64 * j))
    where
      named : Bool
      named = has_in (slot_at p a).children c

      rest : TxSet
      rest = record { word = w }

      never : (b : Bool) → (b && not b) ≡ false
      never true = refl
      never false = refl

  pub done_same : (rest : TxSet) → is_empty rest ≡ true → (c : ℕ) → children_past p a j rest c ≡ children_to p a (64 * (j + 1)) c
  done_same rest none c =
      let z : 64 * j + 64 ≡ 64 * (j + 1) = omega arith in
      ap (λ (t : Bool). has_in (slot_at p a).children c && (ltb c (64 * j + 64) && not t))
      (ap (λ (t : Bool). leb (64 * j) c && t) (empty_mem rest none (c - 64 * j)) ∙ and-false (leb (64 * j) c))
      ∙ ap (λ (t : Bool). has_in (slot_at p a).children c && t) (and-true (ltb c (64 * j + 64)))
      ∙ ap (λ (n : ℕ). has_in (slot_at p a).children c && ltb c n) z

  module _ {rest rest' : TxSet} {k : ℕ} (t : Turn rest rest' k) (within : Left p a j rest) where
    pub lowest_here : mem rest k ≡ true
    lowest_here = ap (mem rest) t.first ∙ lowest_mem rest t.left

    pub lowest_below : k < positions
    lowest_below = subst (λ (n : ℕ). n < positions) (sym t.first) (lowest_position rest t.left)

    pub lowest_child : has_in (slot_at p a).children (64 * j + k) ≡ true
    lowest_child = within k lowest_here

    pub lowest_new : children_past p a j rest (64 * j + k) ≡ false
    lowest_new =
        let z : 64 * j + k - 64 * j ≡ k = omega arith in
        ap (λ (t : Bool). has_in (slot_at p a).children (64 * j + k) && (ltb (64 * j + k) (64 * j + 64) && not t))
        (ap₂ ◌&&◌ (le-leb (64 * j) (64 * j + k) (omega arith)) (ap (mem rest) z ∙ lowest_here))
        ∙ ap (λ (t : Bool). has_in (slot_at p a).children (64 * j + k) && t) (and-false (ltb (64 * j + k) (64 * j + 64)))
        ∙ and-false (has_in (slot_at p a).children (64 * j + k))

    next_else : (d : ℕ) → (d ≡ k → ⊥) → mem rest' d ≡ mem rest d
    next_else d n =
        t.next d ∙ ap (λ (b : Bool). mem rest d && not b) (ne_eqb d (lowest_of rest) (λ e. n (e ∙ sym t.first))) ∙ and-true (mem rest d)

    pub next_left : Left p a j rest'
    next_left d h = cases (eqb d k) (λ z. subst (λ (x : ℕ). has_in (slot_at p a).children (64 * j + x) ≡ true) (sym (eqb-true d k z)) lowest_child)
        (λ z. within d (sym (next_else d (eqb-false d k z)) ∙ h))

    pub next_more : (c : ℕ) → children_past p a j rest' c ≡ (children_past p a j rest c || eqb c (64 * j + k))
    next_more c =
        cases (eqb c (64 * j + k))
        (λ z. subst More (sym (eqb-true c (64 * j + k) z)) here)
        (λ z.
        ap (λ (t : Bool). has_in (slot_at p a).children c && (ltb c (64 * j + 64) && not t)) (same (eqb-false c (64 * j + k) z))
        ∙ sym (ap (λ (t : Bool). children_past p a j rest c || t) z ∙ or-false (children_past p a j rest c)))
      where
        More : ℕ → Type 0
        More x = children_past p a j rest' x ≡ (children_past p a j rest x || eqb x (64 * j + k))

        gone : mem rest' k ≡ false
        gone = t.next k ∙ ap (λ (b : Bool). mem rest k && not b) (eq-eqb k (lowest_of rest) t.first) ∙ and-false (mem rest k)

        here : More (64 * j + k)
        here =
            let z : 64 * j + k - 64 * j ≡ k = omega arith in
            ap₂ (λ (x y : Bool). x && (y && not (leb (64 * j) (64 * j + k) && mem rest' (64 * j + k - 64 * j)))) lowest_child
            (lt-ltb (64 * j + k) (64 * j + 64) (omega (arith, lowest_below)))
            ∙ ap (λ (t : Bool). not (leb (64 * j) (64 * j + k) && t)) (ap (mem rest') z ∙ gone)
            ∙ ap not (and-false (leb (64 * j) (64 * j + k)))
            ∙ sym
            (ap (λ (t : Bool). children_past p a j rest (64 * j + k) || t) (eq-eqb (64 * j + k) (64 * j + k) refl)
            ∙ or-true (children_past p a j rest (64 * j + k)))

        same : (c ≡ 64 * j + k → ⊥) → (leb (64 * j) c && mem rest' (c - 64 * j)) ≡ (leb (64 * j) c && mem rest (c - 64 * j))
        same n =
            ⊎_elim
            (λ (l : c < 64 * j). ap (λ (x : Bool). x && mem rest' (c - 64 * j)) (lt-leb (64 * j) c l) ∙ sym (ap (λ (x : Bool). x && mem rest (c - 64 * j)) (lt-leb (64 * j) c l)))
            (λ (l : 64 * j ≤ c). ap (λ (t : Bool). leb (64 * j) c && t) (next_else (c - 64 * j) (λ e. n (omega arith))))
            (lt_or_ge c (64 * j))

-- ---- all children

-- before the first of the queue no link was walked
pub none_done : (p : Pool) (queue : List ℕ) (b c : ℕ) → no_link b c ≡ of_done p (take 0 queue) b c
unfolding elem any_of
none_done p queue b c = refl

module _ (t : List ℕ) {at : ℕ} {needs queue : List ℕ} {end : ℕ} where
  pub release_start : (a : ℕ) → get_or queue at 0 ≡ a → at < end → Walk (pool_of t) (of_done (pool_of t) (take at queue)) needs queue end
      → Walking (pool_of t) at a (children_to (pool_of t) a (64 * 0)) needs queue end
  release_start a e l w = record { walk = walk_ext (λ b c. sym (none b c)) w; head = e; here = l }
    where
      none : (b c : ℕ) → of_some (pool_of t) (take at queue) a (children_to (pool_of t) a (64 * 0)) b c ≡ of_done (pool_of t) (take at queue) b c
      none b c =
          ap (λ (x : Bool). of_done (pool_of t) (take at queue) b c || (eqb b a && x))
          (ap (λ (x : Bool). has_in (slot_at (pool_of t) a).children c && x) (le-ltb c (64 * 0) (omega arith)) ∙ and-false (has_in (slot_at (pool_of t) a).children c))
          ∙ ap (λ (x : Bool). of_done (pool_of t) (take at queue) b c || x) (and-false (eqb b a))
          ∙ or-false (of_done (pool_of t) (take at queue) b c)

  pub release_done : {a : ℕ} → Walking (pool_of t) at a (children_to (pool_of t) a capacity) needs queue end
      → Walk (pool_of t) (of_done (pool_of t) (take (at + 1) queue)) needs queue end
  release_done {a} w = walk_ext all w.walk
    where
      p : Pool
      p = pool_of t

      -- no child is past the last word
      whole : (c : ℕ) → children_to p a capacity c ≡ has_in (slot_at p a).children c
      whole c =
          ⊎_elim
          (λ (m : c < capacity).
          ap (λ (x : Bool). has_in (slot_at p a).children c && x) (lt-ltb c capacity m) ∙ and-true (has_in (slot_at p a).children c))
          (λ (m : capacity ≤ c).
          let none = set_past (slot_at p a).children (whole_slot t a).children c (omega arith) in
          ap (λ (x : Bool). x && ltb c capacity) none ∙ sym none)
          (lt_or_ge c capacity)

      grown : take (at + 1) queue ≡ take at queue ++ (a ∷ [])
      grown =
          ap (λ (k : ℕ). take k queue) (add-one at)
          ∙ take-suc queue at 0 (omega (arith, w.here, w.walk.short, w.walk.long))
          ∙ ap (λ (x : ℕ). take at queue ++ (x ∷ [])) w.head

      join : (r e x : Bool) → ((r && x) || (e && x)) ≡ ((r || e) && x)
      join true true true = refl
      join true true false = refl
      join true false true = refl
      join true false false = refl
      join false e x = refl

      all : (b c : ℕ) → of_some p (take at queue) a (children_to p a capacity) b c ≡ of_done p (take (at + 1) queue) b c
      all b c =
          ap (λ (x : Bool). of_done p (take at queue) b c || x)
          (cases (eqb b a)
          (λ e. ap (λ (x : Bool). eqb b a && x) (whole c ∙ ap (λ (i : ℕ). has_in (slot_at p i).children c) (sym (eqb-true b a e))))
          (λ e. ap (λ (x : Bool). x && children_to p a capacity c) e ∙ sym (ap (λ (x : Bool). x && has_in (slot_at p b).children c) e)))
          ∙ join (elem b (take at queue)) (eqb b a) (has_in (slot_at p b).children c)
          ∙ ap (λ (x : Bool). x && has_in (slot_at p b).children c) (sym (ap (elem b) grown ∙ elem_snoc b a (take at queue)))
