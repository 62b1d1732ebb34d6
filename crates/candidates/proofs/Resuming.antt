-- A scan upwards that starts where something has changed: what it holds there is what the last scan held there. Assumes nothing.
use mathlib.Core.Path.{◌≡◌, refl, sym, ap, ap₂, ◌∙◌}
use mathlib.Core.Bool.{Bool, true, false, cond, not, ◌&&◌, and-true, and-false}
use mathlib.Core.Logic.{⊎_elim}
use mathlib.Core.List.{List, [], ◌∷◌, ◌++◌, append-nil}
use Prim.Native.Nat.{ℕ, ◌+◌, ◌-◌, ◌≤◌, ◌<◌}
use native.Mathlib.Nat.{eq-or-lt_of_le}
use native.Mathlib.Omega.{arith}
use lib.Dec.{eqb, ltb, leb}
use lib.ListN.{length, get_or, set, length-set}
use lib.Seq.{get_or-set_same, get_or-set_other}
use borrow.Author.Tests.{lt-ltb, le-ltb, leb-true, lt-leb, le-leb, eq-eqb, ne_eqb}
use Rattle.lists.specs.Below.{keep_if, list_from}
use Rattle.lists.specs.Lists.{any_of, elem}
use Rattle.lists.proofs.Numbers.{lt_or_ge}
use Rattle.lists.proofs.Bools.{clash, and_left, and_right}
use Rattle.lists.proofs.Below.{list_ext, list_split, list_nil, at_none, list_none, elem_in, elem_below, first_is}
use Rattle.txset.specs.declared.TxSet.{TxSet}
use Rattle.txset.specs.Sets.{positions, is_position, mem, members, is_empty, lowest_of}
use Rattle.txset.proofs.Sets.{mem_position, mem_without, empty_mem}
use Rattle.txset.proofs.Walk.{lowest_mem, lowest_position}
use Rattle.feeset.specs.Scan.{scan, best}
use Rattle.feeset.proofs.Scan.{best_elem, best_ext}
use Rattle.candidates.specs.Steps.{Places, HeldAt, HeldBelow, Resumes}

-- the members below i
abbrev below_in : TxSet → ℕ → List ℕ
below_in s i = list_from (mem s) i 0

-- none of them is below the lowest
pub lowest_first : (s : TxSet) (j : ℕ) → j < lowest_of s → mem s j ≡ false
unfolding lowest_of
lowest_first s j l = (first_is (mem s) positions 0).before j (omega arith) l

-- none from p to i
below_same : (s : TxSet) (p i : ℕ) → p ≤ i → ((j : ℕ) → p ≤ j → j < i → mem s j ≡ false) → below_in s i ≡ below_in s p
below_same s p i l h =
    let e : i ≡ p + (i - p) = omega arith in
    ap (below_in s) e ∙ list_split (mem s) p (i - p) 0
    ∙ ap (λ (xs : List ℕ). below_in s p ++ xs)
    (list_nil (mem s) (i - p) (0 + p) (at_none (mem s) (i - p) (0 + p) (λ j a b. h j (omega arith) (omega arith))))
    ∙ append-nil (below_in s p)

-- with i itself
below_with : (s : TxSet) (i : ℕ) → mem s i ≡ true → below_in s (i + 1) ≡ below_in s i ++ (i ∷ [])
unfolding list_from
below_with s i m =
    let e : 0 + i ≡ i = omega arith in
    list_split (mem s) i 1 0 ∙ ap (λ (k : ℕ). below_in s i ++ list_from (mem s) 1 k) e ∙ ap (λ (b : Bool). below_in s i ++ keep_if b i []) m

scan_append : (above : ℕ → ℕ → Bool) (f : ℕ) (xs ys : List ℕ) → scan above f (xs ++ ys) ≡ scan above (scan above f xs) ys
unfolding scan
scan_append above f [] ys = refl
scan_append above f (x ∷ xs) ys = scan_append above (cond (above x f) x f) xs ys

-- one more is passed
best_snoc : (above : ℕ → ℕ → Bool) (xs : List ℕ) (f i : ℕ) → best above xs ≡ f ∷ [] → best above (xs ++ (i ∷ [])) ≡ cond (above i f) i f ∷ []
unfolding best scan
best_snoc above [] f i e = let z : ◌≡◌ {A = ℕ} 0 1 = cc in absurd (omega arith)
best_snoc above (x ∷ xs) f i e =
    let z : scan above x xs ≡ f = cc in
    ap (λ (a : ℕ). a ∷ []) (scan_append above x xs (i ∷ []) ∙ ap (λ (a : ℕ). cond (above i a) i a) z)

best_cons : (above : ℕ → ℕ → Bool) (x : ℕ) (xs : List ℕ) → best above (x ∷ xs) ≡ scan above x xs ∷ []
unfolding best
best_cons above x xs = refl

scan_none : (above : ℕ → ℕ → Bool) (x : ℕ) → scan above x [] ≡ x
unfolding scan
scan_none above x = refl

elem_nil : (x : ℕ) → elem x [] ≡ false
unfolding elem any_of
elem_nil x = refl

best_nil : (above : ℕ → ℕ → Bool) (xs : List ℕ) (x : ℕ) → xs ≡ [] → best above xs ≡ x ∷ [] → ⊥
unfolding best
best_nil above xs x z e = let b : ◌≡◌ {A = ℕ} 0 1 = cc in omega arith

-- on the way: those below p are passed, and `found` is their best
pub record Resuming
    {A : Type 0}
    (above : ℕ → ℕ → Bool)
    (value : ℕ → A)
    (todo : TxSet)
    (old : List ℕ)
    (found : ℕ)
    (worth : A)
    (rest : TxSet)
    (held : List ℕ) : Type 0 where
  pub upto : ℕ
  pub within : upto ≤ positions
  pub left : (j : ℕ) → mem rest j ≡ (mem todo j && leb upto j)
  pub gives : best above (below_in todo upto) ≡ found ∷ []
  pub known : worth ≡ value found
  pub kept : HeldBelow above todo held upto
  pub long : length held ≡ length old

-- the start
pub resume_start : {A : Type 0} (above : ℕ → ℕ → Bool) (value : ℕ → A) (todo low full rest : TxSet) (held : List ℕ) (first from found : ℕ) (worth : A)
    → is_empty todo ≡ false → from ≤ positions → Resumes above todo held from → first ≡ lowest_of todo
    → ((j : ℕ) → mem low j ≡ (mem todo j && not (eqb j (lowest_of todo)))) → ((j : ℕ) → mem full j ≡ (is_position j && ltb j from))
    → ((j : ℕ) → mem rest j ≡ (mem low j && not (mem full j)))
    → found ≡ cond (ltb first from) (get_or held from 0) first → worth ≡ value found
    → Resuming above value todo held found worth rest held
resume_start {A} above value todo low full rest held first from found worth some few res is lows fulls rests founds known =
    ⊎_elim later anew (lt_or_ge first from)
  where
    -- a member of all but the first that is not below `from`
    member : (j : ℕ) → mem rest j ≡ ((mem todo j && not (eqb j first)) && not (ltb j from))
    member j =
        rests j ∙ ap (λ (b : Bool). mem low j && not b) (fulls j) ∙ mem_without low j (ltb j from)
        ∙ ap (λ (b : Bool). b && not (ltb j from)) (lows j ∙ ap (λ (k : ℕ). mem todo j && not (eqb j k)) (sym is))

    -- of those from p on all are left, where p is behind the first and not before `from`
    beyond : (p j : ℕ) → first < p → from ≤ p → p ≤ j → mem rest j ≡ (mem todo j && leb p j)
    beyond p j a b l =
        member j ∙ rw (ne_eqb j first (λ z. omega arith), le-ltb j from (omega arith), le-leb p j l) (and-true (mem todo j && true))

    -- of those before none is
    before : (p j : ℕ) → j < p → mem rest j ≡ false → mem rest j ≡ (mem todo j && leb p j)
    before p j l e = e ∙ sym (ap (λ (b : Bool). mem todo j && b) (lt-leb p j l) ∙ and-false (mem todo j))

    later : first < from → Resuming above value todo held found worth rest held
    later l = record {
      upto = from;
      within = few;
      left = λ j. ⊎_elim
          (λ b.
          let m = mem todo j && not (eqb j first) in
          before from j b (member j ∙ ap (λ (c : Bool). m && not c) (lt-ltb j from b) ∙ and-false m))
          (λ b. beyond from j l (omega arith) b)
          (lt_or_ge j from);
      gives = held_one (below_in todo from) refl;
      known = known;
      kept = res.below;
      long = refl;
    }
      where
        held_one : (xs : List ℕ) → below_in todo from ≡ xs → best above (below_in todo from) ≡ found ∷ []
        held_one [] e =
            clash
            (sym (ap (elem first) e) ∙ elem_in (mem todo) from 0 first (omega arith) (omega arith) ∙ ap (mem todo) is ∙ lowest_mem todo some)
            (elem_nil first)
        held_one (x ∷ xs) e =
            let q : best above (below_in todo from) ≡ scan above x xs ∷ [] = ap (best above) e ∙ best_cons above x xs in
            q
            ∙ ap (λ (a : ℕ). a ∷ [])
            (sym (res.here (scan above x xs) q) ∙ sym (founds ∙ ap (λ (b : Bool). cond b (get_or held from 0) first) (lt-ltb first from l)))

    anew : from ≤ first → Resuming above value todo held found worth rest held
    anew l = record {
      upto = first + 1;
      within = omega (arith, is, lowest_position todo some);
      left = λ j. ⊎_elim
          (λ b. before (first + 1) j b (member j ∙ ap (λ (c : Bool). c && not (ltb j from)) (out j (omega arith))))
          (λ b. beyond (first + 1) j (omega arith) (omega arith) b)
          (lt_or_ge j (first + 1));
      gives =
          ap (best above) (below_with todo first (ap (mem todo) is ∙ lowest_mem todo some) ∙ ap (λ (xs : List ℕ). xs ++ (first ∷ [])) none)
          ∙ best_cons above first []
          ∙ ap (λ (a : ℕ). a ∷ [])
          (scan_none above first ∙ sym (founds ∙ ap (λ (b : Bool). cond b (get_or held from 0) first) (le-ltb first from l)));
      known = known;
      kept = λ i m b x e. ⊎_elim
          (λ (z : i ≡ first). absurd (best_nil above (below_in todo i) x (ap (below_in todo) z ∙ none) e))
          (λ (z : i < first). clash m (lowest_first todo i (omega (arith, is))))
          (eq-or-lt_of_le (omega arith));
      long = refl;
    }
      where
        none : below_in todo first ≡ []
        none = below_same todo 0 first (omega arith) (λ j _ b. lowest_first todo j (omega (arith, is))) ∙ list_none (mem todo) 0

        out : (j : ℕ) → j ≤ first → (mem todo j && not (eqb j first)) ≡ false
        out j b = ⊎_elim
            (λ (z : j ≡ first). ap (λ (c : Bool). mem todo j && not c) (eq-eqb j first z) ∙ and-false (mem todo j))
            (λ (z : j < first). ap (λ (c : Bool). c && not (eqb j first)) (lowest_first todo j (omega (arith, is))))
            (eq-or-lt_of_le b)

-- what is found is one of the set
pub found_in : {A : Type 0} {above : ℕ → ℕ → Bool} {value : ℕ → A} {todo : TxSet} {old : List ℕ} {found : ℕ} {worth : A} {rest : TxSet} {held : List ℕ}
    → Resuming above value todo old found worth rest held → mem todo found ≡ true
found_in {above = above} {todo = todo} {found = found} h =
    (elem_below (mem todo) h.upto found (best_elem above (below_in todo h.upto) found h.gives)).1

-- nothing is left to scan
pub resume_stop : {A : Type 0} {above : ℕ → ℕ → Bool} {value : ℕ → A} {todo : TxSet} {old : List ℕ} {found : ℕ} {worth : A} {rest : TxSet}
    {held : List ℕ} → Resuming above value todo old found worth rest held → is_empty rest ≡ true
    → (best above (members todo) ≡ found ∷ []) × HeldBelow above todo held positions
unfolding members
resume_stop {above = above} {todo = todo} {rest = rest} h e =
    let none : (j : ℕ) → h.upto ≤ j → mem todo j ≡ false =
    λ j l. sym (and-true (mem todo j)) ∙ ap (λ (b : Bool). mem todo j && b) (sym (le-leb h.upto j l)) ∙ sym (h.left j) ∙ empty_mem rest e j in (
      ap (best above) (below_same todo h.upto positions h.within (λ j a b. none j a)) ∙ h.gives,
      λ i m b. ⊎_elim (λ l. h.kept i m l) (λ l x q. clash m (none i l)) (lt_or_ge i h.upto),
    )

-- a turn: t is what is left of `rest` without its lowest, i
module _
    {A : Type 0}
    (above : ℕ → ℕ → Bool)
    (value : ℕ → A)
    (todo : TxSet)
    (old : List ℕ)
    (found : ℕ)
    (worth : A)
    (rest t : TxSet)
    (held : List ℕ)
    (i : ℕ)
    (h : Resuming above value todo old found worth rest held)
    (some : is_empty rest ≡ false)
    (first : i ≡ lowest_of rest)
    (next : (j : ℕ) → mem t j ≡ (mem rest j && not (eqb j (lowest_of rest))))
    (places : Places todo (length old)) where
  here : (mem todo i ≡ true) × (h.upto ≤ i)
  here =
      let m = sym (h.left i) ∙ ap (mem rest) first ∙ lowest_mem rest some in
      (and_left (mem todo i) (leb h.upto i) m, leb-true h.upto i (and_right (mem todo i) (leb h.upto i) m))

  -- it is one of the set
  pub turn_in : mem todo i ≡ true
  turn_in = here.0

  pub place : i < length held
  place = omega (arith, places i here.0, h.long)

  -- none between those passed and i
  between : (j : ℕ) → h.upto ≤ j → j < i → mem todo j ≡ false
  between j l b =
      sym (and-true (mem todo j)) ∙ ap (λ (c : Bool). mem todo j && c) (sym (le-leb h.upto j l)) ∙ sym (h.left j)
      ∙ lowest_first rest j (omega (arith, first))

  passed : best above (below_in todo i) ≡ found ∷ []
  passed = ap (best above) (below_same todo h.upto i here.1 between) ∙ h.gives

  left_on : (j : ℕ) → mem t j ≡ (mem todo j && leb (i + 1) j)
  left_on j = next j ∙ ap₂ (λ (b : Bool) (k : ℕ). b && not (eqb j k)) (h.left j) (sym first) ∙ go
    where
      gone : j < i → (mem todo j && leb h.upto j) ≡ false
      gone z = ⊎_elim
          (λ a. ap (λ (b : Bool). mem todo j && b) (lt-leb h.upto j a) ∙ and-false (mem todo j))
          (λ a. ap (λ (b : Bool). b && leb h.upto j) (between j a z))
          (lt_or_ge j h.upto)

      low : j ≤ i → ((mem todo j && leb h.upto j) && not (eqb j i)) ≡ false
      low l = ⊎_elim
          (λ (z : j ≡ i). ap (λ (b : Bool). (mem todo j && leb h.upto j) && not b) (eq-eqb j i z) ∙ and-false (mem todo j && leb h.upto j))
          (λ (z : j < i). ap (λ (b : Bool). b && not (eqb j i)) (gone z))
          (eq-or-lt_of_le l)

      go : ((mem todo j && leb h.upto j) && not (eqb j i)) ≡ (mem todo j && leb (i + 1) j)
      go = ⊎_elim
          (λ (l : j < i + 1). low (omega arith) ∙ sym (ap (λ (b : Bool). mem todo j && b) (lt-leb (i + 1) j l) ∙ and-false (mem todo j)))
          (λ (l : i + 1 ≤ j).
          rw (ne_eqb j i (λ z. omega arith), le-leb h.upto j (omega (arith, here.1)), le-leb (i + 1) j l) (and-true (mem todo j && true)))
          (lt_or_ge j (i + 1))

  -- of the value v; x is above y by their values
  module _ (over : A → A → Bool) (by : (x y : ℕ) → above x y ≡ over (value x) (value y)) (v : A) (is : v ≡ value i) where
    turn : (b : Bool) → over v worth ≡ b → (f : ℕ) (w : A) → f ≡ cond b i found → w ≡ value f → Resuming above value todo old f w t (set held i found)
    turn b e f w fs ws = record {
      upto = i + 1;
      within = omega (arith, first, lowest_position rest some);
      left = left_on;
      gives =
          ap (best above) (below_with todo i here.0) ∙ best_snoc above (below_in todo i) found i passed
          ∙ ap (λ (c : Bool). cond c i found ∷ []) (by i found ∙ ap₂ over (sym is) (sym h.known) ∙ e) ∙ ap (λ (a : ℕ). a ∷ []) (sym fs);
      known = ws;
      kept = λ j m l x q. ⊎_elim
          (λ (z : j ≡ i).
          ap (λ (a : ℕ). get_or (set held i found) a 0) z ∙ get_or-set_same held i found 0 place
          ∙ same_one (sym passed ∙ ap (λ (a : ℕ). best above (below_in todo a)) (sym z) ∙ q))
          (λ (z : j < i). get_or-set_other held i j found 0 (λ y. omega arith) ∙ old_one j m z x q)
          (eq-or-lt_of_le (omega arith));
      long = length-set held i found ∙ h.long;
    }
      where
        same_one : {x y : ℕ} → ◌≡◌ {A = List ℕ} (x ∷ []) (y ∷ []) → x ≡ y
        same_one q = cc

        old_one : (j : ℕ) → mem todo j ≡ true → j < i → HeldAt above todo held j
        old_one j m l = ⊎_elim (λ a. h.kept j m a) (λ a x q. clash m (between j a l)) (lt_or_ge j h.upto)

    pub resume_yields : over v worth ≡ true → Resuming above value todo old i v t (set held i found)
    resume_yields e = turn true e i v refl is

    pub resume_holds : over v worth ≡ false → Resuming above value todo old found worth t (set held i found)
    resume_holds e = turn false e found worth refl h.known

-- ---- what stays

-- at first there is nothing to know
pub resumes_first : (above : ℕ → ℕ → Bool) (todo : TxSet) (held : List ℕ) → Resumes above todo held 0
resumes_first above todo held = record {
  below = λ i m l. absurd (omega arith);
  here = λ x e. absurd (best_nil above (below_in todo 0) x (list_none (mem todo) 0) e);
}

-- below `from` the set and the values are as they were
module _
    {A : Type 0}
    (over : A → A → Bool)
    (was now : ℕ → A)
    (todo rest : TxSet)
    (from : ℕ)
    (same_set : (j : ℕ) → j < from → mem rest j ≡ mem todo j)
    (same : (j : ℕ) → j < from → mem rest j ≡ true → now j ≡ was j) where
  held_on : (held : List ℕ) (i : ℕ) → i ≤ from → HeldAt (λ x y. over (was x) (was y)) todo held i → HeldAt (λ x y. over (now x) (now y)) rest held i
  held_on held i l k x e =
      k x
      (sym
      (best_ext _ _ (below_in rest i) (λ a b p q. ap₂ over (value a p) (value b q))
      ∙ ap (best (λ x y. over (was x) (was y))) (list_ext (mem rest) (mem todo) i 0 (λ j _ b. same_set j (omega arith))))
      ∙ e)
    where
      value : (a : ℕ) → elem a (below_in rest i) ≡ true → now a ≡ was a
      value a p = let m = elem_below (mem rest) i a p in same a (omega (arith, m.0)) m.1

  pub resumes_on : (held : List ℕ) → HeldBelow (λ x y. over (was x) (was y)) todo held positions → mem todo from ≡ true
      → Resumes (λ x y. over (now x) (now y)) rest held from
  resumes_on held h m = record {
    below = λ i k l. held_on held i (omega arith) (h i (sym (same_set i l) ∙ k) (mem_position todo i (sym (same_set i l) ∙ k)));
    here = held_on held from (omega arith) (h from m (mem_position todo from m));
  }
