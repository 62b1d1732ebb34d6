-- A scan over the members of a set that are ready, with nothing found until the first of them. Assumes nothing.
use Rattle.std.proofs.Common.{Option, Some, None}
use mathlib.Core.Path.{◌≡◌, refl, sym, ap, ◌∙◌}
use mathlib.Core.Bool.{Bool, true, false, cond, not, ◌&&◌}
use mathlib.Core.List.{List, [], ◌∷◌, ◌++◌}
use mathlib.Core.Logic.{⊎_elim}
use Prim.Native.Nat.{ℕ, zero, suc, ◌≤◌, ◌<◌}
use native.Mathlib.Omega.{arith}
use lib.Dec.{eqb}
use borrow.Author.Tests.{eqb-false, not-true}
use Rattle.txset.specs.declared.TxSet.{TxSet}
use Rattle.lists.specs.Below.{keep_if, list_from, first_from}
use Rattle.txset.specs.Sets.{positions, mem, members, is_empty, lowest_of}
use Rattle.lists.specs.Lists.{elem, only}
use Rattle.lists.proofs.Bools.{clash, and_left, and_right}
use Rattle.lists.proofs.Below.{elem_below, first_is}
use Rattle.lists.proofs.Lists.{elem_head, elem_tail}
use Rattle.lists.proofs.Numbers.{lt_or_ge}
use Rattle.txset.proofs.Walk.{Turn, lowest_mem, walk_step, walk_done, walk_turn}
use Rattle.feeset.specs.Scan.{scan, best}
use Rattle.feeset.proofs.Scan.{best_elem}
use Rattle.output_order.specs.Rounds.{chosen}

-- those of a range that are ready
pub only_list : (ready f : ℕ → Bool) (k i : ℕ) → only ready (list_from f k i) ≡ list_from (λ j. f j && ready j) k i
unfolding only list_from
only_list ready f zero i = refl
only_list ready f (suc k) i = only_keep (f i) ∙ ap (keep_if (f i && ready i) i) (only_list ready f k (suc i))
  where
    only_keep : (b : Bool) → only ready (keep_if b i (list_from f k (suc i))) ≡ keep_if (b && ready i) i (only ready (list_from f k (suc i)))
    only_keep true = refl
    only_keep false = refl

-- one of those chosen from is in the set
pub best_mem : (above : ℕ → ℕ → Bool) (ready : ℕ → Bool) (s : TxSet) (t : ℕ) → best above (only ready (members s)) ≡ t ∷ [] → mem s t ≡ true
unfolding members
best_mem above ready s t e =
    let f : ℕ → Bool = λ j. mem s j && ready j in
    let is : elem t (list_from f positions 0) ≡ true =
    ap (elem t) (sym (only_list ready (mem s) positions 0)) ∙ best_elem above (only ready (list_from (mem s) positions 0)) t e in
    and_left (mem s t) (ready t) (elem_below f positions t is).1

-- and ready
pub best_ready : (above : ℕ → ℕ → Bool) (ready : ℕ → Bool) (s : TxSet) (t : ℕ) → best above (only ready (members s)) ≡ t ∷ [] → ready t ≡ true
unfolding members
best_ready above ready s t e =
    let f : ℕ → Bool = λ j. mem s j && ready j in
    let is : elem t (list_from f positions 0) ≡ true =
    ap (elem t) (sym (only_list ready (mem s) positions 0)) ∙ best_elem above (only ready (list_from (mem s) positions 0)) t e in
    and_right (mem s t) (ready t) (elem_below f positions t is).1

-- a scan keeps what it has found where nothing to come is above it
scan_keeps : (above : ℕ → ℕ → Bool) (found : ℕ) (xs : List ℕ) → ((x : ℕ) → elem x xs ≡ true → above x found ≡ false) → scan above found xs ≡ found
unfolding scan
scan_keeps above found [] h = refl
scan_keeps above found (x ∷ xs) h =
    ap (λ (b : Bool). scan above (cond b x found) xs) (h x (elem_head x xs)) ∙ scan_keeps above found xs (λ i e. h i (elem_tail i x xs e))

-- the lowest of a set is at or below each of it
pub lowest_least : (s : TxSet) (j : ℕ) → mem s j ≡ true → lowest_of s ≤ j
unfolding lowest_of
lowest_least s j m =
    ⊎_elim (λ l. clash m ((first_is (mem s) positions 0).before j (omega arith) l)) (λ l. l) (lt_or_ge j (first_from (mem s) positions 0))

-- a scan of the ready ones of `all` on its way: what is found, and the set of those to come, which stand behind it
pub record Found (above : ℕ → ℕ → Bool) (ready : ℕ → Bool) (all : TxSet) (found : Option ℕ) (rest : TxSet) : Type 0 where
  pub of : (j : ℕ) → mem rest j ≡ true → mem all j ≡ true
  pub has : (f : ℕ) → found ≡ Some f → mem all f ≡ true
  pub behind : (f j : ℕ) → found ≡ Some f → mem rest j ≡ true → f < j
  pub gives : best above (chosen found ++ only ready (members rest)) ≡ best above (only ready (members all))

pub found_start : (above : ℕ → ℕ → Bool) (ready : ℕ → Bool) (s : TxSet) → Found above ready s None s
found_start above ready s = record { of = λ j m. m; has = λ f e. absurd (cc); behind = λ f j e m. absurd (cc); gives = refl }

module _ {above : ℕ → ℕ → Bool} {ready : ℕ → Bool} {all : TxSet} {found : Option ℕ} {s : TxSet} (h : Found above ready all found s) where
  -- nothing is left: what is found is the best
  pub found_stop : members s ≡ [] → chosen found ≡ best above (only ready (members all))
  unfolding best scan only
  found_stop e = alone found ∙ ap (λ (l : List ℕ). best above (chosen found ++ only ready l)) (sym e) ∙ h.gives
    where
      alone : (o : Option ℕ) → chosen o ≡ best above (chosen o ++ [])
      alone (Some f) = refl
      alone None = refl

  -- nothing to come is above what is found: it is the best
  pub found_early : (f : ℕ) → found ≡ Some f → ((j : ℕ) → mem s j ≡ true → above j f ≡ false) → chosen found ≡ best above (only ready (members all))
  unfolding best members
  found_early f is low =
      let list = only ready (members s) in
      ap chosen is
      ∙ ap (λ (t : ℕ). t ∷ [])
      (sym (scan_keeps above f list (λ x e.
      let g : ℕ → Bool = λ j. mem s j && ready j in
      let in_list : elem x (list_from g positions 0) ≡ true = ap (elem x) (sym (only_list ready (mem s) positions 0)) ∙ e in
      low x (and_left (mem s x) (ready x) (elem_below g positions x in_list).1))))
      ∙ sym (ap (λ (o : Option ℕ). best above (chosen o ++ list)) is)
      ∙ h.gives

  -- a turn: the walk takes i, and t is left
  module _ (t : TxSet) {i : ℕ} (w : members s ≡ i ∷ members t) where
    lowest : Turn s t i
    lowest = walk_turn s t i w

    pub turn_mem : mem s i ≡ true
    turn_mem = ap (mem s) lowest.first ∙ lowest_mem s lowest.left

    pub turn_all : mem all i ≡ true
    turn_all = h.of i turn_mem

    pub turn_least : (j : ℕ) → mem s j ≡ true → i ≤ j
    turn_least j m = omega (arith, lowest.first, lowest_least s j m)

    turn_kept : (j : ℕ) → mem t j ≡ true → mem s j ≡ true
    turn_kept j m = and_left (mem s j) (not (eqb j (lowest_of s))) (sym (lowest.next j) ∙ m)

    turn_up : (j : ℕ) → mem t j ≡ true → i < j
    turn_up j m =
        let n = eqb-false j (lowest_of s) (not-true (eqb j (lowest_of s)) (and_right (mem s j) (not (eqb j (lowest_of s))) (sym (lowest.next j) ∙ m))) in
        omega (arith, lowest.first, turn_least j (turn_kept j m))

    step : (b : Bool) → ready i ≡ b → best above (chosen found ++ keep_if b i (only ready (members t))) ≡ best above (only ready (members all))
    unfolding only
    step b e =
        ap (λ (c : Bool). best above (chosen found ++ keep_if c i (only ready (members t)))) (sym e)
        ∙ ap (λ (l : List ℕ). best above (chosen found ++ only ready l)) (sym w)
        ∙ h.gives

    -- i is found
    taken : best above (i ∷ only ready (members t)) ≡ best above (only ready (members all)) → Found above ready all (Some i) t
    taken g = record {
      of = λ j m. h.of j (turn_kept j m);
      has = λ f e. let z : i ≡ f = cc in rw (← z) turn_all;
      behind = λ f j e m. let z : i ≡ f = cc in omega (arith, turn_up j m);
      gives = g;
    }

    -- or what was
    kept : best above (chosen found ++ only ready (members t)) ≡ best above (only ready (members all)) → Found above ready all found t
    kept g = record { of = λ j m. h.of j (turn_kept j m); has = h.has; behind = λ f j e m. h.behind f j e (turn_kept j m); gives = g }

    -- one that is not ready is passed over
    pub found_skip : ready i ≡ false → Found above ready all found t
    found_skip e = kept (step false e)

    -- the first that is ready is found
    pub found_first : ready i ≡ true → found ≡ None → Found above ready all (Some i) t
    found_first e z = taken (ap (λ (o : Option ℕ). best above (chosen o ++ i ∷ only ready (members t))) (sym z) ∙ step true e)

    module _ (e : ready i ≡ true) {f : ℕ} (is : found ≡ Some f) where
      turn : (b : Bool) → above i f ≡ b → best above (cond b i f ∷ only ready (members t)) ≡ best above (only ready (members all))
      unfolding best scan
      turn b a =
          ap (λ (c : Bool). best above (cond c i f ∷ only ready (members t))) (sym a)
          ∙ ap (λ (o : Option ℕ). best above (chosen o ++ i ∷ only ready (members t))) (sym is)
          ∙ step true e

      -- what is found yields to one that is above it, and to no other
      pub found_yields : above i f ≡ true → Found above ready all (Some i) t
      found_yields a = taken (turn true a)

      pub found_keeps : above i f ≡ false → Found above ready all (Some f) t
      found_keeps a = rw (← is) (kept (ap (λ (o : Option ℕ). best above (chosen o ++ only ready (members t))) is ∙ turn false a))

-- one that is alone and ready is the best
pub best_alone : (above : ℕ → ℕ → Bool) (ready : ℕ → Bool) {s t : TxSet} {i : ℕ} → Turn s t i → is_empty t ≡ true → ready i ≡ true
    → i ∷ [] ≡ best above (only ready (members s))
best_alone above ready {s} {t} {i} w none e =
    let walk : members s ≡ i ∷ members t = walk_step s t w.next w.left ∙ ap (λ (x : ℕ). x ∷ members t) (sym w.first) in
    found_stop (found_first (found_start above ready s) t walk e refl) (walk_done t none)
