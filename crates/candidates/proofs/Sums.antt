-- The sums in a list, written one after the other. Assumes nothing.
use mathlib.Core.Path.{◌≡◌, refl, sym, ap, ◌∙◌}
use mathlib.Core.Bool.{Bool, true, false, cond, ◌||◌}
use mathlib.Core.Logic.{⊎_elim}
use mathlib.Core.List.{List, [], ◌∷◌, ◌++◌}
use Prim.Native.Nat.{ℕ, ◌+◌, ◌≤◌, ◌<◌}
use native.Mathlib.Numerals.{add-one}
use native.Mathlib.Omega.{arith}
use lib.IntN.{ℤ}
use lib.ListN.{length, drop, set, get_or, drop_of_length-le}
use lib.Seq.{drop-cons, get_or-set_same, get_or-set_other}
use borrow.Author.Count.{below_more}
use Rattle.feefrac.specs.declared.FeeFrac.{FeeFrac}
use Rattle.feefrac.specs.Rate.{zero_rate, difference, rate_at}
use Rattle.txset.specs.declared.TxSet.{TxSet}
use Rattle.txset.specs.Sets.{mem}
use Rattle.txset.proofs.Walk.{Turn}
use Rattle.lists.proofs.Bools.{clash, or_left, or_right, or_either}
use Rattle.candidates.specs.Candidates.{given_back}
use Rattle.candidates.specs.Steps.{sum_at, ChangedOnly, GaveOneBack}
use Rattle.candidates.proofs.Changes.{Changing, change_turn}

module _ (sums : List FeeFrac) (d : ℕ) (r : FeeFrac) where
  -- r, put at d, is read there, and the others stay
  pub read_same : d < length sums → sum_at (set sums d r) d ≡ r
  read_same l = get_or-set_same sums d r zero_rate l

  pub read_other : (j : ℕ) → (j ≡ d → ⊥) → sum_at (set sums d r) j ≡ sum_at sums j
  read_other j n = get_or-set_other sums d j r zero_rate n

  -- one more is as wanted
  pub fill_more : (want : ℕ → FeeFrac) → d < length sums → r ≡ want d → ((j : ℕ) → j < d → sum_at sums j ≡ want j)
      → (j : ℕ) → j < d + 1 → sum_at (set sums d r) j ≡ want j
  fill_more want l e w =
      below_more (λ j. sum_at (set sums d r) j ≡ want j) d (λ j m. read_other j (λ z. omega arith) ∙ w j m) (read_same l ∙ e)

-- ---- a walk that gives one back to the members of a set

-- d, the lowest of those that are left, is put anew
pub give_turn : (rate : FeeFrac) (to : TxSet) (was : ℕ → FeeFrac) (sums : List FeeFrac) (s t : TxSet) (d : ℕ) → Turn s t d
    → (r : FeeFrac) → r ≡ difference (sum_at sums d) rate → d < length sums
    → Changing (λ x. difference x rate) to was (sum_at sums) s → Changing (λ x. difference x rate) to was (sum_at (set sums d r)) t
give_turn rate to was sums s t d w r is l =
    change_turn (λ x. difference x rate) to was (sum_at sums) (sum_at (set sums d r)) s t d w.left w.first w.next
    (read_same sums d r l ∙ is) (read_other sums d r)

-- ---- whose sums have changed

pub changed_none : (todo none : TxSet) (was : ℕ → FeeFrac) → ((i : ℕ) → mem none i ≡ false) → ChangedOnly todo none was was
changed_none todo none was e = record { within = λ i m. clash m (e i); same = λ i m. refl }

-- one more is given back, to the members of `to`
pub changed_more : (todo changed to next : TxSet) (rate : FeeFrac) (was now then : ℕ → FeeFrac) → ChangedOnly todo changed was now
    → GaveOneBack to rate now then → ((i : ℕ) → mem to i ≡ true → mem todo i ≡ true) → ((i : ℕ) → mem next i ≡ (mem changed i || mem to i))
    → ChangedOnly todo next was then
changed_more todo changed to next rate was now then h gave inside joins = record {
  within = λ i m. ⊎_elim (h.within i) (inside i) (or_either (mem changed i) (mem to i) (sym (joins i) ∙ m));
  same = λ i m.
      gave i
      ∙ ap (λ (b : Bool). cond b (difference (now i) rate) (now i)) (or_right (mem changed i) (mem to i) (sym (joins i) ∙ m))
      ∙ h.same i (or_left (mem changed i) (mem to i) (sym (joins i) ∙ m));
}

-- ---- several given back

module _ (fs : List ℤ) (ss : List ℕ) (isAnc : ℕ → Bool) where
  -- one after the other
  pub back_append : (acc : FeeFrac) (xs ys : List ℕ) → given_back fs ss isAnc acc (xs ++ ys) ≡ given_back fs ss isAnc (given_back fs ss isAnc acc xs) ys
  unfolding given_back
  back_append acc [] ys = refl
  back_append acc (x ∷ xs) ys = back_append (cond (isAnc x) (difference acc (rate_at fs ss x)) acc) xs ys

  -- the next of the list
  pub back_next : (acc now rate : FeeFrac) (gone : List ℕ) (k : ℕ) (b : Bool) → k < length gone → rate ≡ rate_at fs ss (get_or gone k 0)
      → b ≡ isAnc (get_or gone k 0) → now ≡ cond b (difference acc rate) acc
      → given_back fs ss isAnc now (drop (k + 1) gone) ≡ given_back fs ss isAnc acc (drop k gone)
  unfolding given_back
  back_next acc now rate gone k b l r is e = rw (add-one, drop-cons gone k 0 l, e, r, is)

  -- none is left
  pub back_none : (acc : FeeFrac) (gone : List ℕ) (k : ℕ) → length gone ≤ k → given_back fs ss isAnc acc (drop k gone) ≡ acc
  unfolding given_back
  back_none acc gone k l = rw (drop_of_length-le gone l)
