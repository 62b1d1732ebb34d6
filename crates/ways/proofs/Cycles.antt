-- Ways back to where they start, and what holds where there is none: two numbers have not both a way to each other, the ways from a number
-- get fewer along them, and no set of numbers goes on for ever. Assumes nothing.
use mathlib.Core.Path.{◌≡◌, refl, sym}
use mathlib.Core.Bool.{Bool, true, false, ◌||◌, or-true}
use mathlib.Core.Logic.{◌⊎◌, inl, inr, ⊎_elim}
use Prim.Native.Nat.{ℕ, zero, suc, ◌<◌}
use native.Mathlib.Omega.{arith}
use lib.Dec.{eqb}
use borrow.Author.Tests.{eq-eqb, eqb-true}
use Rattle.lists.specs.Below.{count_from, first_from}
use Rattle.lists.proofs.Bools.{clash, or_either, is_false}
use Rattle.lists.proofs.Below.{first_has, first_below, any_at}
use Rattle.ways.specs.Ways.{Way, step, reach, is_cyclic, Bounded}
use Rattle.lists.proofs.Ranges.{count_less}
use Rattle.ways.proofs.Ways.{way_trans, reach_is, is_reach, way_from}

-- ---- a cycle is a number with a way to itself

pub cyclic_is : (r : ℕ → ℕ → Bool) (n : ℕ) → is_cyclic r n ≡ true → (i : ℕ) × (i < n) × Way r i i
unfolding is_cyclic
cyclic_is r n h =
    let f : ℕ → Bool = λ i. reach r n i i in
    let i = first_from f n 0 in
    (i, omega (arith, first_below f n 0 h), reach_is r n i i (first_has f n 0 h))

pub is_cyclic_lem : {r : ℕ → ℕ → Bool} {n : ℕ} → Bounded r n → {i : ℕ} → Way r i i → is_cyclic r n ≡ true
unfolding is_cyclic
is_cyclic_lem {r} {n} b {i} u = any_at (λ i. reach r n i i) n 0 i (omega arith) (omega (arith, way_from b u)) (is_reach b u)

-- ---- a number, and those that it has a way to

abbrev pub onward : (ℕ → ℕ → Bool) → ℕ → ℕ → ℕ → Bool
onward r n i a = eqb i a || reach r n i a

pub onward_self : (r : ℕ → ℕ → Bool) (n i : ℕ) → onward r n i i ≡ true
onward_self r n i = rw (eq-eqb i i refl)

pub onward_way : {r : ℕ → ℕ → Bool} {n : ℕ} → Bounded r n → {i a : ℕ} → Way r i a → onward r n i a ≡ true
onward_way b {i} {a} u = rw (is_reach b u) (or-true (eqb i a))

pub onward_either : (r : ℕ → ℕ → Bool) (n i a : ℕ) → onward r n i a ≡ true → (i ≡ a) ⊎ Way r i a
onward_either r n i a h = ⊎_elim (λ e. inl (eqb-true i a e)) (λ e. inr (reach_is r n i a e)) (or_either (eqb i a) (reach r n i a) h)

pub onward_trans : {r : ℕ → ℕ → Bool} {n : ℕ} → Bounded r n → (i p a : ℕ) → onward r n i p ≡ true → onward r n p a ≡ true → onward r n i a ≡ true
onward_trans {r} {n} b i p a u v =
    ⊎_elim
    (λ e. rw e v)
    (λ f. ⊎_elim (λ e. rw e at u) (λ g. onward_way b (way_trans f g)) (onward_either r n p a v))
    (onward_either r n i p u)

-- ---- without a cycle

module _ {r : ℕ → ℕ → Bool} {n : ℕ} (b : Bounded r n) (acyclic : is_cyclic r n ≡ false) where
  pub no_way : {i : ℕ} → Way r i i → ⊥
  no_way u = clash (is_cyclic_lem b u) acyclic

  -- two numbers that have ways to each other are one
  pub onward_antisym : (i a : ℕ) → onward r n i a ≡ true → onward r n a i ≡ true → i ≡ a
  onward_antisym i a u v =
      ⊎_elim
      (λ e. e)
      (λ f. ⊎_elim (λ e. sym e) (λ g. absurd (no_way (way_trans f g))) (onward_either r n a i v))
      (onward_either r n i a u)

  -- further on there are fewer to come
  pub fewer : {i a : ℕ} → Way r i a → count_from (onward r n a) n 0 < count_from (onward r n i) n 0
  fewer {i} {a} u =
      count_less (onward r n i) (onward r n a) n 0 i
      (λ j x y v. onward_trans b i a j (onward_way b u) v)
      (omega arith)
      (omega (arith, way_from b u))
      (onward_self r n i)
      (is_false (onward r n a i) (λ e.
      absurd (⊎_elim (λ z. no_way (rw z at u)) (λ v. no_way (way_trans u v)) (onward_either r n a i e))))

  -- a set in which each has a step to another of it is empty
  pub endless : (f : ℕ → Bool) → ((i : ℕ) → f i ≡ true → (a : ℕ) × (r i a ≡ true) × (f a ≡ true)) → (i : ℕ) → f i ≡ false
  endless f on i = is_false (f i) (λ e. absurd (none (suc (count_from (onward r n i) n 0)) i (omega arith) e))
    where
      none : (m i : ℕ) → count_from (onward r n i) n 0 < m → f i ≡ true → ⊥
      none zero i l h = omega arith
      none (suc m) i l h =
          let next = on i h in
          none m next.0 (omega (arith, fewer (step next.1))) next.2
