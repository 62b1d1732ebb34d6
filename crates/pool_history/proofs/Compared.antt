-- Two pools with as many slots, compared: how much a set of slots weighs in each, and whether it passes a limit. Assumes nothing.
use mathlib.Core.Path.{◌≡◌, refl, sym, ap, ap₂, ◌∙◌}
use mathlib.Core.Bool.{Bool, true, false, cond, not, ◌&&◌, and-true, and-false}
use Prim.Native.Nat.{ℕ, zero, suc, ◌+◌, ◌≤◌, ◌<◌}
use native.Mathlib.Omega.{arith}
use lib.Dec.{eqb, leb}
use borrow.Author.Tests.{eq-eqb, ne_eqb, leb-true, le-leb}
use Rattle.lists.proofs.Below.{count_without}
use Rattle.lists.proofs.Bools.{and_both, cases}
use Rattle.lists.proofs.Numbers.{by_number}
use Rattle.lists.proofs.Ranges.{count_within}
use Rattle.weights.specs.Weights.{virtual_size}
use Rattle.pool_table.specs.declared.Limits.{Limits}
use Rattle.pool_table.specs.Pool.{Pool, slot_count, occupied, weight_at, entries}
use Rattle.pool_table.specs.Links.{count_of, sum_from, weight_of}
use Rattle.pool_table.specs.WellFormed.{is_within}
use Rattle.pool_links.proofs.Mutual.{occupied_in}
use Rattle.pool_clusters.proofs.Sums.{sum_none, sum_without}

-- ---- sums

-- by the weights that count
sum_same : (v w : ℕ → ℕ) (g f : ℕ → Bool) (k i : ℕ) → ((j : ℕ) → cond (g j) (v j) 0 ≡ cond (f j) (w j) 0) → sum_from v g k i ≡ sum_from w f k i
unfolding sum_from
sum_same v w g f zero i h = refl
sum_same v w g f (suc k) i h = ap₂ ◌+◌ (h i) (sum_same v w g f k (suc i) h)

sum_most : (v w : ℕ → ℕ) (g f : ℕ → Bool) (k i : ℕ) → ((j : ℕ) → cond (g j) (v j) 0 ≤ cond (f j) (w j) 0) → sum_from v g k i ≤ sum_from w f k i
unfolding sum_from
sum_most v w g f zero i h = omega arith
sum_most v w g f (suc k) i h = omega (arith, h i, sum_most v w g f k (suc i) h)

-- ---- pools

-- slots of no weight weigh nothing together
pub weightless : (p : Pool) (f : ℕ → Bool) → ((s : ℕ) → weight_at p s ≡ 0) → weight_of p f ≡ 0
unfolding weight_of
weightless p f z =
    sum_same (weight_at p) (λ s. 0) f (λ s. false) (slot_count p) 0 (λ s. rw (z s) (cases (f s) (λ e. rw e) (λ e. rw e)))
    ∙ sum_none (λ s. 0) (λ s. false) (slot_count p) 0 (λ s. refl)

module _ (p q : Pool) (n : slot_count q ≡ slot_count p) where
  -- a set of which each slot is in another, and weighs no more there, passes no limit if the other does not
  pub within_part : q.limits ≡ p.limits → (f g : ℕ → Bool) → ((s : ℕ) → g s ≡ true → (f s ≡ true) × (weight_at q s ≤ weight_at p s))
      → is_within p f ≡ true → is_within q g ≡ true
  unfolding is_within count_of weight_of virtual_size
  within_part l f g part h =
      let both = and_both (leb (count_of p f) p.limits.count) (leb (virtual_size (weight_of p f)) p.limits.size) h in
      let few : count_of p f ≤ p.limits.count = leb-true (count_of p f) p.limits.count both.0 in
      let light : virtual_size (weight_of p f) ≤ p.limits.size = leb-true (virtual_size (weight_of p f)) p.limits.size both.1 in
      let fewer : count_of q g ≤ count_of p f = rw n (count_within f g (slot_count p) 0 (λ s _ _ e. (part s e).0)) in
      let lighter : weight_of q g ≤ weight_of p f = rw n (sum_most (weight_at q) (weight_at p) g f (slot_count p) 0 counts) in
      ap₂ ◌&&◌
      (le-leb (count_of q g) q.limits.count (omega (arith, ap (λ (x : Limits). x.count) l)))
      (le-leb (virtual_size (weight_of q g)) q.limits.size (omega (arith, ap (λ (x : Limits). x.size) l)))
    where
      counts : (s : ℕ) → cond (g s) (weight_at q s) 0 ≤ cond (f s) (weight_at p s) 0
      counts s = cases (g s) (λ e. rw (e, (part s e).0) (part s e).1) (λ e. rw e (omega arith))

  pub weight_same : ((s : ℕ) → weight_at q s ≡ weight_at p s) → (f : ℕ → Bool) → weight_of q f ≡ weight_of p f
  unfolding weight_of
  weight_same e f = rw n (sum_same (weight_at q) (weight_at p) f f (slot_count p) 0 (λ s. rw (e s)))

  -- q has nothing at r and is as p elsewhere: a set with r weighs so much more in p
  pub weight_but : (r : ℕ) → r < slot_count p → weight_at q r ≡ 0 → ((s : ℕ) → (r ≡ s → ⊥) → weight_at q s ≡ weight_at p s)
      → (f g : ℕ → Bool) → f r ≡ true → ((s : ℕ) → (r ≡ s → ⊥) → g s ≡ f s) → weight_of p f ≡ weight_at p r + weight_of q g
  unfolding weight_of
  weight_but r l z same f g here else =
      let others : ℕ → Bool = λ s. f s && not (eqb s r) in
      sum_without (weight_at p) f others (slot_count p) 0 r (omega arith) (omega arith) here (λ s _ _. refl)
      ∙ ap (λ (k : ℕ). weight_at p r + k)
      (rw n
      (sum_same (weight_at p) (weight_at q) others g (slot_count p) 0
      (by_number (λ s. cond (others s) (weight_at p s) 0 ≡ cond (g s) (weight_at q s) 0) r
      (rw (eq-eqb r r refl, and-false (f r), z) (cases (g r) (λ e. rw e) (λ e. rw e)))
      (λ s d. rw (ne_eqb s r (λ e. d (sym e)), and-true (f s), else s d, same s d)))))

  -- and there is one entry more
  pub entries_but : (r : ℕ) → occupied p r ≡ true → occupied q r ≡ false → ((s : ℕ) → (r ≡ s → ⊥) → occupied q s ≡ occupied p s)
      → entries p ≡ suc (entries q)
  unfolding entries
  entries_but r o free same =
      rw n
      (count_without (occupied p) (occupied q) (slot_count p) 0 r (omega arith) (omega (arith, occupied_in p r o)) o
      (λ s _ _.
      by_number (λ s. occupied q s ≡ (occupied p s && not (eqb s r))) r
      (rw (eq-eqb r r refl) (free ∙ sym (and-false (occupied p r))))
      (λ s d. rw (ne_eqb s r (λ e. d (sym e))) (same s d ∙ sym (and-true (occupied p s))))
      s))
