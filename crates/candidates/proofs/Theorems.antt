-- What the order of specs/Candidates.antt is, for readers: each member once, and after its ancestors. Then what the sums are that it goes by.
-- `fs` are the fees of the members, `ss` their sizes, and `anc i a` says that a is an ancestor of i and `desc a i` that i is a descendant of a. Assumes nothing.
use mathlib.Core.Path.{◌≡◌, refl, sym, ap, ap₂, ◌∙◌}
use mathlib.Core.Bool.{Bool, true, false, cond, not, ◌&&◌, and-true, or_comm}
use mathlib.Core.List.{List, [], ◌∷◌, ◌++◌}
use Prim.Native.Nat.{ℕ, suc, ◌+◌, ◌-◌, ◌≤◌, ◌<◌}
use native.Mathlib.Omega.{arith}
use lib.Dec.{eqb}
use lib.IntN.{ℤ, pos, nat_abs, neg_ℤ, ◌+ℤ◌, ◌-ℤ◌, +ℤ_idl, +ℤ_idr, +ℤ_assoc, +ℤ_comm, neg_ℤ-+ℤ, +ℤ-neg_ℤ_cancel}
use lib.ListN.{length, get_or}
use borrow.Author.Tests.{not-true, not-false, eqb-true}
use Rattle.feefrac.specs.declared.FeeFrac.{FeeFrac}
use Rattle.feefrac.specs.Rate.{held_size, difference, rate_at}
use Rattle.feefrac.proofs.Exact.{difference_exact, abs_difference, abs_exact, exact_sum, spread, Within, sum_of}
use Rattle.lists.specs.Below.{keep_if, count_from, list_from}
use Rattle.lists.specs.Lists.{any_of, only, elem, distinct}
use Rattle.lists.proofs.Below.{elem_in, list_ext, list_with, list_without, count_list}
use Rattle.lists.proofs.Bools.{and_left, and_right, without_or, cases}
use Rattle.lists.proofs.Lists.{elem_head, elem_tail, After, after_none}
use Rattle.lists.proofs.Ranges.{count_le}
use Rattle.feeset.specs.Total.{total}
use Rattle.feeset.proofs.Exact.{fees_at, sizes_at, at_spread, total_fee, total_size}
use Rattle.candidates.specs.Candidates.{given_back, ancestor_sum, remaining, remaining_ancestors, rounds, ancestor_order}
use Rattle.candidates.proofs.Kept.{next_fresh, keeps_rounds, rounds_all, after_more}
use Rattle.lists.proofs.Once.{all_there, Once, once_none, once_more, once_missing}
use Rattle.txset.specs.Sets.{positions}

module _ (fs : List ℤ) (ss : List ℕ) (anc desc : ℕ → ℕ → Bool) where
  taken : Once (length fs) (ancestor_order fs ss anc desc)
  unfolding ancestor_order
  taken =
      let n = length fs in
      keeps_rounds n anc (Once n)
      (λ i out t l e h. let f = next_fresh n anc i out t e in once_more n out t f.below f.new h)
      fs ss desc n [] (once_none n)

  -- each element is a member
  pub each_below : (i : ℕ) → elem i (ancestor_order fs ss anc desc) ≡ true → i < length fs
  each_below = taken.below

  -- no element comes twice
  pub none_twice : distinct (ancestor_order fs ss anc desc) ≡ true
  none_twice = taken.once

  -- where each member is among its ancestors
  module _ (self : (i : ℕ) → i < length fs → anc i i ≡ true) where
    none_left : remaining (length fs) (ancestor_order fs ss anc desc) ≡ []
    unfolding ancestor_order
    none_left = rounds_all (length fs) anc self fs ss desc (length fs) [] (count_le (λ i. not (elem i [])) (length fs) 0)

    -- each member is an element
    pub every_member : (i : ℕ) → i < length fs → elem i (ancestor_order fs ss anc desc) ≡ true
    unfolding remaining elem any_of
    every_member i l =
        let out = ancestor_order fs ss anc desc in
        not-false (elem i out)
        (sym (elem_in (λ i. not (elem i out)) (length fs) 0 i (omega arith) (omega arith)) ∙ ap (elem i) none_left)

    -- there are as many elements as members
    pub as_many : length (ancestor_order fs ss anc desc) ≡ length fs
    as_many = let out = ancestor_order fs ss anc desc in omega (arith, once_missing (length fs) out taken, all_there (length fs) out every_member)

  -- where an ancestor's ancestors are ancestors, and an ancestor has fewer of them: every element comes after its ancestors
  pub after_ancestors :
      ((i a b : ℕ) → i < length fs → a < length fs → b < length fs → anc i a ≡ true → anc a b ≡ true → anc i b ≡ true)
      → ((i a : ℕ) → i < length fs → a < length fs → anc i a ≡ true → (a ≡ i → ⊥) → count_from (anc a) (length fs) 0 < count_from (anc i) (length fs) 0)
      → (xs ys : List ℕ) (i a : ℕ) → ancestor_order fs ss anc desc ≡ xs ++ (i ∷ ys) → a < length fs → anc i a ≡ true → (a ≡ i → ⊥) → elem a xs ≡ true
  unfolding ancestor_order
  after_ancestors through fewer =
      keeps_rounds (length fs) anc (After (length fs) anc) (after_more (length fs) anc through fewer) fs ss desc (length fs) [] (after_none (length fs) anc)

-- ---- the sums, with members already out given back

-- a sum that does not ask for an order: that of the positions that have f is that of those of them in a list, and that of the others
module _
    {M : Type 0}
    (add : M → M → M)
    (assoc : (a b c : M) → add (add a b) c ≡ add a (add b c))
    (comm : (a b : M) → add a b ≡ add b a)
    (all : List ℕ → M)
    (one : ℕ → M)
    (nil : (a : M) → add (all []) a ≡ a)
    (cons : (x : ℕ) (xs : List ℕ) → all (x ∷ xs) ≡ add (one x) (all xs)) where
  swap : (a b c : M) → add a (add b c) ≡ add b (add a c)
  swap a b c = sym (assoc a b c) ∙ ap (λ (d : M). add d c) (comm a b) ∙ assoc b a c

  middle : (p : ℕ) (low high : List ℕ) → all (low ++ (p ∷ high)) ≡ add (one p) (all (low ++ high))
  middle p [] high = cons p high
  middle p (x ∷ low) high =
      cons x (low ++ (p ∷ high)) ∙ ap (add (one x)) (middle p low high) ∙ swap (one x) (one p) (all (low ++ high))
      ∙ ap (add (one p)) (sym (cons x (low ++ high)))

  module _ (f : ℕ → Bool) (n t : ℕ) (ts : List ℕ) (below : t < n) (new : elem t ts ≡ false) where
    less : (j : ℕ) → (f j && not (elem j (t ∷ ts))) ≡ ((f j && not (elem j ts)) && not (eqb j t))
    unfolding elem any_of
    less j = ap (λ (b : Bool). f j && not b) (or_comm (eqb j t) (elem j ts)) ∙ sym (without_or (f j) (elem j ts) (eqb j t))

    other : f t ≡ false → (j : ℕ) → ((f j && not (elem j ts)) && not (eqb j t)) ≡ (f j && not (elem j ts))
    other e j = cases (eqb j t) (λ q. rw (eqb-true j t q, e)) (λ q. rw q (and-true (f j && not (elem j ts))))

    next : (b : Bool) → f t ≡ b → add (all (only f ts)) (all (list_from (λ a. f a && not (elem a ts)) n 0))
        ≡ add (all (keep_if b t (only f ts))) (all (list_from (λ a. f a && not (elem a (t ∷ ts))) n 0))
    next true e =
        let g : ℕ → Bool = λ a. f a && not (elem a ts) in
        let g' : ℕ → Bool = λ a. f a && not (elem a (t ∷ ts)) in
        let at : g t ≡ true = ap₂ (λ (a b : Bool). a && not b) e new in
        let low = list_from g (t - 0) 0 in
        let high = list_from g (0 + n - suc t) (suc t) in
        let with' : list_from g n 0 ≡ low ++ (t ∷ high) = list_with g g' n 0 t (omega arith) (omega arith) at (λ j _ _. less j) in
        let without' : list_from g' n 0 ≡ low ++ high = list_without g g' n 0 t (omega arith) (omega arith) at (λ j _ _. less j) in
        ap (add (all (only f ts))) (ap all with' ∙ middle t low high ∙ ap (λ (l : List ℕ). add (one t) (all l)) (sym without'))
        ∙ sym (assoc (all (only f ts)) (one t) (all (list_from g' n 0)))
        ∙ ap (λ (a : M). add a (all (list_from g' n 0))) (comm (all (only f ts)) (one t) ∙ sym (cons t (only f ts)))
    next false e =
        ap (λ (l : List ℕ). add (all (only f ts)) (all l))
        (list_ext (λ a. f a && not (elem a ts)) (λ a. f a && not (elem a (t ∷ ts))) n 0 (λ j _ _. sym (less j ∙ other e j)))

  in_parts : (f : ℕ → Bool) (n : ℕ) (out : List ℕ) → distinct out ≡ true → ((t : ℕ) → elem t out ≡ true → t < n)
      → all (list_from f n 0) ≡ add (all (only f out)) (all (list_from (λ a. f a && not (elem a out)) n 0))
  unfolding only distinct elem any_of
  in_parts f n [] d h =
      ap all (list_ext f (λ a. f a && not (elem a [])) n 0 (λ j _ _. sym (and-true (f j))))
      ∙ sym (nil (all (list_from (λ a. f a && not (elem a [])) n 0)))
  in_parts f n (t ∷ ts) d h =
      in_parts f n ts (and_right (not (elem t ts)) (distinct ts) d) (λ i e. h i (elem_tail i t ts e))
      ∙ next f n t ts (h t (elem_head t ts)) (not-true (elem t ts) (and_left (not (elem t ts)) (distinct ts) d)) (f t) refl

module _ (fs : List ℤ) (ss : List ℕ) (isAnc : ℕ → Bool) where
  -- what is given back is taken off exactly, where the fees, signs aside, stay below 2^63 together; so it is after each step, as this
  -- holds of every list
  pub back_fee : (acc : FeeFrac) (out : List ℕ) → nat_abs acc.fee + spread (fees_at fs (only isAnc out)) < 9223372036854775808
      → (given_back fs ss isAnc acc out).fee ≡ acc.fee -ℤ exact_sum (fees_at fs (only isAnc out))
  unfolding given_back only exact_sum spread rate_at
  back_fee acc [] h = sym (+ℤ_idr acc.fee)
  back_fee acc (t ∷ ts) h = go (isAnc t) h (λ a k. back_fee a ts k)
    where
      rest : List ℕ
      rest = only isAnc ts

      go : (b : Bool) → nat_abs acc.fee + spread (fees_at fs (keep_if b t rest)) < 9223372036854775808
          → ((a : FeeFrac) → nat_abs a.fee + spread (fees_at fs rest) < 9223372036854775808
          → (given_back fs ss isAnc a ts).fee ≡ a.fee -ℤ exact_sum (fees_at fs rest))
          → (given_back fs ss isAnc (cond b (difference acc (rate_at fs ss t)) acc) ts).fee ≡ acc.fee -ℤ exact_sum (fees_at fs (keep_if b t rest))
      go true h k =
          let r = rate_at fs ss t in
          let e : (difference acc r).fee ≡ acc.fee -ℤ r.fee = difference_exact acc r (omega arith) in
          k (difference acc r) (omega (arith, ap nat_abs e, abs_difference acc.fee r.fee))
          ∙ ap (λ (z : ℤ). z -ℤ exact_sum (fees_at fs rest)) e
          ∙ +ℤ_assoc acc.fee (neg_ℤ r.fee) (neg_ℤ (exact_sum (fees_at fs rest)))
          ∙ ap (λ (z : ℤ). acc.fee +ℤ z) (sym (neg_ℤ-+ℤ r.fee (exact_sum (fees_at fs rest))))
      go false h k = k acc h

  -- the sizes that are given back are taken off together, down to 0
  pub back_size : (acc : FeeFrac) (out : List ℕ) → (given_back fs ss isAnc acc out).size ≡ acc.size - sum_of (sizes_at ss (only isAnc out))
  unfolding given_back only sum_of rate_at difference
  back_size acc [] = omega arith
  back_size acc (t ∷ ts) = go (isAnc t) (λ a. back_size a ts)
    where
      rest : List ℕ
      rest = only isAnc ts

      go : (b : Bool) → ((a : FeeFrac) → (given_back fs ss isAnc a ts).size ≡ a.size - sum_of (sizes_at ss rest))
          → (given_back fs ss isAnc (cond b (difference acc (rate_at fs ss t)) acc) ts).size ≡ acc.size - sum_of (sizes_at ss (keep_if b t rest))
      go true k = omega (arith, k (difference acc (rate_at fs ss t)))
      go false k = k acc

-- the size of an ancestor sum is that of all the ancestors, held at 2^64 - 1, less that of those that are out, and 0 where that is more
pub sum_size : (fs : List ℤ) (ss : List ℕ) (n : ℕ) (anc : ℕ → ℕ → Bool) (out : List ℕ) (i : ℕ)
    → (ancestor_sum fs ss n anc (λ t i. anc i t) out i).size
    ≡ held_size (sum_of (sizes_at ss (list_from (anc i) n 0))) - sum_of (sizes_at ss (only (anc i) out))
unfolding ancestor_sum
sum_size fs ss n anc out i =
    back_size fs ss (anc i) (total fs ss (list_from (anc i) n 0)) out
    ∙ ap (λ (k : ℕ). k - sum_of (sizes_at ss (only (anc i) out))) (total_size fs ss (list_from (anc i) n 0))

-- an ancestor sum, after some members went out, none of them twice
module _
    (fs : List ℤ)
    (ss : List ℕ)
    (n : ℕ)
    (anc : ℕ → ℕ → Bool)
    (out : List ℕ)
    (i : ℕ)
    (once : distinct out ≡ true)
    (below : (t : ℕ) → elem t out ≡ true → t < n) where
  -- all the ancestors, those that are out, and those that are left
  ancestors : List ℕ
  ancestors = list_from (anc i) n 0

  gone : List ℕ
  gone = only (anc i) out

  fees_parts : exact_sum (fees_at fs ancestors) ≡ exact_sum (fees_at fs gone) +ℤ exact_sum (fees_at fs (remaining_ancestors n anc i out))
  unfolding ancestors gone remaining_ancestors exact_sum
  fees_parts =
      in_parts ◌+ℤ◌ +ℤ_assoc +ℤ_comm (λ is. exact_sum (fees_at fs is)) (λ t. get_or fs t (pos 0)) +ℤ_idl (λ x xs. refl) (anc i) n out once below

  far_parts : spread (fees_at fs ancestors) ≡ spread (fees_at fs gone) + spread (fees_at fs (remaining_ancestors n anc i out))
  unfolding ancestors gone remaining_ancestors spread
  far_parts =
      in_parts ◌+◌ (λ a b c. omega arith) (λ a b. omega arith) (λ is. spread (fees_at fs is)) (λ t. nat_abs (get_or fs t (pos 0))) (λ a. omega arith)
      (λ x xs. refl) (anc i) n out once below

  sizes_parts : sum_of (sizes_at ss ancestors) ≡ sum_of (sizes_at ss gone) + sum_of (sizes_at ss (remaining_ancestors n anc i out))
  unfolding ancestors gone remaining_ancestors sum_of
  sizes_parts =
      in_parts ◌+◌ (λ a b c. omega arith) (λ a b. omega arith) (λ is. sum_of (sizes_at ss is)) (λ t. get_or ss t 0) (λ a. omega arith) (λ x xs. refl)
      (anc i) n out once below

  module _ (few : n ≤ positions) (within : Within fs) where
    few_ancestors : length ancestors ≤ positions
    unfolding ancestors
    few_ancestors = omega (arith, count_le (anc i) n 0, count_list (anc i) n 0)

    -- fees within the limits, at most 64 members: the fee is, as an integer, that of all the ancestors less that of those that are out, and
    -- is never held at an end
    pub sum_fee : (ancestor_sum fs ss n anc (λ t i. anc i t) out i).fee ≡ exact_sum (fees_at fs (list_from (anc i) n 0)) -ℤ exact_sum (fees_at fs (only (anc i) out))
    unfolding ancestor_sum ancestors gone
    sum_fee =
        let e : (total fs ss ancestors).fee ≡ exact_sum (fees_at fs ancestors) = total_fee fs ss within ancestors few_ancestors in
        back_fee fs ss (anc i) (total fs ss ancestors) out
        (omega (arith, ap nat_abs e, abs_exact (fees_at fs ancestors), far_parts, at_spread fs ss within ancestors, few_ancestors))
        ∙ ap (λ (z : ℤ). z -ℤ exact_sum (fees_at fs gone)) e

    -- so it is the exact sum of the fees of the ancestors that are left
    pub sum_fee_left : (ancestor_sum fs ss n anc (λ t i. anc i t) out i).fee ≡ exact_sum (fees_at fs (remaining_ancestors n anc i out))
    unfolding ancestors gone
    sum_fee_left =
        sum_fee
        ∙ ap (λ (z : ℤ). z -ℤ exact_sum (fees_at fs gone))
        (fees_parts ∙ +ℤ_comm (exact_sum (fees_at fs gone)) (exact_sum (fees_at fs (remaining_ancestors n anc i out))))
        ∙ +ℤ-neg_ℤ_cancel (exact_sum (fees_at fs (remaining_ancestors n anc i out))) (exact_sum (fees_at fs gone))

  -- the size is the exact sum of the sizes of the ancestors that are left, where those of all the ancestors are not held
  pub sum_size_left : sum_of (sizes_at ss (list_from (anc i) n 0)) ≤ 18446744073709551615
      → (ancestor_sum fs ss n anc (λ t i. anc i t) out i).size ≡ sum_of (sizes_at ss (remaining_ancestors n anc i out))
  unfolding ancestors gone
  sum_size_left h = omega (arith, sum_size fs ss n anc out i, sizes_parts)

-- these are the sums that are compared: what is out after k rounds are members, none of them twice
module _ (fs : List ℤ) (ss : List ℕ) (anc : ℕ → ℕ → Bool) (k i : ℕ) where
  outs : Once (length fs) (rounds fs ss (length fs) anc (λ t i. anc i t) k [])
  outs =
      let n = length fs in
      keeps_rounds n anc (Once n)
      (λ i out t l e h. let f = next_fresh n anc i out t e in once_more n out t f.below f.new h)
      fs ss (λ t i. anc i t) k [] (once_none n)

  -- in each round every sum's fee is the exact sum of the fees of the ancestors that are left
  pub round_fee : length fs ≤ positions → Within fs → (let out = rounds fs ss (length fs) anc (λ t i. anc i t) k [] in
      (ancestor_sum fs ss (length fs) anc (λ t i. anc i t) out i).fee ≡ exact_sum (fees_at fs (remaining_ancestors (length fs) anc i out)))
  round_fee few within = sum_fee_left fs ss (length fs) anc (rounds fs ss (length fs) anc (λ t i. anc i t) k []) i outs.once outs.below few within
