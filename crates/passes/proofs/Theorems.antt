-- What a pass leaves as it is: each position comes as often as before. So there are as many, the members are the same, and none comes
-- twice where none did. Then what the sums of its groups are. Assumes nothing.
use mathlib.Core.Path.{◌≡◌, refl, sym, ap, ap₂, ◌∙◌}
use mathlib.Core.Bool.{Bool, true, false, cond, not, ◌&&◌}
use mathlib.Core.List.{List, [], ◌∷◌, ◌++◌, map, map-append, reverse, reverse-cons, Memᴰ}
use Prim.Native.Nat.{ℕ, ◌+◌, ◌*◌, ◌^◌, ◌≤◌, ◌<◌}
use native.Mathlib.Omega.{arith}
use lib.Dec.{eqb}
use lib.IntN.{ℤ, pos, neg_ℤ, nat_abs}
use lib.ListN.{length, get_or, length-append, length-reverse}
use borrow.Author.Tests.{eq-eqb, eqb-true, not-true}
use Rattle.feefrac.specs.declared.FeeFrac.{FeeFrac}
use Rattle.feefrac.specs.Rate.{higher, negated, rate_at}
use Rattle.lists.proofs.Bools.{cond_where, false_together, and_both, cases, or_left, or_right}
use Rattle.feefrac.proofs.Exact.{abs_neg, held_near, spread, fee_limit, Within, within_at}
use Rattle.feefrac.proofs.Exact.{far, far_append, Sums, fees_one, fees_both, sizes_one, sizes_both}
use Rattle.lists.specs.Below.{bit}
use Rattle.lists.specs.Lists.{elem, any_of, distinct}
use Rattle.lists.proofs.Lists.{each_mem, Each}
use Rattle.txset.specs.Sets.{positions}
use Rattle.txset.proofs.Words.{Fits}
use Rattle.passes.specs.Pass.{Group, absorb, depends_on, settle, alone, groups_after, flat, one_pass, back_pass, forward_pass}

-- how often i comes
unfoldable pub occurs : ℕ → List ℕ → ℕ
occurs i [] = 0
occurs i (x ∷ xs) = bit (eqb i x) + occurs i xs

-- a count m that goes by a list's parts is the same before and after a pass
module _ (m : List ℕ → ℕ) (none : m [] ≡ 0) (parts : (xs ys : List ℕ) → m (xs ++ ys) ≡ m xs + m ys) where
  settle_keeps : (dep : ℕ → ℕ → Bool) (cur : Group) (gs : List Group) → m (flat (settle dep cur gs)) ≡ m (flat gs) + m cur.txs
  unfolding flat settle
  settle_keeps dep cur [] = omega (arith, none)
  settle_keeps dep cur (g ∷ gs) =
      let all = parts (flat gs) g.txs in
      let P : List Group → Type 0 = λ l. m (flat l) ≡ m (flat gs ++ g.txs) + m cur.txs in
      cond_where P (higher cur.rate g.rate)
      (λ _. cond_where P (depends_on dep cur g)
      (λ _. omega (arith, settle_keeps dep (absorb g cur) gs, parts g.txs cur.txs))
      (λ _. omega (arith, settle_keeps dep cur gs, parts (flat (settle dep cur gs)) g.txs)))
      (λ _. parts (flat gs ++ g.txs) cur.txs)

  after_keeps : (rate : ℕ → FeeFrac) (dep : ℕ → ℕ → Bool) (gs : List Group) (ts : List ℕ) → m (flat (groups_after rate dep gs ts)) ≡ m (flat gs) + m ts
  unfolding groups_after
  after_keeps rate dep gs [] = omega (arith, none)
  after_keeps rate dep gs (t ∷ ts) =
      omega (arith, after_keeps rate dep (settle dep (alone rate t) gs) ts, settle_keeps dep (alone rate t) gs, parts (t ∷ []) ts)

  reverse_keeps : (xs : List ℕ) → m (reverse xs) ≡ m xs
  reverse_keeps [] = refl
  reverse_keeps (x ∷ xs) = omega (arith, ap m (reverse-cons x xs), parts (reverse xs) (x ∷ []), parts (x ∷ []) xs, reverse_keeps xs)

  pass_keeps : (rate : ℕ → FeeFrac) (dep : ℕ → ℕ → Bool) (order : List ℕ) → m (one_pass rate dep order) ≡ m order
  unfolding one_pass flat
  pass_keeps rate dep order = omega (arith, after_keeps rate dep [] order, none)

occurs_append : (i : ℕ) (xs ys : List ℕ) → occurs i (xs ++ ys) ≡ occurs i xs + occurs i ys
unfolding occurs
occurs_append i [] ys = omega arith
occurs_append i (x ∷ xs) ys = omega (arith, occurs_append i xs ys)

-- ---- none comes twice exactly if each comes once at most

absent : (i : ℕ) (xs : List ℕ) → elem i xs ≡ false → occurs i xs ≡ 0
unfolding elem any_of occurs
absent i [] e = refl
absent i (x ∷ xs) e = rw (or_left (eqb i x) (elem i xs) e) (omega (arith, absent i xs (or_right (eqb i x) (elem i xs) e)))

never : (i : ℕ) (xs : List ℕ) → occurs i xs ≡ 0 → elem i xs ≡ false
unfolding elem any_of occurs
never i [] e = refl
never i (x ∷ xs) e = cases (eqb i x) (λ d. absurd (omega (arith, ap bit d))) (λ d. rw d (never i xs (omega arith)))

distinct_once : (xs : List ℕ) → distinct xs ≡ true → (i : ℕ) → occurs i xs ≤ 1
unfolding distinct occurs
distinct_once [] e i = omega arith
distinct_once (x ∷ xs) e i =
    let b = and_both (not (elem x xs)) (distinct xs) e in
    cases (eqb i x)
    (λ d. omega (arith, ap bit d, ap (λ (j : ℕ). occurs j xs) (eqb-true i x d), absent x xs (not-true (elem x xs) b.0)))
    (λ d. omega (arith, ap bit d, distinct_once xs b.1 i))

once_distinct : (xs : List ℕ) → ((i : ℕ) → occurs i xs ≤ 1) → distinct xs ≡ true
unfolding distinct occurs
once_distinct [] h = refl
once_distinct (x ∷ xs) h =
    let here : bit (eqb x x) ≡ 1 = ap bit (eq-eqb x x refl) in
    ap₂ (λ (a b : Bool). not a && b) (never x xs (omega (arith, h x))) (once_distinct xs (λ i. omega (arith, h i)))

-- ---- the theorems

-- ys has the elements of xs, in some order
pub record Same (xs ys : List ℕ) : Type 0 where
  pub each : (i : ℕ) → occurs i ys ≡ occurs i xs
  pub members : (i : ℕ) → elem i ys ≡ elem i xs
  pub long : length ys ≡ length xs
  pub once : distinct xs ≡ true → distinct ys ≡ true

-- where every count that goes by a list's parts is the same
same : {xs ys : List ℕ} → ((m : List ℕ → ℕ) → m [] ≡ 0 → ((l r : List ℕ) → m (l ++ r) ≡ m l + m r) → m ys ≡ m xs) → Same xs ys
unfolding occurs
same {xs} {ys} keeps =
    let e : (i : ℕ) → occurs i ys ≡ occurs i xs = λ i. keeps (occurs i) refl (occurs_append i) in
    record {
      each = e;
      members = λ i.
          false_together (elem i ys) (elem i xs) (λ n. never i xs (sym (e i) ∙ absent i ys n)) (λ n. never i ys (e i ∙ absent i xs n));
      long = keeps length refl length-append;
      once = λ h. once_distinct ys (λ i. omega (arith, e i, distinct_once xs h i));
    }

pub pass_same : (rate : ℕ → FeeFrac) (dep : ℕ → ℕ → Bool) (order : List ℕ) → Same order (one_pass rate dep order)
pass_same rate dep order = same (λ m z p. pass_keeps m z p rate dep order)

pub forward_same : (fs : List ℤ) (ss : List ℕ) (anc : ℕ → ℕ → Bool) (order : List ℕ) → Same order (forward_pass fs ss anc order)
unfolding forward_pass
forward_same fs ss anc order = pass_same (rate_at fs ss) anc order

pub back_same : (fs : List ℤ) (ss : List ℕ) (desc : ℕ → ℕ → Bool) (order : List ℕ) → Same order (back_pass fs ss desc order)
unfolding back_pass
back_same fs ss desc order =
    let rate : ℕ → FeeFrac = λ i. negated (rate_at fs ss i) in
    same (λ m z p. reverse_keeps m z p (one_pass rate desc (reverse order)) ∙ pass_keeps m z p rate desc (reverse order) ∙ reverse_keeps m z p order)

-- ---- the sums of the groups

-- the group that settles, at each place where it is compared: it may have merged others before
unfoldable pub settling : (ℕ → ℕ → Bool) → Group → List Group → List Group
settling dep cur [] = cur ∷ []
settling dep cur (g ∷ gs) =
    cur ∷ cond (higher cur.rate g.rate) (cond (depends_on dep cur g) (settling dep (absorb g cur) gs) (settling dep cur gs)) []

-- the group's feerate is the sum of its members' feerates
abbrev pub GroupSums : (ℕ → FeeFrac) → Group → Type 0
GroupSums rate g = Sums g.rate (map rate g.txs)

module _ (rate : ℕ → FeeFrac) where
  -- how far the fees of some members are from zero together
  abbrev apart : List ℕ → ℕ
  apart ts = far (map rate ts)

  apart_append : (xs ys : List ℕ) → apart (xs ++ ys) ≡ apart xs + apart ys
  apart_append xs ys = ap far (map-append rate xs ys) ∙ far_append (map rate xs) (map rate ys)

  -- a member of its own
  pub alone_sums : (t : ℕ) → (rate t).size < 2 ^ 64 → GroupSums rate (alone rate t)
  alone_sums t h = record { fee = fees_one (rate t); size = sizes_one (rate t) h }

  -- and two groups as one
  pub absorb_sums : (g cur : Group) → far (map rate g.txs) + far (map rate cur.txs) < 9223372036854775808
      → GroupSums rate g → GroupSums rate cur → GroupSums rate (absorb g cur)
  absorb_sums g cur h p q =
      rw (map-append rate g.txs cur.txs)
      (record {
        fee = fees_both cur.rate g.rate (map rate g.txs) (map rate cur.txs) h q.fee p.fee;
        size = sizes_both cur.rate g.rate (map rate g.txs) (map rate cur.txs) q.size p.size;
      })

  -- each group has them
  abbrev AllSums : List Group → Type 0
  AllSums = Each (GroupSums rate)

  -- where the fees, signs aside, stay below 2^63 together, a merge has them of both
  merge_sums : (cur g : Group) (gs : List Group) → apart (flat gs ++ g.txs) + apart cur.txs < 9223372036854775808 → GroupSums rate cur
      → GroupSums rate g → (apart (flat gs) + apart (absorb g cur).txs < 9223372036854775808) × GroupSums rate (absorb g cur)
  merge_sums cur g gs h p q = (
    omega (arith, apart_append (flat gs) g.txs, apart_append g.txs cur.txs),
    absorb_sums g cur (omega (arith, apart_append (flat gs) g.txs)) q p,
  )

  -- a group settles: the groups that it leaves have them, and so has it all the while
  pub settle_sums : (dep : ℕ → ℕ → Bool) (cur : Group) (gs : List Group) → far (map rate (flat gs)) + far (map rate cur.txs) < 9223372036854775808
      → GroupSums rate cur → Each (GroupSums rate) gs → Each (GroupSums rate) (settle dep cur gs)
  unfolding Each flat settle
  settle_sums dep cur [] h p q = (p, tt)
  settle_sums dep cur (g ∷ gs) h p q =
      cond_where AllSums (higher cur.rate g.rate)
      (λ _. cond_where AllSums (depends_on dep cur g)
      (λ _. let m = merge_sums cur g gs h p q.0 in settle_sums dep (absorb g cur) gs m.0 m.1 q.1)
      (λ _. (q.0, settle_sums dep cur gs (omega (arith, apart_append (flat gs) g.txs)) p q.1)))
      (λ _. (p, q))

  pub settling_sums : (dep : ℕ → ℕ → Bool) (cur : Group) (gs : List Group) → far (map rate (flat gs)) + far (map rate cur.txs) < 9223372036854775808
      → GroupSums rate cur → Each (GroupSums rate) gs → Each (GroupSums rate) (settling dep cur gs)
  unfolding Each flat settling
  settling_sums dep cur [] h p q = (p, tt)
  settling_sums dep cur (g ∷ gs) h p q = (
    p,
    cond_where AllSums (higher cur.rate g.rate)
        (λ _. cond_where AllSums (depends_on dep cur g)
        (λ _. let m = merge_sums cur g gs h p q.0 in settling_sums dep (absorb g cur) gs m.0 m.1 q.1)
        (λ _. settling_sums dep cur gs (omega (arith, apart_append (flat gs) g.txs)) p q.1))
        (λ _. tt),
  )

  module _ (fit : (t : ℕ) → (rate t).size < 2 ^ 64) (dep : ℕ → ℕ → Bool) where
    after_sums : (gs : List Group) (ts : List ℕ) → apart (flat gs) + apart ts < 9223372036854775808 → AllSums gs → AllSums (groups_after rate dep gs ts)
    unfolding groups_after spread
    after_sums gs [] h p = p
    after_sums gs (t ∷ ts) h p =
        after_sums (settle dep (alone rate t) gs) ts
        (omega (arith, settle_keeps apart refl apart_append dep (alone rate t) gs))
        (settle_sums dep (alone rate t) gs (omega arith) (alone_sums t (fit t)) p)

    -- so every group of a pass, after each member of it
    pub pass_exact : (order : List ℕ) → far (map rate order) < 9223372036854775808 → Each (GroupSums rate) (groups_after rate dep [] order)
    unfolding Each flat spread
    pass_exact order h = after_sums [] order (omega arith) tt

    -- and the next member's group while it settles
    pub next_exact : (before : List ℕ) (t : ℕ) → far (map rate before) + far (map rate (t ∷ [])) < 9223372036854775808
        → Each (GroupSums rate) (settling dep (alone rate t) (groups_after rate dep [] before))
    unfolding flat spread
    next_exact before t h =
        settling_sums dep (alone rate t) (groups_after rate dep [] before)
        (omega (arith, after_keeps apart refl apart_append rate dep [] before))
        (alone_sums t (fit t)) (pass_exact before (omega arith))

    -- for at most 64 members with fees within the limit
    module _ (near : (t : ℕ) → nat_abs (rate t).fee ≤ fee_limit) where
      near_far : (ts : List ℕ) → apart ts ≤ fee_limit * length ts
      unfolding spread
      near_far [] = omega arith
      near_far (t ∷ ts) = omega (arith, near t, near_far ts)

      pub pass_sums : (order : List ℕ) → length order ≤ positions → (g : Group) → Memᴰ g (groups_after rate dep [] order) → GroupSums rate g
      pass_sums order few = each_mem (GroupSums rate) (groups_after rate dep [] order) (pass_exact order (omega (arith, near_far order)))

      pub next_sums : (before : List ℕ) (t : ℕ) → length before < positions
          → (g : Group) → Memᴰ g (settling dep (alone rate t) (groups_after rate dep [] before)) → GroupSums rate g
      next_sums before t few =
          each_mem (GroupSums rate) (settling dep (alone rate t) (groups_after rate dep [] before))
          (next_exact before t (omega (arith, near_far before, near_far (t ∷ []))))

-- ---- the two passes, with the fees and sizes of a cluster within the limits

module _ (fs : List ℤ) (ss : List ℕ) (within : Within fs) (fits : Fits ss) where
  -- a negated fee is exactly that
  pub negated_fee : (t : ℕ) → (negated (rate_at fs ss t)).fee ≡ neg_ℤ (get_or fs t (pos 0))
  unfolding negated rate_at
  negated_fee t = held_near (neg_ℤ (get_or fs t (pos 0))) (omega (arith, abs_neg (get_or fs t (pos 0)), within_at fs within t))

  -- every group of the forward pass, and the next member's while it settles
  module _ (anc : ℕ → ℕ → Bool) where
    pub forward_sums : (order : List ℕ) → length order ≤ positions
        → (g : Group) → Memᴰ g (groups_after (rate_at fs ss) anc [] order) → GroupSums (rate_at fs ss) g
    unfolding rate_at
    forward_sums = pass_sums (rate_at fs ss) fits anc (within_at fs within)

    pub forward_next : (before : List ℕ) (t : ℕ) → length before < positions
        → (g : Group) → Memᴰ g (settling anc (alone (rate_at fs ss) t) (groups_after (rate_at fs ss) anc [] before)) → GroupSums (rate_at fs ss) g
    unfolding rate_at
    forward_next = next_sums (rate_at fs ss) fits anc (within_at fs within)

  -- and of the one from the back, over the negated fees
  abbrev pub turned : ℕ → FeeFrac
  turned i = negated (rate_at fs ss i)

  turned_fits : (t : ℕ) → (turned t).size < 2 ^ 64
  unfolding negated rate_at
  turned_fits t = fits t

  turned_near : (t : ℕ) → nat_abs (turned t).fee ≤ fee_limit
  turned_near t = omega (arith, ap nat_abs (negated_fee t), abs_neg (get_or fs t (pos 0)), within_at fs within t)

  module _ (desc : ℕ → ℕ → Bool) where
    pub back_sums : (order : List ℕ) → length order ≤ positions
        → (g : Group) → Memᴰ g (groups_after turned desc [] (reverse order)) → GroupSums turned g
    back_sums order few = pass_sums turned turned_fits desc turned_near (reverse order) (omega (arith, length-reverse order))

    pub back_next : (before : List ℕ) (t : ℕ) → length before < positions
        → (g : Group) → Memᴰ g (settling desc (alone turned t) (groups_after turned desc [] before)) → GroupSums turned g
    back_next = next_sums turned turned_fits desc turned_near
