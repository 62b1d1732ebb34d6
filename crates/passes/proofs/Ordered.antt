-- A pass keeps a topological order topological: where no element depends on one behind it, none does afterwards. Assumes nothing.
use mathlib.Core.Path.{◌≡◌, refl, sym, ap, fun_ext, ◌∙◌}
use mathlib.Core.Bool.{Bool, true, false, not, ◌&&◌, ◌||◌, or-false, or_assoc, or_comm, and-true, and_comm, and-eq-true_iff}
use mathlib.Core.List.{List, [], ◌∷◌, ◌++◌, append-nil, append_assoc, reverse, reverse-cons}
use Prim.Native.Nat.{ℕ, ◌<◌}
use lib.IntN.{ℤ}
use borrow.Author.Tests.{not-true}
use mathlib.Core.Logic.{⊎_elim}
use Rattle.feefrac.specs.declared.FeeFrac.{FeeFrac}
use Rattle.feefrac.specs.Rate.{higher, negated, rate_at}
use Rattle.lists.proofs.Bools.{cond_where, clash, or_left, is_false}
use Rattle.lists.specs.Lists.{any_of, elem, distinct}
use Rattle.lists.proofs.Lists.{any_append, elem_left, elem_head, elem_tail, After, any_none, none_any, distinct_apart, elem_right, in_append, in_cons}
use Rattle.passes.specs.Pass.{Group, absorb, depends_on, settle, alone, groups_after, flat, one_pass, back_pass, forward_pass}

-- no element depends on one behind it; that one depends on itself is not asked
unfoldable pub ordered : (ℕ → ℕ → Bool) → List ℕ → Bool
ordered dep [] = true
ordered dep (x ∷ xs) = not (any_of (dep x) xs) && ordered dep xs

-- some element of the first list depends on one of the second
abbrev pub reaches : (ℕ → ℕ → Bool) → List ℕ → List ℕ → Bool
reaches dep xs ys = any_of (λ t. any_of (dep t) ys) xs

-- ---- two lists together

pub ordered_append : (dep : ℕ → ℕ → Bool) (xs ys : List ℕ) → ordered dep (xs ++ ys) ≡ ((ordered dep xs && ordered dep ys) && not (reaches dep xs ys))
unfolding ordered any_of
ordered_append dep [] ys = sym (and-true (ordered dep ys))
ordered_append dep (x ∷ xs) ys =
    rw (any_append (dep x) xs ys, ordered_append dep xs ys)
    (go (any_of (dep x) xs) (any_of (dep x) ys) (ordered dep xs) (ordered dep ys) (reaches dep xs ys))
  where
    go : (a b c d e : Bool) → (not (a || b) && ((c && d) && not e)) ≡ (((not a && c) && d) && not (b || e))
    go true b c d e = refl
    go false true true true e = refl
    go false true true false e = refl
    go false true false d e = refl
    go false false c d e = refl

-- the first list, the second, and what stands between them
pub record Parts (dep : ℕ → ℕ → Bool) (xs ys : List ℕ) : Type 0 where
  pub front : ordered dep xs ≡ true
  pub back : ordered dep ys ≡ true
  pub apart : reaches dep xs ys ≡ false

pub ordered_parts : {dep : ℕ → ℕ → Bool} (xs ys : List ℕ) → ordered dep (xs ++ ys) ≡ true → Parts dep xs ys
ordered_parts {dep} xs ys h =
    let all = (and-eq-true_iff (ordered dep xs && ordered dep ys) (not (reaches dep xs ys))).0 (sym (ordered_append dep xs ys) ∙ h) in
    let both = (and-eq-true_iff (ordered dep xs) (ordered dep ys)).0 all.0 in
    record { front = both.0; back = both.1; apart = not-true (reaches dep xs ys) all.1 }

pub parts_ordered : {dep : ℕ → ℕ → Bool} {xs ys : List ℕ} → Parts dep xs ys → ordered dep (xs ++ ys) ≡ true
parts_ordered {dep} {xs} {ys} p = ordered_append dep xs ys ∙ rw (p.front, p.back, p.apart)

-- ---- one pass

-- a group that finds its place leaves the members as they are
settle_any : (f : ℕ → Bool) (dep : ℕ → ℕ → Bool) (cur : Group) (gs : List Group) → any_of f (flat (settle dep cur gs)) ≡ any_of f (flat gs ++ cur.txs)
unfolding flat settle
settle_any f dep cur [] = refl
settle_any f dep cur (g ∷ gs) =
    let P : List Group → Type 0 = λ l. any_of f (flat l) ≡ any_of f (flat gs ++ g.txs ++ cur.txs) in
    cond_where P (higher cur.rate g.rate)
    (λ _. cond_where P (depends_on dep cur g)
    (λ _. settle_any f dep (absorb g cur) gs ∙ ap (any_of f) (sym (append_assoc (flat gs) g.txs cur.txs)))
    (λ _.
    any_append f (flat (settle dep cur gs)) g.txs ∙ ap (λ (b : Bool). b || any_of f g.txs) (settle_any f dep cur gs)
    ∙ swap (flat gs) cur.txs g.txs))
    (λ _. refl)
  where
    swap : (xs ys zs : List ℕ) → (any_of f (xs ++ ys) || any_of f zs) ≡ any_of f (xs ++ zs ++ ys)
    swap xs ys zs =
        rw (any_append f xs ys, any_append f (xs ++ zs) ys, any_append f xs zs, or_assoc (any_of f xs) (any_of f ys) (any_of f zs), or_comm (any_of f ys) (any_of f zs))
        (sym (or_assoc (any_of f xs) (any_of f zs) (any_of f ys)))

settle_ordered : (dep : ℕ → ℕ → Bool) (cur : Group) (gs : List Group) → ordered dep (flat gs ++ cur.txs) ≡ true
    → ordered dep (flat (settle dep cur gs)) ≡ true
unfolding flat settle depends_on
settle_ordered dep cur [] h = h
settle_ordered dep cur (g ∷ gs) h =
    let P : List Group → Type 0 = λ l. ordered dep (flat l) ≡ true in
    let s = ordered_parts (flat gs ++ g.txs) cur.txs h in
    let t = ordered_parts (flat gs) g.txs s.front in
    cond_where P (higher cur.rate g.rate)
    (λ _. cond_where P (depends_on dep cur g)
    (λ _. settle_ordered dep (absorb g cur) gs (ap (ordered dep) (sym (append_assoc (flat gs) g.txs cur.txs)) ∙ h))
    (λ e. parts_ordered (record {
      front = settle_ordered dep cur gs (parts_ordered (record {
        front = t.front;
        back = s.back;
        apart = or_left (reaches dep (flat gs) cur.txs) (reaches dep g.txs cur.txs) (sym (any_append _ (flat gs) g.txs) ∙ s.apart);
      }));
      back = t.back;
      apart = settle_any (λ t. any_of (dep t) g.txs) dep cur gs ∙ any_append _ (flat gs) cur.txs ∙ rw t.apart e;
    })))
    (λ _. h)

groups_ordered : (rate : ℕ → FeeFrac) (dep : ℕ → ℕ → Bool) (gs : List Group) (ts : List ℕ) → ordered dep (flat gs ++ ts) ≡ true
    → ordered dep (flat (groups_after rate dep gs ts)) ≡ true
unfolding groups_after
groups_ordered rate dep gs [] h = ap (ordered dep) (sym (append-nil (flat gs))) ∙ h
groups_ordered rate dep gs (t ∷ ts) h =
    let s = ordered_parts (flat gs ++ (t ∷ [])) ts (ap (ordered dep) (append_assoc (flat gs) (t ∷ []) ts) ∙ h) in
    groups_ordered rate dep (settle dep (alone rate t) gs) ts
    (parts_ordered (record {
      front = settle_ordered dep (alone rate t) gs s.front;
      back = s.back;
      apart = settle_any (λ t. any_of (dep t) ts) dep (alone rate t) gs ∙ s.apart;
    }))

-- a pass with any feerates keeps an order in which none depends on one behind it
pub pass_ordered : (rate : ℕ → FeeFrac) (dep : ℕ → ℕ → Bool) (order : List ℕ) → ordered dep order ≡ true → ordered dep (one_pass rate dep order) ≡ true
unfolding one_pass flat
pass_ordered rate dep order h = groups_ordered rate dep [] order h

-- ---- from the back

reverse_any : (f : ℕ → Bool) (xs : List ℕ) → any_of f (reverse xs) ≡ any_of f xs
unfolding any_of
reverse_any f [] = refl
reverse_any f (x ∷ xs) =
    rw (reverse-cons x xs, any_append f (reverse xs) (x ∷ []), reverse_any f xs, or-false (f x)) (or_comm (any_of f xs) (f x))

-- the list from its back, with the dependencies the other way round
pub ordered_reverse : (dep over : ℕ → ℕ → Bool) → ((x y : ℕ) → over x y ≡ dep y x) → (xs : List ℕ) → ordered over (reverse xs) ≡ ordered dep xs
unfolding ordered any_of
ordered_reverse dep over turned [] = refl
ordered_reverse dep over turned (x ∷ xs) =
    rw (reverse-cons x xs, ordered_append over (reverse xs) (x ∷ []), ordered_reverse dep over turned xs, reverse_any (λ t. over t x || false) xs)
    (rw (behind, and-true (ordered dep xs)) (and_comm (ordered dep xs) (not (any_of (dep x) xs))))
  where
    behind : any_of (λ t. over t x || false) xs ≡ any_of (dep x) xs
    behind = ap (λ (f : ℕ → Bool). any_of f xs) (fun_ext (λ t. or-false (over t x) ∙ turned t x))

-- ---- the two passes

pub forward_ordered : (fs : List ℤ) (ss : List ℕ) (anc : ℕ → ℕ → Bool) (order : List ℕ) → ordered anc order ≡ true
    → ordered anc (forward_pass fs ss anc order) ≡ true
unfolding forward_pass
forward_ordered fs ss anc order h = pass_ordered (rate_at fs ss) anc order h

pub back_ordered : (fs : List ℤ) (ss : List ℕ) (anc desc : ℕ → ℕ → Bool) → ((t d : ℕ) → desc t d ≡ anc d t) → (order : List ℕ)
    → ordered anc order ≡ true → ordered anc (back_pass fs ss desc order) ≡ true
unfolding back_pass
back_ordered fs ss anc desc turned order h =
    let rate : ℕ → FeeFrac = λ i. negated (rate_at fs ss i) in
    ordered_reverse desc anc (λ x y. sym (turned y x)) (one_pass rate desc (reverse order))
    ∙ pass_ordered rate desc (reverse order) (ordered_reverse anc desc turned order ∙ h)

-- ---- the same, said of every place

-- none depends on one behind it
pub ordered_at : (dep : ℕ → ℕ → Bool) (xs ys : List ℕ) (i a : ℕ) → ordered dep (xs ++ (i ∷ ys)) ≡ true → elem a ys ≡ true → dep i a ≡ false
unfolding ordered
ordered_at dep xs ys i a h m =
    let b = (and-eq-true_iff (not (any_of (dep i) ys)) (ordered dep ys)).0 (ordered_parts xs (i ∷ ys) h).back in
    any_none (dep i) ys (not-true _ b.0) a m

module _ (n : ℕ) (dep : ℕ → ℕ → Bool) (l : List ℕ) where
  -- a list of numbers below n, none of them twice: one behind an element is not in front of it
  module _ (below : (i : ℕ) → elem i l ≡ true → i < n) (once : distinct l ≡ true) (after : After n dep l) where
    rest_ordered : (front rest : List ℕ) → l ≡ front ++ rest → ordered dep rest ≡ true
    unfolding ordered
    rest_ordered front [] e = refl
    rest_ordered front (x ∷ xs) e =
        rw (none_any (dep x) xs free, rest_ordered (front ++ (x ∷ [])) xs (e ∙ sym (append_assoc front (x ∷ []) xs)))
      where
        behind : (a : ℕ) → elem a xs ≡ true → elem a (front ++ (x ∷ [])) ≡ true → ⊥
        behind a m q =
            clash m (distinct_apart (front ++ (x ∷ [])) xs a (ap distinct (append_assoc front (x ∷ []) xs ∙ sym e) ∙ once) q)

        free : (a : ℕ) → elem a xs ≡ true → dep x a ≡ false
        free a m =
            is_false (dep x a) (λ t.
            let l = below a (ap (elem a) e ∙ elem_right a front (x ∷ xs) (elem_tail a x xs m)) in
            let n : a ≡ x → ⊥ = λ q. behind a m (elem_right a front (x ∷ []) (rw q (elem_head x []))) in
            absurd (behind a m (elem_left a front (x ∷ []) (after front xs x a e l t n))))

    pub after_ordered : ordered dep l ≡ true
    after_ordered = rest_ordered [] l refl

  -- a list of all the numbers below n: what is not behind an element is in front of it
  module _ (every : (i : ℕ) → i < n → elem i l ≡ true) (h : ordered dep l ≡ true) where
    pub ordered_after : After n dep l
    ordered_after xs ys i a e b t q =
        ⊎_elim
        (λ m. m)
        (λ m. ⊎_elim (λ z. absurd (q z)) (λ z. clash t (ordered_at dep xs ys i a (ap (ordered dep) (sym e) ∙ h) z)) (in_cons a i ys m))
        (in_append a xs (i ∷ ys) (ap (elem a) (sym e) ∙ every a b))
