-- Laws of specs/Sets.antt: sets by their members, and lists of sets. Assumes nothing.
use mathlib.Core.Path.{◌≡◌, refl, sym, ap, ◌∙◌}
use mathlib.Core.Bool.{Bool, true, false, not, ◌&&◌, ◌||◌, and-true, and-false, or-false, or-true, not-not}
use mathlib.Core.Logic.{◌≢◌, ⊎_elim}
use mathlib.Core.List.{List}
use Prim.Native.Nat.{ℕ, zero, suc, ◌^◌, ◌≤◌, ◌<◌}
use lib.Dec.{lit<, eqb, ltb}
use lib.ListN.{length, get_or, replicate, length-set, length-replicate, get_or-replicate, get_or-eq_default}
use lib.Seq.{get_or-set_same, get_or-set_other}
use native.Mathlib.Omega.{arith}
use borrow.Author.Tests.{lt-ltb, ltb-true, eq-eqb, eqb-true, not-true}
use Rattle.txset.specs.declared.TxSet.{TxSet}
use Rattle.lists.specs.Lists.{elem}
use Rattle.lists.specs.Below.{any_from}
use Rattle.txset.specs.Sets.{words, positions, is_position, mem, members, size, is_empty, is_subset, overlap, set_at, put_at}
use Rattle.lists.proofs.Bools.{clash, but_not, implies, asked, cases}
use Rattle.lists.proofs.Below.{all_any, any_ext, none_at, at_none, all_at, at_all, list_ext, count_list, elem_in, elem_out, count_without}
use Rattle.lists.proofs.Numbers.{lt_or_ge}
use Rattle.lists.proofs.Ranges.{count_below, count_le}
use Rattle.lists.proofs.Once.{count_in}
use Rattle.txset.proofs.Words.{Fits, has_in_past, has_in_zeros}

-- a set's words are those of a machine
pub words_fit : (s : TxSet) → s.word < 2 ^ 64 → Fits (words s)
words_fit s h zero = h
words_fit s h (suc j) = lit< tt

-- a member is a position
pub mem_past : (s : TxSet) (i : ℕ) → positions ≤ i → mem s i ≡ false
unfolding mem
mem_past s i h = has_in_past (words s) i h

pub mem_position : (s : TxSet) (i : ℕ) → mem s i ≡ true → i < positions
mem_position s i h = ⊎_elim (λ l. l) (λ l. clash h (mem_past s i l)) (lt_or_ge i positions)

-- so what is asked of a member need not ask whether it is a position
pub mem_without : (s : TxSet) (i : ℕ) (b : Bool) → (mem s i && not (is_position i && b)) ≡ (mem s i && not b)
mem_without s i b = cases (mem s i) (λ e. rw (e, lt-ltb i positions (mem_position s i e))) (λ e. rw e)

-- what holds of positions alone need not ask either
pub position_and : (i : ℕ) (b : Bool) → (b ≡ true → i < positions) → (is_position i && b) ≡ b
position_and i b h = asked (is_position i) b (λ e. lt-ltb i positions (h e))

-- the full set of n
pub full_mem : (n : ℕ) (s : TxSet) → n ≤ positions → ((i : ℕ) → mem s i ≡ (is_position i && ltb i n)) → (i : ℕ) → mem s i ≡ ltb i n
full_mem n s h full i = full i ∙ position_and i (ltb i n) (λ e. omega (arith, ltb-true i n e))

-- s is within t exactly if what is left of s without t is empty
pub subset_empty : (s t d : TxSet) → ((i : ℕ) → mem d i ≡ (mem s i && not (mem t i))) → is_empty d ≡ is_subset s t
unfolding is_empty is_subset
subset_empty s t d h =
    ap not (any_ext (mem d) (λ i. not (not (mem s i) || mem t i)) positions 0 (λ i a b. h i ∙ but_not (mem s i) (mem t i)))
    ∙ sym (all_any (λ i. not (mem s i) || mem t i) positions 0)

-- s and t overlap exactly if what they share is not empty
pub overlap_empty : (s t d : TxSet) → ((i : ℕ) → mem d i ≡ (mem s i && mem t i)) → not (is_empty d) ≡ overlap s t
unfolding is_empty overlap
overlap_empty s t d h = not-not (any_from (mem d) positions 0) ∙ any_ext (mem d) (λ i. mem s i && mem t i) positions 0 (λ i a b. h i)

-- ---- what the tests say of the members

-- empty: no position is a member
pub empty_mem : (s : TxSet) → is_empty s ≡ true → (i : ℕ) → mem s i ≡ false
unfolding is_empty
empty_mem s h i =
    ⊎_elim (λ l. none_at (mem s) positions 0 (not-true (any_from (mem s) positions 0) h) i (omega arith) l) (λ l. mem_past s i l) (lt_or_ge i positions)

pub mem_empty : (s : TxSet) → ((i : ℕ) → mem s i ≡ false) → is_empty s ≡ true
unfolding is_empty
mem_empty s h = ap not (at_none (mem s) positions 0 (λ i a b. h i))

-- a subset: each member of s is one of t
pub subset_mem : (s t : TxSet) → is_subset s t ≡ true → (i : ℕ) → mem s i ≡ true → mem t i ≡ true
unfolding is_subset
subset_mem s t h i m =
    ap (λ (b : Bool). not b || mem t i) (sym m)
    ∙ all_at (λ i. not (mem s i) || mem t i) positions 0 h i (omega arith) (mem_position s i m)

pub mem_subset : (s t : TxSet) → ((i : ℕ) → mem s i ≡ true → mem t i ≡ true) → is_subset s t ≡ true
unfolding is_subset
mem_subset s t h = at_all (λ i. not (mem s i) || mem t i) positions 0 (λ i a b. implies (mem s i) (mem t i) (h i))

-- no overlap: no member of s is one of t
pub disjoint_mem : (s t : TxSet) → overlap s t ≡ false → (i : ℕ) → mem s i ≡ true → mem t i ≡ false
unfolding overlap
disjoint_mem s t h i m =
    ap (λ (b : Bool). b && mem t i) (sym m)
    ∙ none_at (λ i. mem s i && mem t i) positions 0 h i (omega arith) (mem_position s i m)

pub mem_disjoint : (s t : TxSet) → ((i : ℕ) → mem s i ≡ true → mem t i ≡ false) → overlap s t ≡ false
unfolding overlap
mem_disjoint s t h = at_none (λ i. mem s i && mem t i) positions 0 (λ i a b. cases (mem s i) (λ e. rw e (h i e)) (λ e. rw e))

-- ---- the list of the members

-- sets with the same members have the same list, and the same size, which is its length
pub members_ext : (s t : TxSet) → ((i : ℕ) → mem s i ≡ mem t i) → members s ≡ members t
unfolding members
members_ext s t h = list_ext (mem s) (mem t) positions 0 (λ i a b. h i)

pub size_members : (s : TxSet) → size s ≡ length (members s)
unfolding size members
size_members s = count_list (mem s) positions 0

-- one member t fewer
pub size_without : (s u : TxSet) (t : ℕ) → mem s t ≡ true → ((i : ℕ) → mem u i ≡ (mem s i && not (eqb i t))) → size s ≡ suc (size u)
unfolding size
size_without s u t h w = count_without (mem s) (mem u) positions 0 t (omega arith) (mem_position s t h) h (λ i a b. w i)

-- a set of positions below n has at most n members
pub size_most : (s : TxSet) (n : ℕ) → n ≤ positions → ((i : ℕ) → mem s i ≡ true → i < n) → size s ≤ n
unfolding size
size_most s n h below =
    omega (
      arith,
      count_below (mem s) (mem s) n positions h (λ i. sym (asked (ltb i n) (mem s i) (λ e. lt-ltb i n (below i e)))),
      count_le (mem s) n 0,
    )

-- one member more
pub size_more : (s t : TxSet) (x : ℕ) → mem s x ≡ false → ((i : ℕ) → mem t i ≡ (mem s i || eqb i x)) → size t ≡ suc (size s)
size_more s t x e h =
    size_without t s x (h x ∙ ap (λ (b : Bool). mem s x || b) (eq-eqb x x refl) ∙ or-true (mem s x)) back
  where
    back : (i : ℕ) → mem s i ≡ (mem t i && not (eqb i x))
    back i =
        cases (eqb i x)
        (λ q. rw (q, and-false (mem t i)) (ap (mem s) (eqb-true i x q) ∙ e))
        (λ q. rw (q, and-true (mem t i)) (sym (h i ∙ ap (λ (b : Bool). mem s i || b) q ∙ or-false (mem s i))))

-- one that is within a list has no more members than that has elements
pub size_in : (s : TxSet) (c : List ℕ) → ((i : ℕ) → mem s i ≡ true → elem i c ≡ true) → size s ≤ length c
unfolding size
size_in s c h = count_in c (mem s) positions h

-- the list has the members, each above the one before it
pub members_elem : (s : TxSet) (i : ℕ) → elem i (members s) ≡ mem s i
unfolding members
members_elem s i =
    ⊎_elim
    (λ l. elem_in (mem s) positions 0 i (omega arith) l)
    (λ l. elem_out (mem s) positions 0 i (λ a b. omega arith) ∙ sym (mem_past s i l))
    (lt_or_ge i positions)

-- ---- lists of sets

-- the set put at i is read at i, the others stay, and so does their number
pub put_same : (ws : List ℕ) (i : ℕ) (s : TxSet) → i < length ws → set_at (put_at ws i s) i ≡ s
unfolding set_at put_at
put_same ws i s h = ap {B = TxSet} (λ (w : ℕ). record { word = w }) (get_or-set_same ws i s.word 0 h)

pub put_other : (ws : List ℕ) (i j : ℕ) (s : TxSet) → i ≢ j → set_at (put_at ws i s) j ≡ set_at ws j
unfolding set_at put_at
put_other ws i j s n = ap {B = TxSet} (λ (w : ℕ). record { word = w }) (get_or-set_other ws i j s.word 0 (λ e. n (sym e)))

pub length_put : (ws : List ℕ) (i : ℕ) (s : TxSet) → length (put_at ws i s) ≡ length ws
unfolding put_at
length_put ws i s = length-set ws i s.word

-- membership after a set was put: at i, and elsewhere
module _ (ws : List ℕ) (i : ℕ) (s : TxSet) where
  pub put_at_lem : i < length ws → (a : ℕ) → mem (set_at (put_at ws i s) i) a ≡ mem s a
  put_at_lem h a = ap (λ (t : TxSet). mem t a) (put_same ws i s h)

  pub put_else : (j a : ℕ) → (i ≡ j → ⊥) → mem (set_at (put_at ws i s) j) a ≡ mem (set_at ws j) a
  put_else j a n = ap (λ (t : TxSet). mem t a) (put_other ws i j s n)

-- where a list of words has a zero there is an empty set: past its end, and everywhere in a list of zeros
at_zero : (ws : List ℕ) (i a : ℕ) → get_or ws i 0 ≡ 0 → mem (set_at ws i) a ≡ false
unfolding set_at mem
at_zero ws i a e = ap (λ (w : ℕ). mem (record { word = w }) a) e ∙ has_in_zeros 1 a

pub at_past : (ws : List ℕ) (i a : ℕ) → length ws ≤ i → mem (set_at ws i) a ≡ false
at_past ws i a h = at_zero ws i a (get_or-eq_default ws 0 h)

pub at_zeros : (k i a : ℕ) → mem (set_at (replicate k 0) i) a ≡ false
at_zeros k i a =
    ⊎_elim
    (λ l. at_zero (replicate k 0) i a (get_or-replicate k i 0 0 l))
    (λ l. at_past (replicate k 0) i a (rw length-replicate l))
    (lt_or_ge i k)
