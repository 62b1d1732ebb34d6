-- How long the lists of a cluster are that was read: at most 64, and the three alike; and that a refusal's number is not 0. Assumes
-- nothing.
use mathlib.Core.Path.{◌≡◌, refl, sym}
use mathlib.Core.Bool.{Bool, true, false, cond, ◌&&◌}
use mathlib.Core.List.{List, [], ◌∷◌, ◌++◌}
use Prim.Native.Nat.{ℕ, zero, suc, ◌+◌, ◌≤◌, ◌<◌}
use native.Mathlib.Nat.{zero-add}
use native.Mathlib.Omega.{arith}
use lib.Dec.{ltb}
use lib.ListN.{length, length-append}
use lib.IntN.{ℤ}
use borrow.Author.Tests.{ltb-false}
use Rattle.txset.specs.Sets.{positions}
use Rattle.texts.specs.Numerals.{is_nil, number_of, is_number, number_in}
use Rattle.texts.specs.Places.{behind}
use Rattle.cluster_reader.specs.Lines.{is_field, value_of}
use Rattle.cluster_reader.specs.Reading.{n_key, is_member, member_fee, member_size, member_parents, next_member}
use Rattle.cluster_reader.specs.Reading.{Read, refused, cluster, members, read}
use Rattle.lists.proofs.Bools.{cond_first, cond_second, cases}

-- three lists of n
record Long (n : ℕ) (fs : List ℤ) (ss ps : List ℕ) : Type 0 where
  fees : length fs ≡ n
  sizes : length ss ≡ n
  parents : length ps ≡ n

-- a refusal is no cluster
not_read : {k : ℕ} {fs : List ℤ} {ss ps : List ℕ} → refused k ≡ cluster fs ss ps → ⊥
not_read e = let z : ◌≡◌ {A = ℕ} 0 1 = cc in omega arith

-- k members more
members_long : (k : ℕ) (xs : List ℕ) {n : ℕ} (fs : List ℤ) (ss ps : List ℕ) {gs : List ℤ} {ts qs : List ℕ} → Long n fs ss ps
    → members k xs fs ss ps ≡ cluster gs ts qs → Long (k + n) gs ts qs
unfolding members
members_long zero xs {n} fs ss ps {gs} {ts} {qs} h e =
    let same = (cond_first (is_nil xs) e not_read).1 in
    let f : gs ≡ fs = cc in
    let s : ts ≡ ss = cc in
    let p : qs ≡ ps = cc in
    rw (f, s, p, zero-add) h
members_long (suc k) xs {n} fs ss ps h e =
    let more : Long (suc n) (fs ++ (member_fee xs ∷ [])) (ss ++ (member_size xs ∷ [])) (ps ++ (member_parents xs ∷ [])) =
    record { fees = one fs (member_fee xs) h.fees; sizes = one ss (member_size xs) h.sizes; parents = one ps (member_parents xs) h.parents } in
    let r = members_long k (next_member xs) _ _ _ more (cond_first (is_member xs) e not_read).1 in
    record { fees = omega (arith, r.fees); sizes = omega (arith, r.sizes); parents = omega (arith, r.parents) }
  where
    one : {A : Type 0} {m : ℕ} (l : List A) (x : A) → length l ≡ m → length (l ++ (x ∷ [])) ≡ suc m
    one l x q = omega (arith, length-append l (x ∷ []))

-- a cluster that was read has at most 64 members, each with its size and its parents
pub record Whole (fs : List ℤ) (ss ps : List ℕ) : Type 0 where
  pub few : length fs ≤ positions
  pub sizes : length ss ≡ length fs
  pub parents : length ps ≡ length fs

pub read_whole : (text : List ℕ) {fs : List ℤ} {ss ps : List ℕ} → read text ≡ cluster fs ss ps → Whole fs ss ps
unfolding read
read_whole text e =
    let n = number_in (number_of (value_of n_key text)) in
    let form = (cond_first (is_field n_key text && is_number (number_of (value_of n_key text))) e not_read).1 in
    let count = cond_second (ltb positions n) form not_read in
    let r = members_long n (behind 10 text) {n = 0} [] [] [] (record { fees = refl; sizes = refl; parents = refl }) count.1 in
    record {
      few = omega (arith, r.fees, ltb-false positions n count.0);
      sizes = omega (arith, r.fees, r.sizes);
      parents = omega (arith, r.fees, r.parents);
    }

-- members that are not of their form give 13
members_refused : (k : ℕ) (xs : List ℕ) (fs : List ℤ) (ss ps : List ℕ) {j : ℕ} → members k xs fs ss ps ≡ refused j → j ≡ 13
unfolding members
members_refused zero xs fs ss ps {j} e = let z = (cond_second (is_nil xs) e (λ q. not_read (sym q))).1 in cc
members_refused (suc k) xs fs ss ps {j} e =
    cases (is_member xs)
    (λ t. members_refused k (next_member xs) (fs ++ (member_fee xs ∷ [])) (ss ++ (member_size xs ∷ [])) (ps ++ (member_parents xs ∷ [])) (rw t at e))
    (λ t. let z : refused 13 ≡ refused j = rw t at e in cc)

-- so a text is refused with 2 or 13, and never with 0
pub read_refused : (text : List ℕ) {j : ℕ} → read text ≡ refused j → 0 < j
unfolding read
read_refused text {j} e =
    let n = number_in (number_of (value_of n_key text)) in
    go (is_field n_key text && is_number (number_of (value_of n_key text))) (ltb positions n) e (members_refused n (behind 10 text) [] [] [])
  where
    go : (a b : Bool) {r : Read} → cond a (cond b (refused 2) r) (refused 13) ≡ refused j → (r ≡ refused j → j ≡ 13) → 0 < j
    go true true q f = let z : 2 ≡ j = cc in omega arith
    go true false q f = omega (arith, f q)
    go false b q f = let z : 13 ≡ j = cc in omega arith
