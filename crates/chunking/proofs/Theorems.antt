-- What holds of the chunks of every list of members. Assumes nothing.
use Prim.Native.Nat.{ℕ, zero, suc, ◌+◌, ◌≤◌, ◌<◌}
use native.Mathlib.Omega.{arith}
use mathlib.Core.Path.{◌≡◌, refl, ap, ◌∙◌}
use mathlib.Core.Bool.{Bool, true, false, cond, not, ◌&&◌, and-eq-true_iff}
use mathlib.Core.List.{List, [], ◌∷◌, ◌++◌, append-nil, append_assoc, Memᴰ}
use lib.Dec.{lit<}
use lib.ListN.{length, get_or, length-append, length-map}
use lib.IntN.{ℤ}
use Rattle.feefrac.proofs.Exact.{spread, sum_of, sum_of_append, Within, within_spread}
use Rattle.feefrac.proofs.Exact.{fees_of, sizes_of, far, far_append, HasFees, HasSizes, Sums, fees_one, fees_both, sizes_one, sizes_both}
use Rattle.lists.proofs.Bools.{cond_where}
use Rattle.lists.proofs.Lists.{each_at, each_mem, each_snoc, Each}
use Rattle.feefrac.specs.declared.FeeFrac.{FeeFrac}
use Rattle.feefrac.specs.Rate.{sum, higher}
use Rattle.txset.specs.Sets.{positions}
use Rattle.txset.proofs.Words.{Fits}
use Rattle.refusals.specs.Refusals.{any_outside}
use Rattle.refusals.proofs.Limits.{inside_within}
use Rattle.chunking.specs.declared.Chunk.{Chunk}
use Rattle.chunking.specs.Chunks.{alone, joined, swallow, chunks_after, lengths_of, chunk_lengths, rates}
use Rattle.chunking.proofs.Laws.{count}

-- what swallowing keeps, the chunks of a list have
after_keeps : (P : List Chunk → Type 0) → ((r : FeeFrac) (cs : List Chunk) → P cs → P (swallow (alone r) cs))
    → (rs : List FeeFrac) (cs : List Chunk) → P cs → P (chunks_after cs rs)
unfolding chunks_after
after_keeps P k [] cs p = p
after_keeps P k (r ∷ rs) cs p = after_keeps P k rs (swallow (alone r) cs) (k r cs p)

-- ---- the lengths add up to the members

total_lengths : (cs : List Chunk) → sum_of (lengths_of cs) ≡ count cs
unfolding sum_of count lengths_of
total_lengths [] = refl
total_lengths (c ∷ cs) = omega (arith, sum_of_append (lengths_of cs) (c.len ∷ []), total_lengths cs)

count_swallow : (c : Chunk) (cs : List Chunk) → count (swallow c cs) ≡ c.len + count cs
unfolding count swallow
count_swallow c [] = refl
count_swallow c (t ∷ ts) =
    cond_where (λ (l : List Chunk). count l ≡ c.len + (t.len + count ts)) (higher c.rate t.rate)
    (λ e. omega (arith, count_swallow (joined c t) ts))
    (λ e. refl)

count_after : (rs : List FeeFrac) (cs : List Chunk) → count (chunks_after cs rs) ≡ count cs + length rs
unfolding chunks_after
count_after [] cs = omega arith
count_after (r ∷ rs) cs = omega (arith, count_after rs (swallow (alone r) cs), count_swallow (alone r) cs)

pub lengths_sum : (rs : List FeeFrac) → sum_of (chunk_lengths rs) ≡ length rs
unfolding chunk_lengths count
lengths_sum rs = omega (arith, total_lengths (chunks_after [] rs), count_after rs [])

-- ---- each length is at least 1

abbrev Some : ℕ → Type 0
Some k = 1 ≤ k

abbrev Filled : Chunk → Type 0
Filled c = Some c.len

filled_swallow : (c : Chunk) (cs : List Chunk) → Filled c → Each Filled cs → Each Filled (swallow c cs)
unfolding Each swallow
filled_swallow c [] h p = (h, tt)
filled_swallow c (t ∷ ts) h p =
    cond_where (Each Filled) (higher c.rate t.rate) (λ e. filled_swallow (joined c t) ts (omega arith) p.1) (λ e. (h, p))

each_length : (cs : List Chunk) → Each Filled cs → Each Some (lengths_of cs)
unfolding Each lengths_of
each_length [] p = tt
each_length (c ∷ cs) p = each_snoc Some (lengths_of cs) (each_length cs p.1) p.0

each_some : (rs : List FeeFrac) → Each Some (chunk_lengths rs)
unfolding chunk_lengths Each
each_some rs = each_length (chunks_after [] rs) (after_keeps (Each Filled) (λ r cs p. filled_swallow (alone r) cs (omega arith) p) rs [] tt)

pub lengths_positive : (rs : List FeeFrac) (i : ℕ) → i < length (chunk_lengths rs) → 1 ≤ get_or (chunk_lengths rs) i 0
lengths_positive rs = each_at Some (chunk_lengths rs) 0 (each_some rs)

-- ---- so there are no more chunks than members

some_few : (xs : List ℕ) → Each Some xs → length xs ≤ sum_of xs
unfolding Each sum_of
some_few [] p = omega arith
some_few (x ∷ xs) p = omega (arith, p.0, some_few xs p.1)

pub lengths_few : (rs : List FeeFrac) → length (chunk_lengths rs) ≤ length rs
lengths_few rs = omega (arith, some_few (chunk_lengths rs) (each_some rs), lengths_sum rs)

-- ---- the cut falls: no chunk is strictly higher than the one before it

-- of a list of chunks with the last one first: none is strictly higher than the next in the list
unfoldable pub falling : List Chunk → Bool
falling [] = true
falling (c ∷ []) = true
falling (c ∷ t ∷ ts) = not (higher c.rate t.rate) && falling (t ∷ ts)

falling_rest : (t : Chunk) (ts : List Chunk) → falling (t ∷ ts) ≡ true → falling ts ≡ true
unfolding falling
falling_rest t [] e = refl
falling_rest t (u ∷ us) e = ((and-eq-true_iff (not (higher t.rate u.rate)) (falling (u ∷ us))).0 e).1

falling_swallow : (c : Chunk) (cs : List Chunk) → falling cs ≡ true → falling (swallow c cs) ≡ true
unfolding falling swallow
falling_swallow c [] e = refl
falling_swallow c (t ∷ ts) e =
    cond_where (λ (cs : List Chunk). falling cs ≡ true) (higher c.rate t.rate)
    (λ h. falling_swallow (joined c t) ts (falling_rest t ts e))
    (λ h. rw h e)

pub cut_falls : (rs : List FeeFrac) → falling (chunks_after [] rs) ≡ true
unfolding falling
cut_falls rs = after_keeps (λ (cs : List Chunk). falling cs ≡ true) (λ r cs e. falling_swallow (alone r) cs e) rs [] refl

-- ---- each chunk has a property with its own members

-- the members are those of the chunks, one after the other, the last chunk's last, and each chunk has the property with its own
unfoldable pub CutBy : (Chunk → List FeeFrac → Type 0) → List FeeFrac → List Chunk → Type 0
CutBy P rs [] = rs ≡ []
CutBy P rs (c ∷ cs) = (front : List FeeFrac) × (own : List FeeFrac) × (rs ≡ front ++ own) × P c own × CutBy P front cs

-- the chunk that swallows, at each place where it is compared
unfoldable pub swallowing : Chunk → List Chunk → List Chunk
swallowing c [] = c ∷ []
swallowing c (t ∷ ts) = c ∷ cond (higher c.rate t.rate) (swallowing (joined c t) ts) []

-- it has the property with the last of these members
pub record EndsIn (P : Chunk → List FeeFrac → Type 0) (rs : List FeeFrac) (c : Chunk) : Type 0 where
  pub front : List FeeFrac
  pub own : List FeeFrac
  pub is : rs ≡ front ++ own
  pub has : P c own

-- a property that one member alone has, and two chunks joined, in a list with Q, which the list's parts have too
module _
    (P : Chunk → List FeeFrac → Type 0)
    (Q : List FeeFrac → Type 0)
    (in_front : (xs ys : List FeeFrac) → Q (xs ++ ys) → Q xs)
    (in-back : (xs ys : List FeeFrac) → Q (xs ++ ys) → Q ys)
    (one : (r : FeeFrac) → Q (r ∷ []) → P (alone r) (r ∷ []))
    (two : (c t : Chunk) (xs ys : List FeeFrac) → Q (xs ++ ys) → P c ys → P t xs → P (joined c t) (xs ++ ys)) where
  cut_swallow : (c : Chunk) (cs : List Chunk) (front own : List FeeFrac) → Q (front ++ own) → P c own → CutBy P front cs
      → CutBy P (front ++ own) (swallow c cs)
  unfolding CutBy swallow
  cut_swallow c [] front own h p k = (front, own, refl, p, k)
  cut_swallow c (t ∷ ts) front own h p k =
      let e : front ++ own ≡ k.0 ++ (k.1 ++ own) = ap (λ (l : List FeeFrac). l ++ own) k.2 ∙ append_assoc k.0 k.1 own in
      let q : Q (k.0 ++ (k.1 ++ own)) = rw e at h in
      cond_where (CutBy P (front ++ own)) (higher c.rate t.rate)
      (λ _. rw e (cut_swallow (joined c t) ts k.0 (k.1 ++ own) q (two c t k.1 own (in-back k.0 (k.1 ++ own) q) p k.3) k.4))
      (λ _. (front, own, refl, p, k))

  cut_after : (rs front : List FeeFrac) (cs : List Chunk) → Q (front ++ rs) → CutBy P front cs → CutBy P (front ++ rs) (chunks_after cs rs)
  unfolding chunks_after
  cut_after [] front cs h k = rw (append-nil front) k
  cut_after (r ∷ rs) front cs h k =
      let q : Q ((front ++ (r ∷ [])) ++ rs) = rw (append_assoc front (r ∷ []) rs) h in
      let f : Q (front ++ (r ∷ [])) = in_front (front ++ (r ∷ [])) rs q in
      rw (append_assoc front (r ∷ []) rs) at
      (cut_after rs (front ++ (r ∷ [])) (swallow (alone r) cs) q
      (cut_swallow (alone r) cs front (r ∷ []) f (one r (in-back front (r ∷ []) f)) k))

  -- so each chunk of the list has it
  pub cut_chunks : (rs : List FeeFrac) → Q rs → CutBy P rs (chunks_after [] rs)
  unfolding CutBy
  cut_chunks rs h = cut_after rs [] [] h refl

  -- and a chunk that swallows has it all the while
  cut_swallowing : (c : Chunk) (cs : List Chunk) (front own : List FeeFrac) → Q (front ++ own) → P c own → CutBy P front cs
      → Each (EndsIn P (front ++ own)) (swallowing c cs)
  unfolding CutBy swallowing Each
  cut_swallowing c [] front own h p k = (record { front = front; own = own; is = refl; has = p }, tt)
  cut_swallowing c (t ∷ ts) front own h p k =
      let e : front ++ own ≡ k.0 ++ (k.1 ++ own) = ap (λ (l : List FeeFrac). l ++ own) k.2 ∙ append_assoc k.0 k.1 own in
      let q : Q (k.0 ++ (k.1 ++ own)) = rw e at h in (
        record { front = front; own = own; is = refl; has = p },
        cond_where (Each (EndsIn P (front ++ own))) (higher c.rate t.rate)
            (λ _. rw e (cut_swallowing (joined c t) ts k.0 (k.1 ++ own) q (two c t k.1 own (in-back k.0 (k.1 ++ own) q) p k.3) k.4))
            (λ _. tt),
      )

  -- as the next member does
  pub next_chunk_lem : (rs : List FeeFrac) (r : FeeFrac) → Q (rs ++ (r ∷ [])) → Each (EndsIn P (rs ++ (r ∷ []))) (swallowing (alone r) (chunks_after [] rs))
  next_chunk_lem rs r h = cut_swallowing (alone r) (chunks_after [] rs) rs (r ∷ []) h (one r (in-back rs (r ∷ []) h)) (cut_chunks rs (in_front rs (r ∷ []) h))

-- ---- each chunk has the sum of its own members

-- c is the chunk of these members, and its sum has the property with them
pub record Of (P : FeeFrac → List FeeFrac → Type 0) (c : Chunk) (own : List FeeFrac) : Type 0 where
  pub len : c.len ≡ length own
  pub rate : P c.rate own

-- a property of sums, as `cut_chunks` asks it of chunks
module _
    (P : FeeFrac → List FeeFrac → Type 0)
    (Q : List FeeFrac → Type 0)
    (in_front : (xs ys : List FeeFrac) → Q (xs ++ ys) → Q xs)
    (in-back : (xs ys : List FeeFrac) → Q (xs ++ ys) → Q ys)
    (one : (r : FeeFrac) → Q (r ∷ []) → P r (r ∷ []))
    (two : (a b : FeeFrac) (xs ys : List FeeFrac) → Q (xs ++ ys) → P a ys → P b xs → P (sum a b) (xs ++ ys)) where
  of_one : (r : FeeFrac) → Q (r ∷ []) → Of P (alone r) (r ∷ [])
  of_one r q = record { len = refl; rate = one r q }

  of_two : (c t : Chunk) (xs ys : List FeeFrac) → Q (xs ++ ys) → Of P c ys → Of P t xs → Of P (joined c t) (xs ++ ys)
  of_two c t xs ys q p k = record {
    len = omega (arith, length-append xs ys, p.len, k.len);
    rate = two c.rate t.rate xs ys q p.rate k.rate;
  }

  cut_sums : (rs : List FeeFrac) → Q rs → CutBy (Of P) rs (chunks_after [] rs)
  cut_sums = cut_chunks (Of P) Q in_front in-back of_one of_two

  next_sums : (rs : List FeeFrac) (r : FeeFrac) → Q (rs ++ (r ∷ [])) → Each (EndsIn (Of P) (rs ++ (r ∷ []))) (swallowing (alone r) (chunks_after [] rs))
  next_sums = next_chunk_lem (Of P) Q in_front in-back of_one of_two

-- the fees, signs aside, stay below 2^63 together
abbrev pub Near : List FeeFrac → Type 0
Near rs = far rs < 9223372036854775808

near_front : (xs ys : List FeeFrac) → Near (xs ++ ys) → Near xs
near_front xs ys q = omega (arith, far_append xs ys)

near_back : (xs ys : List FeeFrac) → Near (xs ++ ys) → Near ys
near_back xs ys q = omega (arith, far_append xs ys)

near_both : (a b : FeeFrac) (xs ys : List FeeFrac) → Near (xs ++ ys) → HasFees a ys → HasFees b xs → HasFees (sum a b) (xs ++ ys)
near_both a b xs ys q = fees_both a b xs ys (omega (arith, far_append xs ys))

-- then each chunk has the exact sum of its members' fees
pub chunks_exact : (rs : List FeeFrac) → Near rs → CutBy (Of HasFees) rs (chunks_after [] rs)
chunks_exact = cut_sums HasFees Near near_front near_back (λ r _. fees_one r) near_both

-- so it is for at most 64 members with fees within the limit
pub chunks_within : (rs : List FeeFrac) → length rs ≤ positions → Within (fees_of rs) → CutBy (Of HasFees) rs (chunks_after [] rs)
chunks_within rs few h = chunks_exact rs (omega (arith, within_spread (fees_of rs) h, length-map rs (λ r. r.fee)))

rates_far : (fs : List ℤ) (ss : List ℕ) → far (rates fs ss) ≤ spread fs
unfolding rates spread
rates_far [] ss = omega arith
rates_far (f ∷ fs) [] = omega arith
rates_far (f ∷ fs) (s ∷ ss) = omega (arith, rates_far fs ss)

-- and for every cluster that the call does not refuse
call_near : (fs : List ℤ) (ss : List ℕ) → length fs ≤ positions → any_outside fs ≡ false → Near (rates fs ss)
call_near fs ss few e = omega (arith, rates_far fs ss, within_spread fs (inside_within fs e))

pub call_exact : (fs : List ℤ) (ss : List ℕ) → length fs ≤ positions → any_outside fs ≡ false
    → CutBy (Of HasFees) (rates fs ss) (chunks_after [] (rates fs ss))
call_exact fs ss few e = chunks_exact (rates fs ss) (call_near fs ss few e)

-- ---- sizes that are below 2^64 each, as those of a machine are

abbrev pub Small : List FeeFrac → Type 0
Small rs = Fits (sizes_of rs)

small_front : (xs ys : List FeeFrac) → Small (xs ++ ys) → Small xs
small_front [] ys h j = lit< tt
small_front (x ∷ xs) ys h zero = h 0
small_front (x ∷ xs) ys h (suc j) = small_front xs ys (λ i. h (suc i)) j

small_back : (xs ys : List FeeFrac) → Small (xs ++ ys) → Small ys
small_back [] ys h = h
small_back (x ∷ xs) ys h = small_back xs ys (λ j. h (suc j))

-- each chunk has the sum of its members' sizes, or 2^64 - 1 where that is more, for any fees
pub chunks_sized : (rs : List FeeFrac) → Small rs → CutBy (Of HasSizes) rs (chunks_after [] rs)
chunks_sized = cut_sums HasSizes Small small_front small_back (λ r q. sizes_one r (q 0)) (λ a b xs ys _. sizes_both a b xs ys)

rates_fit : (fs : List ℤ) (ss : List ℕ) → Fits ss → Small (rates fs ss)
unfolding rates
rates_fit [] ss h j = lit< tt
rates_fit (f ∷ fs) [] h j = lit< tt
rates_fit (f ∷ fs) (s ∷ ss) h zero = h 0
rates_fit (f ∷ fs) (s ∷ ss) h (suc j) = rates_fit fs ss (λ i. h (suc i)) j

-- so for every cluster
pub call_sized : (fs : List ℤ) (ss : List ℕ) → Fits ss → CutBy (Of HasSizes) (rates fs ss) (chunks_after [] (rates fs ss))
call_sized fs ss h = chunks_sized (rates fs ss) (rates_fit fs ss h)

-- ---- the fee and the size of a chunk are those of the same members

both_front : (xs ys : List FeeFrac) → Near (xs ++ ys) × Small (xs ++ ys) → Near xs × Small xs
both_front xs ys q = (near_front xs ys q.0, small_front xs ys q.1)

both_back : (xs ys : List FeeFrac) → Near (xs ++ ys) × Small (xs ++ ys) → Near ys × Small ys
both_back xs ys q = (near_back xs ys q.0, small_back xs ys q.1)

both_one : (r : FeeFrac) → Near (r ∷ []) × Small (r ∷ []) → Sums r (r ∷ [])
both_one r q = record { fee = fees_one r; size = sizes_one r (q.1 0) }

both_two : (a b : FeeFrac) (xs ys : List FeeFrac) → Near (xs ++ ys) × Small (xs ++ ys) → Sums a ys → Sums b xs → Sums (sum a b) (xs ++ ys)
both_two a b xs ys q p k = record { fee = near_both a b xs ys q.0 p.fee k.fee; size = sizes_both a b xs ys p.size k.size }

-- for every cluster that the call does not refuse
module _ (fs : List ℤ) (ss : List ℕ) (few : length fs ≤ positions) (inside : any_outside fs ≡ false) (fits : Fits ss) where
  pub call_sums : CutBy (Of Sums) (rates fs ss) (chunks_after [] (rates fs ss))
  call_sums =
      cut_sums Sums (λ l. Near l × Small l) both_front both_back both_one both_two (rates fs ss) (call_near fs ss few inside, rates_fit fs ss fits)

  -- and for the next member's while it swallows, whichever members went before it
  pub call_next : (before : List FeeFrac) (r : FeeFrac) (rest : List FeeFrac) → rates fs ss ≡ (before ++ (r ∷ [])) ++ rest
      → (c : Chunk) → Memᴰ c (swallowing (alone r) (chunks_after [] before)) → EndsIn (Of Sums) (before ++ (r ∷ [])) c
  call_next before r rest e =
      let near : Near ((before ++ (r ∷ [])) ++ rest) = rw e at (call_near fs ss few inside) in
      let small : Small ((before ++ (r ∷ [])) ++ rest) = rw e at (rates_fit fs ss fits) in
      each_mem (EndsIn (Of Sums) (before ++ (r ∷ []))) (swallowing (alone r) (chunks_after [] before))
      (next_sums Sums (λ l. Near l × Small l) both_front both_back both_one both_two before r (both_front (before ++ (r ∷ [])) rest (near, small)))
