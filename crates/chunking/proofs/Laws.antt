-- The stack of `stack_chunks` as a list of chunks, and its loops as records over plain values, with a law for each thing that the
-- code does to them: a member starts, a chunk is swallowed, the chunk is pushed. Assumes nothing.
use Prim.Native.Nat.{ℕ, zero, suc, ◌+◌, ◌-◌, ◌≤◌, ◌<◌}
use native.Mathlib.Nat.{not-suc-le-zero}
use native.Mathlib.Numerals.{add-one}
use native.Mathlib.Omega.{arith}
use mathlib.Core.Path.{◌≡◌, refl, sym, ap, ◌∙◌}
use mathlib.Core.Bool.{true, false}
use mathlib.Core.List.{List, [], ◌∷◌, ◌++◌, map, map-append}
use lib.ListN.{length, take, drop, get_or, set, length-set, length-map, drop_of_length-le}
use lib.Seq.{drop-cons, take-suc, length-take-le, get_or-set_same, get_or-set_other}
use lib.IntN.{ℤ}
use Rattle.lists.proofs.Lists.{written_next}
use Rattle.feefrac.specs.declared.FeeFrac.{FeeFrac}
use Rattle.feefrac.specs.Rate.{zero_rate, rate_at, higher}
use Rattle.chunking.specs.declared.Chunk.{Chunk}
use Rattle.chunking.specs.Setup.{Stacked, no_chunk, stk}
use Rattle.chunking.specs.Chunks.{alone, joined, swallow, chunks_after, lengths_of, chunk_lengths, rates}

-- ---- the feerates of two lists

pub length_rates : (fs : List ℤ) (ss : List ℕ) → length fs ≡ length ss → length (rates fs ss) ≡ length fs
unfolding rates
length_rates [] ss h = refl
length_rates (f ∷ fs) [] h = absurd (omega arith)
length_rates (f ∷ fs) (s ∷ ss) h = omega (arith, length_rates fs ss (omega arith))

pub rates_at : (fs : List ℤ) (ss : List ℕ) (i : ℕ) → length fs ≡ length ss → i < length fs → get_or (rates fs ss) i zero_rate ≡ rate_at fs ss i
unfolding rates rate_at
rates_at [] ss i h k = absurd (not-suc-le-zero k)
rates_at (f ∷ fs) [] i h k = absurd (omega arith)
rates_at (f ∷ fs) (s ∷ ss) zero h k = refl
rates_at (f ∷ fs) (s ∷ ss) (suc i) h k = rates_at fs ss i (omega arith) (omega arith)

-- ---- the first n of a list of chunks, the last of them first

module _ (xs : List Chunk) where
  stk_top : (n : ℕ) → 0 < n → stk xs n ≡ get_or xs (n - 1) no_chunk ∷ stk xs (n - 1)
  unfolding stk
  stk_top zero h = absurd (not-suc-le-zero h)
  stk_top (suc n) h =
      let e : suc n - 1 ≡ n = omega arith in
      rw e

  -- a chunk is written as the k-th
  module _ (k : ℕ) (c : Chunk) where
    stk_set : (n : ℕ) → n ≤ k → stk (set xs k c) n ≡ stk xs n
    unfolding stk
    stk_set zero h = refl
    stk_set (suc n) h = rw (get_or-set_other xs k n c no_chunk (omega arith), stk_set n (omega arith))

    stk_push : k < length xs → stk (set xs k c) (k + 1) ≡ c ∷ stk xs k
    unfolding stk
    stk_push h = rw (add-one, get_or-set_same xs k c no_chunk h, stk_set k (omega arith))

-- ---- the loops

-- how many members a list of chunks has
unfoldable pub count : List Chunk → ℕ
count [] = 0
count (c ∷ cs) = c.len + count cs

-- at the head of the loop over the members: the first i of rs have made n chunks, in a list as long as that at first
pub record Outer (rs : List FeeFrac) (xs₀ xs : List Chunk) (n i : ℕ) : Type 0 where
  pub long : length xs ≡ length xs₀
  pub few : n ≤ i
  pub all : count (stk xs n) ≡ i
  pub same : chunks_after (stk xs n) (drop i rs) ≡ chunks_after [] rs

-- at the head of the loop that swallows: c is what member i, alone c₀, has become, and n chunks of n₀ are left
pub record Inner (xs : List Chunk) (n₀ i : ℕ) (c₀ : Chunk) (n : ℕ) (c : Chunk) : Type 0 where
  pub down : n ≤ n₀
  pub all : c.len + count (stk xs n) ≡ i + 1
  pub same : swallow c (stk xs n) ≡ swallow c₀ (stk xs n₀)

pub outer_start : (rs : List FeeFrac) (xs : List Chunk) → Outer rs xs xs 0 0
unfolding stk count
outer_start rs xs = record { long = refl; few = omega arith; all = refl; same = refl }

pub inner_start : {rs : List FeeFrac} {xs₀ xs : List Chunk} {n i : ℕ} {r : FeeFrac} {c : Chunk}
    → Outer rs xs₀ xs n i → c ≡ alone r → Inner xs n i (alone r) n c
inner_start o e = rw e (record { down = omega arith; all = omega (arith, o.all); same = refl })

module _ {xs : List Chunk} {n₀ i : ℕ} {c₀ : Chunk} {n : ℕ} {c t : Chunk}
    (v : Inner xs n₀ i c₀ n c) (h : 0 < n) (top : t ≡ get_or xs (n - 1) no_chunk) where
  split : stk xs n ≡ t ∷ stk xs (n - 1)
  split = stk_top xs n h ∙ ap (λ (x : Chunk). x ∷ stk xs (n - 1)) (sym top)

  -- the two together are no more than the members that came
  pub join_len : c.len + t.len ≤ i + 1
  unfolding count
  join_len = omega (arith, rw split at v.all)

  pub inner_turn : {q : Chunk} → higher c.rate t.rate ≡ true → q ≡ joined c t → Inner xs n₀ i c₀ (n - 1) q
  unfolding count swallow
  inner_turn e q =
      rw q
      (record {
        down = omega (arith, v.down);
        all = omega (arith, rw split at v.all);
        same = rw e at (rw split at v.same);
      })

  -- nothing more is swallowed: c is not above the last
  pub stopped_top : higher c.rate t.rate ≡ false → swallow c (stk xs n) ≡ c ∷ stk xs n
  unfolding swallow
  stopped_top e = rw (split, e)

-- or no chunk is left
pub stopped_empty : (xs : List Chunk) (n : ℕ) (c : Chunk) → n ≤ 0 → swallow c (stk xs n) ≡ c ∷ stk xs n
unfolding stk swallow
stopped_empty xs n c h =
    let e : n ≡ 0 = omega arith in
    rw e

after_step : (cs : List Chunk) (rs : List FeeFrac) (i : ℕ) → i < length rs
    → chunks_after cs (drop i rs) ≡ chunks_after (swallow (alone (get_or rs i zero_rate)) cs) (drop (i + 1) rs)
unfolding chunks_after
after_step cs rs i h = rw (add-one, drop-cons rs i zero_rate)

pub outer_push : {rs : List FeeFrac} {xs₀ xs : List Chunk} {n₀ i n : ℕ} {c : Chunk} → Outer rs xs₀ xs n₀ i
    → Inner xs n₀ i (alone (get_or rs i zero_rate)) n c → swallow c (stk xs n) ≡ c ∷ stk xs n → i < length rs → i < length xs₀
    → Outer rs xs₀ (set xs n c) (n + 1) (i + 1)
unfolding count
outer_push {rs} {xs = xs} {n₀} {i} {n} {c} o v e h k =
    let push = stk_push xs n c (omega (arith, o.long, o.few, v.down)) in
    record {
      long = length-set xs n c ∙ o.long;
      few = omega (arith, o.few, v.down);
      all = rw push v.all;
      same = ap (λ (l : List Chunk). chunks_after l (drop (i + 1) rs)) (push ∙ sym e ∙ v.same)
          ∙ sym (after_step (stk xs n₀) rs i h)
          ∙ o.same;
    }

-- the members are done
pub stack_done : {rs : List FeeFrac} {xs₀ xs : List Chunk} {n i : ℕ} → Outer rs xs₀ xs n i → i ≡ length rs → length rs ≤ length xs₀ → Stacked xs n rs
unfolding chunks_after
stack_done {rs} {xs = xs} {n} {i} o d w =
    let past : length rs ≤ i = omega arith in
    record {
      wide = omega (arith, o.few, o.long);
      few = omega (arith, o.few);
      same = sym (ap (chunks_after (stk xs n)) (drop_of_length-le rs past)) ∙ o.same;
    }

-- ---- the lengths are those of the stack from its bottom

lens_stk : (xs : List Chunk) (n : ℕ) → n ≤ length xs → map (λ (c : Chunk). c.len) (take n xs) ≡ lengths_of (stk xs n)
unfolding stk lengths_of
lens_stk xs zero h = refl
lens_stk xs (suc n) h =
    rw (take-suc xs n no_chunk h)
    (map-append (λ (c : Chunk). c.len) (take n xs) (get_or xs n no_chunk ∷ [])
    ∙ ap (λ (l : List ℕ). l ++ ((get_or xs n no_chunk).len ∷ [])) (lens_stk xs n (omega arith)))

pub stacked_lengths : {rs : List FeeFrac} {xs : List Chunk} {n : ℕ} → Stacked xs n rs → map (λ (c : Chunk). c.len) (take n xs) ≡ chunk_lengths rs
unfolding chunk_lengths
stacked_lengths {xs = xs} {n} s = lens_stk xs n s.wide ∙ ap lengths_of s.same

pub stacked_count : {rs : List FeeFrac} {xs : List Chunk} {n : ℕ} → Stacked xs n rs → n ≡ length (chunk_lengths rs)
stacked_count {xs = xs} {n} s = sym (length-map (take n xs) (λ (c : Chunk). c.len) ∙ length-take-le n xs s.wide) ∙ ap length (stacked_lengths s)

-- ---- the lengths are written out

pub copy_turn : (cs : List Chunk) (room : List ℕ) (i : ℕ) → i < length cs → i < length room
    → set (map (λ (c : Chunk). c.len) (take i cs) ++ drop i room) i (get_or cs i no_chunk).len
    ≡ map (λ (c : Chunk). c.len) (take (i + 1) cs) ++ drop (i + 1) room
copy_turn cs room i h k =
    let done = map (λ (c : Chunk). c.len) (take i cs) in
    written_next done room i (get_or cs i no_chunk).len (length-map (take i cs) (λ (c : Chunk). c.len) ∙ length-take-le i cs (omega arith)) k
    ∙ rw (add-one, take-suc cs i no_chunk h, map-append (λ (c : Chunk). c.len) (take i cs) (get_or cs i no_chunk ∷ []))
