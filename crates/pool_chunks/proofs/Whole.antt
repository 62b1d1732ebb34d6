-- The chunks in arrays and their numbers sorted are what `all_chunks` promises. Assumes nothing.
use Prim.Native.Nat.{ℕ, ◌≤◌, ◌<◌}
use native.Mathlib.Omega.{arith}
use mathlib.Core.Path.{◌≡◌, ap, ◌∙◌}
use mathlib.Core.List.{List, ◌++◌, map}
use lib.ListN.{length, take, drop, get_or, length-append, length-drop, get_or-append}
use lib.Seq.{take_at}
use lib.IntN.{ℤ}
use Rattle.lists.proofs.Lists.{each_at}
use Rattle.sorting.specs.Sorting.{sorted_by}
use Rattle.sorting.proofs.Insertion.{length_sort}
use Rattle.feefrac.specs.declared.FeeFrac.{FeeFrac}
use Rattle.feefrac.specs.Rate.{rate_at}
use Rattle.pool_table.specs.Pool.{Pool, slot_count}
use Rattle.pool_chunks.specs.Chunks.{all_chunks, tried}
use Rattle.pool_chunks.specs.Sorted.{no_chunk, chunk_at}
use Rattle.pool_chunks.specs.Numbers.{pays_first, upwards, Rated}
use Rattle.pool_chunks.specs.Steps.{AllCut}
use Rattle.pool_chunks.proofs.Order.{upwards_many, sorted_within, tried_numbers}
use Rattle.pool_chunks.proofs.Theorems.{Proper, chunks_proper}
use Rattle.pool_chunks.proofs.Laid.{Taken}

-- a start that was lent is as long when it is back
pub back_long : {r : ℕ} (part old : List ℕ) → length part ≡ r → r ≤ length old → length (part ++ drop r old) ≡ length old
back_long {r} part old e l = omega (arith, length-append part (drop r old), length-drop r old)

module _
    {p : Pool}
    {ds : List ℤ}
    {count : ℕ}
    {listed starts : List ℕ}
    {fees : List ℤ}
    {sizes : List ℕ}
    (h : Taken p ds)
    (a : AllCut p ds count listed starts fees sizes) where
  -- each chunk's size is above zero, as the sort asks
  size_above : (c : ℕ) → c < count → 0 < get_or sizes c 0
  unfolding rate_at
  size_above c l =
      omega (
        arith,
        ap (λ (r : FeeFrac). r.size) (a.rates c l),
        (each_at (Proper p) (all_chunks p ds) no_chunk (chunks_proper p h.few h.sound ds) c (omega (arith, a.many))).sized,
      )

  pub rated : slot_count p < length fees → slot_count p < length sizes → Rated count fees sizes
  rated f s = record { fees = omega (arith, a.few); sizes = omega (arith, a.few); above = size_above }

  -- the numbers of the chunks, sorted, at the start of the order
  module _ {n : ℕ} {part : List ℕ} (as_many : n ≡ count) (told : part ≡ sorted_by (pays_first fees sizes) (upwards n)) (rest : List ℕ) where
    is : part ≡ sorted_by (pays_first fees sizes) (upwards count)
    is = rw as_many at told

    long : length part ≡ count
    long = ap length is ∙ length_sort (pays_first fees sizes) (upwards count) ∙ upwards_many count

    pub order_within : (k : ℕ) → k < count → get_or (part ++ rest) k 0 < count
    order_within k l =
        let e : get_or (part ++ rest) k 0 ≡ get_or (sorted_by (pays_first fees sizes) (upwards count)) k 0 =
        get_or-append part rest 0 k (omega (arith, long)) ∙ ap (λ (xs : List ℕ). get_or xs k 0) is in
        omega (arith, e, sorted_within fees sizes count k l)

    pub order_tried : map (chunk_at (all_chunks p ds)) (take count (part ++ rest)) ≡ tried p ds
    order_tried =
        ap (map (chunk_at (all_chunks p ds)))
        (take_at part rest count long ∙ is ∙ ap (λ (n : ℕ). sorted_by (pays_first fees sizes) (upwards n)) a.many)
        ∙ tried_numbers p ds h.few h.sound fees sizes (λ c l. a.rates c (omega (arith, a.many)))
