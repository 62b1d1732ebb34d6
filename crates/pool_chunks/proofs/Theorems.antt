-- What the chunks of a sound pool are, for readers, whatever the deltas: each has a member, members that are entries, and a size above zero;
-- and together they have each entry of the pool once, so that none is left out, made up or tried twice. Assumes nothing.
use Prim.Native.Nat.{ℕ, ◌≤◌, ◌<◌}
use native.Mathlib.Omega.{arith}
use mathlib.Core.Path.{◌≡◌, refl, sym, ap, ap₂, ◌∙◌}
use mathlib.Core.Bool.{true, ◌||◌}
use mathlib.Core.List.{List, [], ◌∷◌, ◌++◌, map-append, flatten}
use lib.Dec.{eqb}
use lib.ListN.{length, get_or, length-map}
use lib.IntN.{ℤ}
use borrow.Author.Tests.{eqb-false, not-true}
use Rattle.lists.specs.Lists.{elem, distinct}
use Rattle.lists.proofs.Lists.{Each, elem_at, elem_append, elem_head, distinct_apart}
use Rattle.slotsets.specs.SlotSets.{capacity}
use Rattle.sorting.proofs.Orders.{each_append}
use Rattle.sorting.proofs.Insertion.{each_sort}
use Rattle.feefrac.proofs.Exact.{sum_of}
use Rattle.feeset.specs.Total.{total}
use Rattle.feeset.proofs.Exact.{total_size}
use Rattle.weights.specs.Weights.{adjusted}
use Rattle.pool_table.specs.Pool.{Pool, slot_count, slot_at, is_occupied, occupied}
use Rattle.pool_rules.proofs.Sound.{Sound}
use Rattle.pool_members.specs.Members.{clusters}
use Rattle.pool_members.proofs.Only.{get_d_map, distinct_append, flatten_append}
use Rattle.pool_members.proofs.Members.{Cluster, clusters_each, clusters_elem, clusters_once}
use Rattle.pool_chunks.specs.Chunks.{PoolChunk, fees_of, size_of, sizes_of, parts_of, chunk_of, numbered, chunks_over, all_chunks, tried_first, tried}
use Rattle.pool_chunks.specs.Sorted.{slot_lists}
use Rattle.pool_chunks.proofs.Pieces.{in_map, distinct_behind, each_numbered, at_each}
use Rattle.pool_chunks.proofs.Clusters.{cluster_taken, cluster_acyclic, part_some, part_below, cluster_elem, cluster_once}

-- ---- each chunk

-- it has a member, each of its slots is an entry's, and its size is above zero
pub record Proper (p : Pool) (c : PoolChunk) : Type 0 where
  pub some : 0 < length c.slots
  pub taken : (s : ℕ) → elem s c.slots ≡ true → occupied p s ≡ true
  pub sized : 0 < c.rate.size

size_positive : (p : Pool) (s : ℕ) → occupied p s ≡ true → 0 < size_of p s
unfolding size_of adjusted is_occupied
size_positive p s o =
    let w = (slot_at p s).entry.weight.0 in
    let n = eqb-false w 0 (not-true (eqb w 0) o) in
    omega arith

module _ (p : Pool) (few : slot_count p ≤ capacity) (sound : Sound p) (ds : List ℤ) where
  module _ {ms : List ℕ} (c : Cluster p ms) where
    -- what a part of the cluster's order is
    Part : List ℕ → Type 0
    Part is = (0 < length is) × ((i : ℕ) → elem i is ≡ true → i < length ms)

    total_positive : (is : List ℕ) → Part is → 0 < (total (fees_of p ds ms) (sizes_of p ms) is).size
    unfolding Part sum_of
    total_positive [] h = absurd (omega (arith, h.0))
    total_positive (i ∷ is) h =
        let l = h.1 i (elem_head i is) in
        omega (
          arith,
          total_size (fees_of p ds ms) (sizes_of p ms) (i ∷ is),
          get_d_map (size_of p) ms i 0 0 l,
          size_positive p (get_or ms i 0) (cluster_taken p few sound c (get_or ms i 0) (elem_at ms i l)),
        )

    chunk_proper : (k : ℕ) (is : List ℕ) → Part is → Proper p (chunk_of p ds ms k is)
    unfolding chunk_of Part
    chunk_proper k is h = record {
      some = omega (arith, h.0, length-map is (λ i. get_or ms i 0));
      taken = λ s m.
          let u = in_map (λ i. get_or ms i 0) is s m in
          rw (sym u.gives) (cluster_taken p few sound c (get_or ms u.of 0) (elem_at ms u.of (h.1 u.of u.listed)));
      sized = total_positive is h;
    }

    each_part : Each Part (parts_of p ds ms)
    unfolding Part
    each_part =
        let acyclic = cluster_acyclic p few sound c in
        at_each Part (parts_of p ds ms) [] (λ k l. (part_some p ds ms acyclic k l, λ i m. part_below p ds ms acyclic k i l m))

  over_proper : (mss : List (List ℕ)) → Each (Cluster p) mss → Each (Proper p) (chunks_over p ds mss)
  unfolding chunks_over Each
  over_proper [] h = tt
  over_proper (ms ∷ mss) h =
      each_append (Proper p) (numbered p ds ms 0 (parts_of p ds ms)) (chunks_over p ds mss)
      (each_numbered p ds ms (Part h.0) (Proper p) (chunk_proper h.0) 0 (parts_of p ds ms) (each_part h.0))
      (over_proper mss h.1)

  pub chunks_proper : Each (Proper p) (all_chunks p ds)
  unfolding all_chunks
  chunks_proper = over_proper (clusters p) (clusters_each p few sound.links)

  -- so in the order in which they are tried
  pub tried_proper : Each (Proper p) (tried p ds)
  unfolding tried
  tried_proper = each_sort tried_first (Proper p) (all_chunks p ds) chunks_proper

  -- ---- all together

  over_slots : (ms : List ℕ) (mss : List (List ℕ)) → flatten (slot_lists (chunks_over p ds (ms ∷ mss)))
      ≡ flatten (slot_lists (numbered p ds ms 0 (parts_of p ds ms))) ++ flatten (slot_lists (chunks_over p ds mss))
  unfolding chunks_over
  over_slots ms mss =
      ap flatten (map-append (λ c. c.slots) (numbered p ds ms 0 (parts_of p ds ms)) (chunks_over p ds mss))
      ∙ flatten_append (slot_lists (numbered p ds ms 0 (parts_of p ds ms))) (slot_lists (chunks_over p ds mss))

  over_elem : (mss : List (List ℕ)) → Each (Cluster p) mss → (s : ℕ) → elem s (flatten (slot_lists (chunks_over p ds mss))) ≡ elem s (flatten mss)
  unfolding chunks_over Each flatten
  over_elem [] h s = refl
  over_elem (ms ∷ mss) h s =
      ap (elem s) (over_slots ms mss)
      ∙ elem_append s (flatten (slot_lists (numbered p ds ms 0 (parts_of p ds ms)))) (flatten (slot_lists (chunks_over p ds mss)))
      ∙ ap₂ ◌||◌ (cluster_elem p few sound h.0 ds s) (over_elem mss h.1 s)
      ∙ sym (elem_append s ms (flatten mss))

  over_once : (mss : List (List ℕ)) → Each (Cluster p) mss → distinct (flatten mss) ≡ true
      → distinct (flatten (slot_lists (chunks_over p ds mss))) ≡ true
  unfolding chunks_over Each flatten
  over_once [] h d = d
  over_once (ms ∷ mss) h d =
      ap distinct (over_slots ms mss)
      ∙ distinct_append (flatten (slot_lists (numbered p ds ms 0 (parts_of p ds ms)))) (flatten (slot_lists (chunks_over p ds mss)))
      (cluster_once p few sound h.0 ds)
      (over_once mss h.1 (distinct_behind ms (flatten mss) d))
      (λ i m. over_elem mss h.1 i ∙ distinct_apart ms (flatten mss) i d (sym (cluster_elem p few sound h.0 ds i) ∙ m))

  -- the slots of all chunks are the occupied ones
  pub chunks_elem : (s : ℕ) → elem s (flatten (slot_lists (all_chunks p ds))) ≡ occupied p s
  unfolding all_chunks
  chunks_elem s = over_elem (clusters p) (clusters_each p few sound.links) s ∙ clusters_elem p few sound.links s

  -- each once
  pub chunks_once : distinct (flatten (slot_lists (all_chunks p ds))) ≡ true
  unfolding all_chunks
  chunks_once = over_once (clusters p) (clusters_each p few sound.links) (clusters_once p few sound.links)
