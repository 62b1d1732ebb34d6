-- A cluster of a sound pool, ordered and cut, by definition: its order has each of its members once, and so have its chunks together.
-- Assumes nothing.
use Prim.Native.Nat.{ℕ, zero, suc, ◌≤◌, ◌<◌}
use native.Mathlib.Nat.{not-suc-le-zero, le_of_suc-le-suc}
use native.Mathlib.Omega.{arith}
use mathlib.Core.Path.{◌≡◌, sym, ap, ◌∙◌}
use mathlib.Core.Bool.{true, false}
use mathlib.Core.List.{List, [], ◌∷◌, map, flatten}
use lib.ListN.{length, get_or, length-map}
use lib.IntN.{ℤ}
use Rattle.lists.specs.Lists.{elem, distinct}
use Rattle.lists.proofs.Lists.{elem_left, elem_right}
use Rattle.txset.specs.Sets.{positions}
use Rattle.slotsets.specs.SlotSets.{capacity}
use Rattle.feefrac.specs.Rate.{rate_at}
use Rattle.feefrac.proofs.Exact.{sum_of}
use Rattle.depgraph.specs.Graph.{is_cyclic}
use Rattle.chunking.specs.Orders.{order_lengths, chunks_of}
use Rattle.chunking.proofs.Orders.{length_cut}
use Rattle.chunking.proofs.Theorems.{lengths_sum, lengths_few, lengths_positive}
use Rattle.linearize.proofs.Theorems.{linear_below, linear_once, linear_every, linear_length}
use Rattle.pool_table.specs.Pool.{Pool, slot_count, occupied}
use Rattle.pool_rules.proofs.Sound.{Sound}
use Rattle.pool_members.specs.Members.{members_of, parents_of}
use Rattle.pool_members.proofs.Only.{get_d_map}
use Rattle.pool_members.proofs.Members.{Cluster, member_parts, members_once, members_few, members_same, position_acyclic}
use Rattle.pool_chunks.specs.Chunks.{fee_of, fees_of, sizes_of, order_of, parts_of, numbered}
use Rattle.pool_chunks.specs.Sorted.{slot_lists}
use Rattle.pool_chunks.proofs.Pieces.{flatten_map, flatten_cut, cut_lengths, listed_elem, listed_once, numbered_slots}

-- what is in a part is in the whole
part_in : (xss : List (List ℕ)) (k i : ℕ) → k < length xss → elem i (get_or xss k []) ≡ true → elem i (flatten xss) ≡ true
unfolding flatten
part_in [] k i l e = absurd (not-suc-le-zero l)
part_in (xs ∷ xss) zero i l e = elem_left i xs (flatten xss) e
part_in (xs ∷ xss) (suc k) i l e = elem_right i xs (flatten xss) (part_in xss k i (le_of_suc-le-suc l) e)

-- a list of members without a cycle among their parents
module _ (p : Pool) (ds : List ℤ) (ms : List ℕ) (acyclic : is_cyclic (map (parents_of p ms) ms) ≡ false) where
  abbrev fs : List ℤ
  fs = fees_of p ds ms

  abbrev ss : List ℕ
  ss = sizes_of p ms

  abbrev ps : List ℕ
  ps = map (parents_of p ms) ms

  abbrev lengths : List ℕ
  lengths = order_lengths fs ss (order_of p ds ms)

  as_long : length ps ≡ length fs
  as_long = length-map ms (parents_of p ms) ∙ sym (length-map ms (fee_of p ds))

  -- the order
  pub order_long : length (order_of p ds ms) ≡ length ms
  unfolding order_of
  order_long = linear_length fs ss ps as_long acyclic ∙ length-map ms (fee_of p ds)

  pub order_below : (i : ℕ) → elem i (order_of p ds ms) ≡ true → i < length ms
  unfolding order_of
  order_below i m = omega (arith, linear_below fs ss ps i m, length-map ms (fee_of p ds))

  pub order_every : (i : ℕ) → i < length ms → elem i (order_of p ds ms) ≡ true
  unfolding order_of
  order_every i l = linear_every fs ss ps as_long acyclic i (omega (arith, length-map ms (fee_of p ds)))

  pub order_once : distinct (order_of p ds ms) ≡ true
  unfolding order_of
  order_once = linear_once fs ss ps

  -- its chunks, of which each has a member
  parts_sum : sum_of lengths ≡ length ms
  parts_sum = lengths_sum (map (rate_at fs ss) (order_of p ds ms)) ∙ length-map (order_of p ds ms) (rate_at fs ss) ∙ order_long

  pub parts_whole : flatten (parts_of p ds ms) ≡ order_of p ds ms
  unfolding parts_of chunks_of
  parts_whole = flatten_cut lengths (order_of p ds ms) (parts_sum ∙ sym order_long)

  pub parts_lengths : map length (parts_of p ds ms) ≡ lengths
  unfolding parts_of chunks_of
  parts_lengths = cut_lengths lengths (order_of p ds ms) (omega (arith, parts_sum, order_long))

  pub parts_together : sum_of (map length (parts_of p ds ms)) ≡ length ms
  parts_together = ap sum_of parts_lengths ∙ parts_sum

  pub parts_count : length (parts_of p ds ms) ≡ length lengths
  unfolding parts_of chunks_of
  parts_count = length_cut lengths (order_of p ds ms)

  pub parts_few : length (parts_of p ds ms) ≤ length ms
  parts_few =
      omega (
        arith,
        parts_count,
        lengths_few (map (rate_at fs ss) (order_of p ds ms)),
        length-map (order_of p ds ms) (rate_at fs ss),
        order_long,
      )

  pub part_some : (k : ℕ) → k < length (parts_of p ds ms) → 0 < length (get_or (parts_of p ds ms) k [])
  part_some k l =
      omega (
        arith,
        sym (get_d_map length (parts_of p ds ms) k [] 0 l) ∙ ap (λ (xs : List ℕ). get_or xs k 0) parts_lengths,
        lengths_positive (map (rate_at fs ss) (order_of p ds ms)) k (omega (arith, parts_count)),
      )

  pub part_below : (k i : ℕ) → k < length (parts_of p ds ms) → elem i (get_or (parts_of p ds ms) k []) ≡ true → i < length ms
  part_below k i l m = order_below i (rw parts_whole at (part_in (parts_of p ds ms) k i l m))

  -- the slots of the chunks together
  pub parts_slots : flatten (slot_lists (numbered p ds ms 0 (parts_of p ds ms))) ≡ map (λ i. get_or ms i 0) (order_of p ds ms)
  parts_slots =
      ap flatten (numbered_slots p ds ms 0 (parts_of p ds ms))
      ∙ flatten_map (λ i. get_or ms i 0) (parts_of p ds ms)
      ∙ ap (map (λ i. get_or ms i 0)) parts_whole

-- a cluster of a sound pool
module _ (p : Pool) (few : slot_count p ≤ capacity) (sound : Sound p) {ms : List ℕ} (c : Cluster p ms) where
  pub cluster_few : length ms ≤ positions
  cluster_few = rw c.are (members_few p few sound c.lead c.taken)

  pub cluster_taken : (s : ℕ) → elem s ms ≡ true → occupied p s ≡ true
  cluster_taken s m = (member_parts p c.lead s (rw c.are at m)).0

  pub cluster_members : (s : ℕ) → elem s ms ≡ true → members_of p s ≡ ms
  cluster_members s m = members_same p few sound.links c.lead s (member_parts p c.lead s (rw c.are at m)).1 ∙ sym c.are

  pub cluster_acyclic : is_cyclic (map (parents_of p ms) ms) ≡ false
  cluster_acyclic = rw c.are (position_acyclic p few sound c.lead c.taken)

  -- its chunks have its members, each once
  pub cluster_elem : (ds : List ℤ) (s : ℕ) → elem s (flatten (slot_lists (numbered p ds ms 0 (parts_of p ds ms)))) ≡ elem s ms
  cluster_elem ds s =
      ap (elem s) (parts_slots p ds ms cluster_acyclic)
      ∙ listed_elem ms (order_of p ds ms) (order_below p ds ms cluster_acyclic) (order_every p ds ms cluster_acyclic) s

  pub cluster_once : (ds : List ℤ) → distinct (flatten (slot_lists (numbered p ds ms 0 (parts_of p ds ms)))) ≡ true
  cluster_once ds =
      ap distinct (parts_slots p ds ms cluster_acyclic)
      ∙ listed_once ms (order_of p ds ms) (order_below p ds ms cluster_acyclic) (order_every p ds ms cluster_acyclic)
      (order_once p ds ms cluster_acyclic) (rw c.are (members_once p c.lead))
