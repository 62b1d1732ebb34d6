-- What the chunks of a pool are made of: their slots are entries, and no delta counts but those of entries. Assumes nothing.
use mathlib.Core.Path.{◌≡◌, refl, sym, ap, ap₂, ◌∙◌}
use mathlib.Core.Bool.{true, false≢true}
use mathlib.Core.Logic.{⊎_elim}
use mathlib.Core.List.{List, [], ◌∷◌, ◌++◌, map}
use Prim.Native.Nat.{ℕ, suc, ◌<◌}
use native.Mathlib.Omega.{arith}
use lib.ListN.{length, get_or, take, drop, length-map, take-append-drop}
use lib.IntN.{ℤ, pos, ◌+ℤ◌}
use Rattle.lists.specs.Lists.{any_of, only, elem}
use Rattle.lists.proofs.Lists.{Each, elem_left, elem_right, elem_head, elem_tail, in_cons, elem_at}
use Rattle.sorting.specs.Sorting.{sorted_by}
use Rattle.sorting.proofs.Orders.{each_append}
use Rattle.sorting.proofs.Insertion.{each_sort}
use Rattle.feeset.specs.Total.{total}
use Rattle.chunking.specs.Orders.{cut, chunks_of}
use Rattle.linearize.specs.Linearize.{linear_order}
use Rattle.linearize.proofs.Theorems.{linear_below}
use Rattle.pool_table.specs.Pool.{Pool, slot_at, occupied}
use Rattle.pool_order.specs.Order.{txid_of, slots_by_txid}
use Rattle.pool_members.specs.Members.{members_of, parents_of, clusters}
use Rattle.pool_members.proofs.Members.{member_parts}
use Rattle.pool_chunks.specs.Chunks.{PoolChunk, fee_of, fees_of, sizes_of, order_of, parts_of, chunk_of, numbered, chunks_over, all_chunks, tried_first, tried}
use Rattle.template_rules.proofs.Collect.{Entries}

-- the slots of each chunk are entries
abbrev pub Chunked : Pool → List PoolChunk → Type 0
Chunked p cs = Each (λ c. Entries p c.slots) cs

-- ---- parts of a list

cut_each : (P : ℕ → Type 0) (ls xs : List ℕ) → ((i : ℕ) → elem i xs ≡ true → P i) → Each (λ is. (i : ℕ) → elem i is ≡ true → P i) (cut ls xs)
unfolding Each cut
cut_each P [] xs h = tt
cut_each P (l ∷ ls) xs h = (
  λ i m. h i (whole i (elem_left i (take l xs) (drop l xs) m)),
  cut_each P ls (drop l xs) (λ i m. h i (whole i (elem_right i (take l xs) (drop l xs) m))),
)
  where
    whole : (i : ℕ) → elem i (take l xs ++ drop l xs) ≡ true → elem i xs ≡ true
    whole i m = ap (elem i) (sym (take-append-drop l xs)) ∙ m

module _ (p : Pool) where
  -- ---- members are entries

  members_held : (ls : List ℕ) → Each (Entries p) (map (members_of p) ls)
  unfolding Each
  members_held [] = tt
  members_held (s ∷ ls) = (λ x m. (member_parts p s x m).0, members_held ls)

  clusters_held : Each (Entries p) (clusters p)
  unfolding clusters
  clusters_held = members_held (only _ (slots_by_txid p))

  -- ---- and so are the slots of chunks

  module _ (ds : List ℤ) where
    module _ (ms : List ℕ) (held : Entries p ms) where
      slots_held : (is : List ℕ) → ((i : ℕ) → elem i is ≡ true → i < length ms) → Entries p (map (λ i. get_or ms i 0) is)
      unfolding elem any_of
      slots_held [] b x m = absurd (false≢true m)
      slots_held (i ∷ is) b x m =
          ⊎_elim
          (λ (e : x ≡ get_or ms i 0). rw e (held (get_or ms i 0) (elem_at ms i (b i (elem_head i is)))))
          (λ n. slots_held is (λ j k. b j (elem_tail j i is k)) x n)
          (in_cons x (get_or ms i 0) (map (λ i. get_or ms i 0) is) m)

      numbered_held : (k : ℕ) (iss : List (List ℕ)) → Each (λ is. (i : ℕ) → elem i is ≡ true → i < length ms) iss → Chunked p (numbered p ds ms k iss)
      unfolding Each numbered chunk_of
      numbered_held k [] b = tt
      numbered_held k (is ∷ iss) b = (slots_held is b.0, numbered_held (suc k) iss b.1)

      parts_below : Each (λ is. (i : ℕ) → elem i is ≡ true → i < length ms) (parts_of p ds ms)
      unfolding parts_of chunks_of order_of
      parts_below =
          cut_each (λ i. i < length ms) _ (order_of p ds ms)
          (λ i m. omega (arith, linear_below (fees_of p ds ms) (sizes_of p ms) (map (parents_of p ms) ms) i m, length-map ms (fee_of p ds)))

    over_held : (mss : List (List ℕ)) → Each (Entries p) mss → Chunked p (chunks_over p ds mss)
    unfolding Each chunks_over
    over_held [] h = tt
    over_held (ms ∷ mss) h =
        each_append (λ c. Entries p c.slots) (numbered p ds ms 0 (parts_of p ds ms)) (chunks_over p ds mss)
        (numbered_held ms h.0 0 (parts_of p ds ms) (parts_below ms h.0)) (over_held mss h.1)

    pub tried_held : Chunked p (tried p ds)
    unfolding tried all_chunks
    tried_held = each_sort tried_first (λ c. Entries p c.slots) (all_chunks p ds) (over_held (clusters p) clusters_held)

-- ---- deltas that agree on the entries

module _ (p : Pool) (ds es : List ℤ) (agree : (s : ℕ) → occupied p s ≡ true → get_or ds s (pos 0) ≡ get_or es s (pos 0)) where
  same_fees : (ms : List ℕ) → Entries p ms → fees_of p ds ms ≡ fees_of p es ms
  unfolding fee_of
  same_fees [] h = refl
  same_fees (s ∷ ms) h =
      ap₂ ◌∷◌ (ap (λ (d : ℤ). pos (slot_at p s).entry.fee +ℤ d) (agree s (h s (elem_head s ms)))) (same_fees ms (λ x m. h x (elem_tail x s ms m)))

  same_parts : (ms : List ℕ) → Entries p ms → parts_of p ds ms ≡ parts_of p es ms
  unfolding parts_of order_of
  same_parts ms h = ap (λ (fs : List ℤ). chunks_of fs (sizes_of p ms) (linear_order fs (sizes_of p ms) (map (parents_of p ms) ms))) (same_fees ms h)

  same_numbered : (ms : List ℕ) → Entries p ms → (k : ℕ) (iss : List (List ℕ)) → numbered p ds ms k iss ≡ numbered p es ms k iss
  unfolding numbered chunk_of
  same_numbered ms h k [] = refl
  same_numbered ms h k (is ∷ iss) =
      ap₂ (λ (fs : List ℤ) (cs : List PoolChunk).
      record { slots = map (λ i. get_or ms i 0) is; rate = total fs (sizes_of p ms) is; least = txid_of p (get_or ms 0 0); place = k } ∷ cs)
      (same_fees ms h)
      (same_numbered ms h (suc k) iss)

  same_over : (mss : List (List ℕ)) → Each (Entries p) mss → chunks_over p ds mss ≡ chunks_over p es mss
  unfolding Each chunks_over
  same_over [] h = refl
  same_over (ms ∷ mss) h =
      ap₂ ◌++◌ (ap (numbered p ds ms 0) (same_parts ms h.0) ∙ same_numbered ms h.0 0 (parts_of p es ms)) (same_over mss h.1)

  pub same_tried : tried p ds ≡ tried p es
  unfolding tried all_chunks
  same_tried = ap (sorted_by tried_first) (same_over (clusters p) (clusters_held p))
