-- The chunks of a pool's clusters in four rooms, one cluster after the other. Assumes nothing.
use Prim.Native.Nat.{ℕ, zero, suc, ◌+◌, ◌-◌, ◌≤◌, ◌<◌}
use native.Mathlib.Nat.{not-suc-le-zero, le_of_suc-le-suc}
use native.Mathlib.Numerals.{add-one}
use native.Mathlib.Omega.{arith}
use mathlib.Core.Path.{◌≡◌, refl, sym, ap, ap₂, ◌∙◌, subst, subst₂}
use mathlib.Core.Bool.{false}
use mathlib.Core.List.{List, [], ◌∷◌, ◌++◌, map, map-append, append_assoc, flatten}
use lib.ListN.{length, take, drop, get_or, set, length-append, length-map, length-drop, get_or-append}
use lib.Seq.{length-take-le, take-suc, take_all, take_at, drop-append-add}
use lib.IntN.{ℤ, pos}
use Rattle.lists.specs.Lists.{overwrite}
use Rattle.feefrac.specs.declared.FeeFrac.{FeeFrac}
use Rattle.feefrac.specs.Rate.{rate_at}
use Rattle.feefrac.proofs.Exact.{sum_of}
use Rattle.chunking.proofs.Orders.{sum_next, sum_take}
use Rattle.pool_table.specs.Pool.{Pool, slot_count}
use Rattle.depgraph.specs.Graph.{is_cyclic}
use Rattle.pool_members.specs.Members.{parents_of, clusters}
use Rattle.pool_members.specs.Rows.{Rows}
use Rattle.pool_members.proofs.Only.{get_d_map, flatten_append}
use Rattle.pool_chunks.specs.Chunks.{PoolChunk, order_of, parts_of, numbered, chunks_over, all_chunks}
use Rattle.pool_chunks.specs.Sorted.{slot_lists, no_chunk, chunk_at}
use Rattle.pool_chunks.specs.Steps.{ends_from, last_end, slots_in, ends_in, fees_in, sizes_in, AllCut}
use Rattle.pool_chunks.proofs.Clusters.{order_long, parts_few, parts_slots}
use Rattle.pool_chunks.proofs.Pieces.{chunks_snoc, numbered_slots, numbered_fees, numbered_sizes, numbered_length}
use Rattle.pool_chunks.proofs.Writing.{ends_length, ends_at, last_sum, written_on}

-- ---- parts one behind the other, and where they end, are rows

pub flatten_length : (xss : List (List ℕ)) → length (flatten xss) ≡ sum_of (map length xss)
unfolding flatten sum_of
flatten_length [] = refl
flatten_length (xs ∷ xss) = omega (arith, length-append xs (flatten xss), flatten_length xss)

part_at : (xss : List (List ℕ)) (rest : List ℕ) (k : ℕ) → k < length xss
    → take (length (get_or xss k [])) (drop (sum_of (take k (map length xss))) (flatten xss ++ rest)) ≡ get_or xss k []
unfolding flatten sum_of
part_at [] rest k l = absurd (not-suc-le-zero l)
part_at (xs ∷ xss) rest zero l = rw (append_assoc xs (flatten xss) rest) (take_at xs (flatten xss ++ rest) (length xs) refl)
part_at (xs ∷ xss) rest (suc k) l =
    rw (append_assoc xs (flatten xss) rest, drop-append-add xs (flatten xss ++ rest) (sum_of (take k (map length xss))))
    (part_at xss rest k (le_of_suc-le-suc l))

module _ (xss : List (List ℕ)) (flat₀ starts₀ : List ℕ) where
  abbrev lengths : List ℕ
  lengths = map length xss

  start_at : (k : ℕ) → k ≤ length xss → get_or (overwrite (0 ∷ ends_from 0 lengths) starts₀) k 0 ≡ sum_of (take k lengths)
  unfolding sum_of
  start_at zero l = refl
  start_at (suc k) l =
      let m : k < length lengths = omega (arith, length-map xss length) in
      get_or-append (ends_from 0 lengths) _ 0 k (omega (arith, ends_length 0 lengths)) ∙ ends_at 0 lengths k m ∙ omega arith

  pub rows_of : Rows (overwrite (flatten xss) flat₀) (overwrite (0 ∷ ends_from 0 lengths) starts₀) xss
  rows_of =
      record {
        first = refl;
        next = λ k l.
            omega (
              arith,
              start_at k (omega arith),
              start_at (suc k) l,
              sum_next lengths k (omega (arith, length-map xss length)),
              get_d_map length xss k [] 0 l,
            );
        part = λ k l.
            ap (λ (n : ℕ). take (length (get_or xss k [])) (drop n (overwrite (flatten xss) flat₀))) (start_at k (omega arith))
            ∙ part_at xss (drop (length (flatten xss)) flat₀) k l;
        within =
            omega (
              arith,
              start_at (length xss) (omega arith),
              sum_take lengths (length xss),
              flatten_length xss,
              length-append (flatten xss) (drop (length (flatten xss)) flat₀),
            );
      }

lengths_map : (f : ℕ → ℕ) (xss : List (List ℕ)) → map length (map (map f) xss) ≡ map length xss
lengths_map f [] = refl
lengths_map f (xs ∷ xss) = ap₂ ◌∷◌ (length-map xs f) (lengths_map f xss)

-- the ends of more parts
pub ends_append : (from : ℕ) (ls ms : List ℕ) → ends_from from (ls ++ ms) ≡ ends_from from ls ++ ends_from (last_end from ls) ms
unfolding ends_from last_end
ends_append from [] ms = refl
ends_append from (l ∷ ls) ms = ap (λ (r : List ℕ). (from + l) ∷ r) (ends_append (from + l) ls ms)

abbrev pub fee_in : PoolChunk → ℤ
fee_in c = c.rate.fee

abbrev pub size_in : PoolChunk → ℕ
size_in c = c.rate.size

abbrev rate : ℤ → ℕ → FeeFrac
rate f s = record { fee = f; size = s }

-- ---- the invariant

-- the chunks of the first c clusters
abbrev pub so_far : Pool → List ℤ → ℕ → List PoolChunk
so_far p ds c = chunks_over p ds (take c (clusters p))

-- they are `count`, and stand at the start of the rooms; `bounds` has where the next cluster starts
pub record Cutting (p : Pool) (ds : List ℤ) (bounds listed₀ starts₀ : List ℕ) (fees₀ : List ℤ) (sizes₀ listed starts : List ℕ) (fees : List ℤ)
    (sizes : List ℕ) (count c : ℕ) : Type 0 where
  pub up : c ≤ length (clusters p)
  pub many : count ≡ length (so_far p ds c)
  pub at : get_or bounds c 0 ≡ length (flatten (slot_lists (so_far p ds c)))
  pub few : count ≤ get_or bounds c 0
  pub slots : listed ≡ overwrite (flatten (slot_lists (so_far p ds c))) listed₀
  pub ends : starts ≡ overwrite (0 ∷ ends_from 0 (map length (slot_lists (so_far p ds c)))) starts₀
  pub in_fees : fees ≡ overwrite (map fee_in (so_far p ds c)) fees₀
  pub in_sizes : sizes ≡ overwrite (map size_in (so_far p ds c)) sizes₀

-- a room that starts with 0
zero_first : (xs : List ℕ) → 0 < length xs → set xs 0 0 ≡ overwrite (0 ∷ []) (set xs 0 0)
zero_first [] l = absurd (not-suc-le-zero l)
zero_first (x ∷ xs) l = refl

pub cutting_start : (p : Pool) (ds : List ℤ) (starts : List ℕ) {bounds listed : List ℕ} {fees : List ℤ} {sizes : List ℕ} → get_or bounds 0 0 ≡ 0
    → 0 < length starts → Cutting p ds bounds listed (set starts 0 0) fees sizes listed (set starts 0 0) fees sizes 0 0
unfolding chunks_over flatten ends_from
cutting_start p ds starts e l =
    record {
      up = omega arith;
      many = refl;
      at = e;
      few = omega arith;
      slots = refl;
      ends = zero_first starts l;
      in_fees = refl;
      in_sizes = refl;
    }

-- a room keeps its length
overwrite_long : {A : Type 0} (xs room : List A) → length xs ≤ length room → length (overwrite xs room) ≡ length room
overwrite_long xs room l = omega (arith, length-append xs (drop (length xs) room), length-drop (length xs) room)

-- so has the rest of it that is lent
pub tail_long : {A : Type 0} (m : ℕ) (xs : List A) → length (take (length xs - m) (drop m xs)) ≡ length xs - m
tail_long m xs = length-take-le (length xs - m) (drop m xs) (omega (arith, length-drop m xs))

-- one cluster more, whose chunks were written behind the others
module _
    {p : Pool}
    {ds : List ℤ}
    {bounds listed₀ starts₀ : List ℕ}
    {fees₀ : List ℤ}
    {sizes₀ listed starts : List ℕ}
    {fees : List ℤ}
    {sizes : List ℕ}
    {count c : ℕ}
    (g : Cutting p ds bounds listed₀ starts₀ fees₀ sizes₀ listed starts fees sizes count c) where
  -- the rooms keep their lengths
  pub listed_long : get_or bounds c 0 ≤ length listed₀ → length listed ≡ length listed₀
  listed_long l = ap length g.slots ∙ overwrite_long (flatten (slot_lists (so_far p ds c))) listed₀ (omega (arith, g.at))

  pub starts_long : get_or bounds c 0 < length starts₀ → length starts ≡ length starts₀
  starts_long l =
      let ls = map length (slot_lists (so_far p ds c)) in
      ap length g.ends
      ∙ overwrite_long (0 ∷ ends_from 0 ls) starts₀
      (omega (
        arith,
        ends_length 0 ls,
        length-map (slot_lists (so_far p ds c)) length,
        length-map (so_far p ds c) (λ k. k.slots),
        g.many,
        g.few,
      ))

  pub fees_long : get_or bounds c 0 ≤ length fees₀ → length fees ≡ length fees₀
  fees_long l =
      ap length g.in_fees
      ∙ overwrite_long (map fee_in (so_far p ds c)) fees₀ (omega (arith, length-map (so_far p ds c) fee_in, g.many, g.few))

  pub sizes_long : get_or bounds c 0 ≤ length sizes₀ → length sizes ≡ length sizes₀
  sizes_long l =
      ap length g.in_sizes
      ∙ overwrite_long (map size_in (so_far p ds c)) sizes₀ (omega (arith, length-map (so_far p ds c) size_in, g.many, g.few))

  module _
      (l : c < length (clusters p))
      (ms : List ℕ)
      (is : ms ≡ get_or (clusters p) c [])
      (acyclic : is_cyclic (map (parents_of p ms) ms) ≡ false)
      (next : get_or bounds (c + 1) 0 ≡ get_or bounds c 0 + length ms) where
    abbrev old : List PoolChunk
    old = so_far p ds c

    abbrev new : List PoolChunk
    new = numbered p ds ms 0 (parts_of p ds ms)

    more : so_far p ds (c + 1) ≡ old ++ new
    more = rw (add-one, take-suc (clusters p) c [] l, is) (chunks_snoc p ds (take c (clusters p)) (get_or (clusters p) c []))

    slots_more : flatten (slot_lists (so_far p ds (c + 1))) ≡ flatten (slot_lists old) ++ slots_in p ds ms
    slots_more =
        ap (λ (cs : List PoolChunk). flatten (slot_lists cs)) more
        ∙ ap flatten (map-append (λ k. k.slots) old new)
        ∙ flatten_append (slot_lists old) (slot_lists new)
        ∙ ap (λ (xs : List ℕ). flatten (slot_lists old) ++ xs) (parts_slots p ds ms acyclic)

    lengths_more : map length (slot_lists (so_far p ds (c + 1))) ≡ map length (slot_lists old) ++ map length (parts_of p ds ms)
    lengths_more =
        ap (λ (cs : List PoolChunk). map length (slot_lists cs)) more
        ∙ ap (map length) (map-append (λ k. k.slots) old new)
        ∙ map-append length (slot_lists old) (slot_lists new)
        ∙ ap (λ (xs : List ℕ). map length (slot_lists old) ++ xs)
        (ap (map length) (numbered_slots p ds ms 0 (parts_of p ds ms)) ∙ lengths_map (λ i. get_or ms i 0) (parts_of p ds ms))

    ends_more : 0 ∷ ends_from 0 (map length (slot_lists (so_far p ds (c + 1))))
        ≡ (0 ∷ ends_from 0 (map length (slot_lists old))) ++ ends_in p ds ms (get_or bounds c 0)
    ends_more =
        let ls = map length (slot_lists old) in
        let last : last_end 0 ls ≡ get_or bounds c 0 = omega (arith, last_sum 0 ls, flatten_length (slot_lists old), g.at) in
        ap (λ (xs : List ℕ). 0 ∷ ends_from 0 xs) lengths_more
        ∙ ap (λ (xs : List ℕ). 0 ∷ xs) (ends_append 0 ls (map length (parts_of p ds ms)))
        ∙ ap (λ (n : ℕ). (0 ∷ ends_from 0 ls) ++ ends_from n (map length (parts_of p ds ms))) last

    fees_more : map fee_in (so_far p ds (c + 1)) ≡ map fee_in old ++ fees_in p ds ms
    fees_more =
        ap (map fee_in) more
        ∙ map-append fee_in old new
        ∙ ap (λ (xs : List ℤ). map fee_in old ++ xs) (numbered_fees p ds ms 0 (parts_of p ds ms))

    sizes_more : map size_in (so_far p ds (c + 1)) ≡ map size_in old ++ sizes_in p ds ms
    sizes_more =
        ap (map size_in) more
        ∙ map-append size_in old new
        ∙ ap (λ (xs : List ℕ). map size_in old ++ xs) (numbered_sizes p ds ms 0 (parts_of p ds ms))

    -- how many places are taken then
    members_more : get_or bounds (c + 1) 0 ≡ length (flatten (slot_lists (so_far p ds (c + 1))))
    members_more =
        omega (
          arith,
          next,
          g.at,
          ap length slots_more,
          length-append (flatten (slot_lists old)) (slots_in p ds ms),
          length-map (order_of p ds ms) (λ i. get_or ms i 0),
          order_long p ds ms acyclic,
        )

    pub cutting_turn : {k : ℕ} {listed' starts' : List ℕ} {fees' : List ℤ} {sizes' : List ℕ} → k ≡ length (parts_of p ds ms)
        → listed' ≡ overwrite (slots_in p ds ms) (take (length listed - get_or bounds c 0) (drop (get_or bounds c 0) listed))
        → starts' ≡ overwrite (ends_in p ds ms (get_or bounds c 0)) (take (length starts - (count + 1)) (drop (count + 1) starts))
        → fees' ≡ overwrite (fees_in p ds ms) (take (length fees - count) (drop count fees))
        → sizes' ≡ overwrite (sizes_in p ds ms) (take (length sizes - count) (drop count sizes))
        → Cutting p ds bounds listed₀ starts₀ fees₀ sizes₀
        (take (get_or bounds c 0) listed ++ (listed' ++ drop (length listed - get_or bounds c 0) (drop (get_or bounds c 0) listed)))
        (take (count + 1) starts ++ (starts' ++ drop (length starts - (count + 1)) (drop (count + 1) starts)))
        (take count fees ++ (fees' ++ drop (length fees - count) (drop count fees)))
        (take count sizes ++ (sizes' ++ drop (length sizes - count) (drop count sizes))) (count + k) (c + 1)
    cutting_turn n a b d e =
        let first : count + 1 ≡ length (0 ∷ ends_from 0 (map length (slot_lists old))) =
        omega (arith, ends_length 0 (map length (slot_lists old)), length-map (slot_lists old) length, length-map old (λ k. k.slots), g.many) in
        record {
          up = omega arith;
          many = omega (arith, n, g.many, ap length more, length-append old new, numbered_length p ds ms 0 (parts_of p ds ms));
          at = members_more;
          few = omega (arith, next, n, parts_few p ds ms acyclic, g.few);
          slots = written_on (flatten (slot_lists old)) (slots_in p ds ms) listed₀ slots_more g.slots g.at a;
          ends = written_on (0 ∷ ends_from 0 (map length (slot_lists old))) (ends_in p ds ms (get_or bounds c 0)) starts₀ ends_more g.ends first b;
          in_fees = written_on (map fee_in old) (fees_in p ds ms) fees₀ fees_more g.in_fees (g.many ∙ sym (length-map old fee_in)) d;
          in_sizes = written_on (map size_in old) (sizes_in p ds ms) sizes₀ sizes_more g.in_sizes (g.many ∙ sym (length-map old size_in)) e;
        }

-- the feerates of chunks at the start of two rooms
rates_at : (cs : List PoolChunk) (fees₀ : List ℤ) (sizes₀ : List ℕ) (k : ℕ) → k < length cs
    → rate_at (overwrite (map fee_in cs) fees₀) (overwrite (map size_in cs) sizes₀) k ≡ (chunk_at cs k).rate
unfolding rate_at
rates_at cs fees₀ sizes₀ k l =
    ap₂ rate
    (get_or-append (map fee_in cs) _ (pos 0) k (omega (arith, length-map cs fee_in)) ∙ get_d_map fee_in cs k no_chunk (pos 0) l)
    (get_or-append (map size_in cs) _ 0 k (omega (arith, length-map cs size_in)) ∙ get_d_map size_in cs k no_chunk 0 l)

-- all of them
pub cutting_done : {p : Pool} {ds : List ℤ} {bounds listed₀ starts₀ : List ℕ} {fees₀ : List ℤ} {sizes₀ listed starts : List ℕ} {fees : List ℤ}
    {sizes : List ℕ} {count c : ℕ} → Cutting p ds bounds listed₀ starts₀ fees₀ sizes₀ listed starts fees sizes count c → length (clusters p) ≤ c
    → count ≤ slot_count p → AllCut p ds count listed starts fees sizes
unfolding all_chunks
cutting_done {p} {ds} {listed₀ = listed₀} {starts₀ = starts₀} {fees₀ = fees₀} {sizes₀ = sizes₀} {listed = listed} {starts = starts} {c = c} g l few =
    let all : so_far p ds c ≡ all_chunks p ds = ap (chunks_over p ds) (take_all c (clusters p) l) in
    record {
      many = g.many ∙ ap length all;
      few = few;
      rows =
          subst (λ (cs : List PoolChunk). Rows listed starts (slot_lists cs)) all
          (subst₂ (λ (flat starts : List ℕ). Rows flat starts (slot_lists (so_far p ds c))) (sym g.slots) (sym g.ends)
          (rows_of (slot_lists (so_far p ds c)) listed₀ starts₀));
      rates = λ k m.
          ap₂ (λ (fs : List ℤ) (ss : List ℕ). rate_at fs ss k) g.in_fees g.in_sizes
          ∙ rates_at (so_far p ds c) fees₀ sizes₀ k (omega (arith, g.many))
          ∙ ap (λ (cs : List PoolChunk). (chunk_at cs k).rate) all;
    }
