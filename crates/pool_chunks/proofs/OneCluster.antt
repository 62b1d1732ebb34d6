-- One cluster cut: the slices that are gathered and ordered, what the writing of its chunks asks, and what it leaves. Assumes nothing.
use Prim.Native.Nat.{ℕ, ◌+◌, ◌≤◌, ◌<◌, ◌^◌}
use native.Mathlib.Omega.{arith}
use mathlib.Core.Path.{◌≡◌, refl, sym, ap, ap₂, ◌∙◌}
use mathlib.Core.List.{List, [], ◌∷◌, map}
use lib.ListN.{length, take, drop, get_or, set, length-map}
use lib.Seq.{take_at}
use lib.IntN.{ℤ, pos, +ℤ_idl}
use Rattle.lists.specs.Lists.{overwrite}
use Rattle.lists.proofs.Lists.{elem_at}
use Rattle.txset.specs.Sets.{positions}
use Rattle.feefrac.specs.declared.FeeFrac.{FeeFrac}
use Rattle.feefrac.specs.Rate.{sum, rate_at, held_fee}
use Rattle.feefrac.proofs.Signed.{held_in}
use Rattle.feeset.specs.Total.{total_from, total}
use Rattle.chunking.specs.Chunks.{swallow, chunks_after, lengths_of, chunk_lengths}
use Rattle.chunking.specs.Orders.{order_lengths, cut, chunks_of}
use Rattle.linearize.specs.Linearize.{linear_order}
use Rattle.linearize.proofs.Few.{alone_order}
use Rattle.pool_table.specs.Pool.{Pool}
use Rattle.pool_order.proofs.Filling.{filled_start, filled_more}
use Rattle.pool_members.specs.Members.{parents_of}
use Rattle.pool_members.proofs.Only.{get_d_map}
use Rattle.pool_chunks.specs.Chunks.{fee_of, fees_of, size_of, sizes_of, order_of, parts_of}
use Rattle.pool_chunks.specs.Steps.{slot_rate, Answered, ends_from, last_end, fee_sums, size_sums, Cuttable, slots_in, ends_in, fees_in, sizes_in}
use Rattle.pool_chunks.proofs.InRange.{all_inside, pay_fits, pay_size}
use Rattle.pool_chunks.proofs.Writing.{last_sum}
use Rattle.pool_chunks.proofs.Clusters.{order_long, order_below, parts_lengths, parts_together, parts_few}

-- what stands at the start of a room
pub front_is : {A : Type 0} (xs room : List A) {new : List A} {n : ℕ} → new ≡ overwrite xs room → length xs ≡ n → take n new ≡ xs
front_is xs room {new} {n} e l = ap (take n) e ∙ take_at xs (drop (length xs) room) n l

-- how many chunks there are, and what the four rooms have
module _ (p : Pool) (ds : List ℤ) (ms : List ℕ) (from : ℕ) (listed₀ ends₀ : List ℕ) (fees₀ : List ℤ) (sizes₀ : List ℕ) where
  abbrev pub Written : ℕ → List ℕ → List ℕ → List ℤ → List ℕ → Type 0
  Written r listed ends fees sizes =
      (r ≡ length (parts_of p ds ms))
      × ((listed ≡ overwrite (slots_in p ds ms) listed₀)
      × ((ends ≡ overwrite (ends_in p ds ms from) ends₀)
      × ((fees ≡ overwrite (fees_in p ds ms) fees₀) × (sizes ≡ overwrite (sizes_in p ds ms) sizes₀))))

abbrev rate : ℤ → ℕ → FeeFrac
rate f s = record { fee = f; size = s }

module _ {p : Pool} {ds : List ℤ} {ms ups : List ℕ} {from : ℕ} (h : Cuttable p ds ms ups from) where
  -- ---- a member alone

  module _ (one : length ms ≡ 1) where
    alone_is : order_of p ds ms ≡ 0 ∷ []
    unfolding order_of
    alone_is =
        alone_order (fees_of p ds ms) (sizes_of p ms) (map (parents_of p ms) ms) (length-map ms _ ∙ sym (length-map ms _)) (length-map ms _ ∙ one)

    alone_parts : parts_of p ds ms ≡ (0 ∷ []) ∷ []
    unfolding parts_of chunks_of cut chunk_lengths lengths_of chunks_after swallow
    alone_parts = rw alone_is

    -- its feerate sum is its own feerate
    alone_total : total (fees_of p ds ms) (sizes_of p ms) (0 ∷ []) ≡ slot_rate p ds (get_or ms 0 0)
    unfolding total_from sum rate_at
    alone_total =
        let pay = h.pay 0 (omega arith) in
        let fee : get_or (fees_of p ds ms) 0 (pos 0) ≡ fee_of p ds (get_or ms 0 0) = get_d_map (fee_of p ds) ms 0 0 (pos 0) (omega arith) in
        let size : get_or (sizes_of p ms) 0 0 ≡ size_of p (get_or ms 0 0) = get_d_map (size_of p) ms 0 0 0 (omega arith) in
        ap₂ rate
        (ap held_fee (+ℤ_idl (get_or (fees_of p ds ms) 0 (pos 0)) ∙ fee) ∙ held_in (pay_fits pay))
        (omega (arith, size, pay_size pay))

    pub alone_written : (listed₀ ends₀ : List ℕ) (fees₀ : List ℤ) (sizes₀ : List ℕ) {newf : List ℤ} {news : List ℕ} (r : FeeFrac)
        → 1 ≤ length listed₀ → 1 ≤ length ends₀ → 1 ≤ length fees₀ → 1 ≤ length sizes₀ → r ≡ slot_rate p ds (get_or ms 0 0)
        → newf ≡ set fees₀ 0 r.fee → news ≡ set sizes₀ 0 r.size
        → Written p ds ms from listed₀ ends₀ fees₀ sizes₀ 1 (set listed₀ 0 (get_or ms 0 0)) (set ends₀ 0 (from + 1)) newf news
    unfolding ends_from
    alone_written listed₀ ends₀ fees₀ sizes₀ r l m n o e f g =
        let own : r ≡ total (fees_of p ds ms) (sizes_of p ms) (0 ∷ []) = e ∙ sym alone_total in
        rw (alone_is, alone_parts, f, g, own) (
          refl,
          (
            (filled_more (filled_start listed₀) (get_or ms 0 0) l).same,
            (
              (filled_more (filled_start ends₀) (from + 1) m).same,
              ((filled_more (filled_start fees₀) _ n).same, (filled_more (filled_start sizes₀) _ o).same),
            ),
          ),
        )

  -- ---- members that are ordered

  -- what is lent to the call that orders them
  pub answered : {order lens : List ℕ} (fs : List ℤ) (ss ps : List ℕ) → fs ≡ fees_of p ds ms → ss ≡ sizes_of p ms → ps ≡ map (λ s. get_or ups s 0) ms
      → length order ≡ positions → length lens ≡ positions → Answered fs ss ps order lens
  answered fs ss ps e f g n o =
      let is : ps ≡ map (parents_of p ms) ms = g ∙ h.parents in
      rw (e, f, is)
      (record {
        sizes = length-map ms (size_of p) ∙ sym (length-map ms (fee_of p ds));
        parents = length-map ms (parents_of p ms) ∙ sym (length-map ms (fee_of p ds));
        few = omega (arith, length-map ms (fee_of p ds), h.few);
        inside = all_inside ms h.pay;
        acyclic = h.acyclic;
        wide = omega (arith, length-map ms (fee_of p ds), h.few);
        wide_lens = omega (arith, length-map ms (fee_of p ds), h.few);
      })

  -- what is lent to those that write its chunks
  pub record Ordered (fs : List ℤ) (ss order lens : List ℕ) (r : ℕ) : Type 0 where
    pub are_fees : fs ≡ fees_of p ds ms
    pub are_sizes : ss ≡ sizes_of p ms
    pub is_order_lem : order ≡ order_of p ds ms
    pub are_lens : lens ≡ map length (parts_of p ds ms)
    pub many : r ≡ length (parts_of p ds ms)

  pub ordered : (order₀ lens₀ : List ℕ) {new lengths : List ℕ} {r : ℕ} (fs : List ℤ) (ss ps : List ℕ) → fs ≡ fees_of p ds ms → ss ≡ sizes_of p ms
      → ps ≡ map (λ s. get_or ups s 0) ms
      → r ≡ length (order_lengths fs ss (linear_order fs ss ps)) → new ≡ overwrite (linear_order fs ss ps) order₀
      → lengths ≡ overwrite (order_lengths fs ss (linear_order fs ss ps)) lens₀ → Ordered fs ss (take (length ms) new) (take r lengths) r
  unfolding order_of
  ordered order₀ lens₀ fs ss ps e f g many o l =
      let is : linear_order fs ss ps ≡ order_of p ds ms = rw (e, f, g ∙ h.parents) in
      let lens : order_lengths fs ss (linear_order fs ss ps) ≡ map length (parts_of p ds ms) =
      rw (is, e, f) (sym (parts_lengths p ds ms h.acyclic)) in
      record {
        are_fees = e;
        are_sizes = f;
        is_order_lem = front_is (linear_order fs ss ps) order₀ o (ap length is ∙ order_long p ds ms h.acyclic) ∙ is;
        are_lens = front_is (order_lengths fs ss (linear_order fs ss ps)) lens₀ l (sym many) ∙ lens;
        many = many ∙ ap length lens ∙ length-map (parts_of p ds ms) length;
      }

  module _ {fs : List ℤ} {ss order lens : List ℕ} {r : ℕ} (g : Ordered fs ss order lens r) where
    pub ordered_long : length order ≡ length ms
    ordered_long = ap length g.is_order_lem ∙ order_long p ds ms h.acyclic

    pub ordered_many : length lens ≡ r
    ordered_many = ap length g.are_lens ∙ length-map (parts_of p ds ms) length ∙ sym g.many

    pub ordered_few : r ≤ length ms
    ordered_few = omega (arith, g.many, parts_few p ds ms h.acyclic)

    pub ordered_below : (k : ℕ) → k < length order → get_or order k 0 < length ms
    ordered_below k l = order_below p ds ms h.acyclic (get_or order k 0) (rw (sym g.is_order_lem) (elem_at order k l))

    together : (n : ℕ) → last_end n lens ≡ n + length ms
    together n =
        ap (last_end n) g.are_lens
        ∙ last_sum n (map length (parts_of p ds ms))
        ∙ ap (λ (k : ℕ). n + k) (parts_together p ds ms h.acyclic)

    pub ordered_fits : last_end from lens < 2 ^ 64
    ordered_fits = rw (together from) h.fits

    pub ordered_whole : last_end 0 lens ≤ length order
    ordered_whole = omega (arith, together 0, ordered_long)

    cut_is : cut lens order ≡ parts_of p ds ms
    unfolding parts_of chunks_of
    cut_is = ap₂ cut (g.are_lens ∙ parts_lengths p ds ms h.acyclic) g.is_order_lem

    pub ordered_written : (listed₀ ends₀ : List ℕ) (fees₀ : List ℤ) (sizes₀ : List ℕ) {listed ends : List ℕ} {fees : List ℤ} {sizes : List ℕ}
        → listed ≡ overwrite (map (λ i. get_or ms i 0) order) listed₀ → ends ≡ overwrite (ends_from from lens) ends₀
        → fees ≡ overwrite (fee_sums fs ss order lens) fees₀ → sizes ≡ overwrite (size_sums fs ss order lens) sizes₀
        → Written p ds ms from listed₀ ends₀ fees₀ sizes₀ r listed ends fees sizes
    ordered_written listed₀ ends₀ fees₀ sizes₀ e f i j = (
      g.many,
      (
        e ∙ rw g.is_order_lem,
        (f ∙ rw g.are_lens, (i ∙ rw (cut_is, g.are_fees, g.are_sizes), j ∙ rw (cut_is, g.are_fees, g.are_sizes))),
      ),
    )
