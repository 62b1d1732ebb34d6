-- A pool with one entry: its one chunk, and what is selected with it. Assumes nothing.
use mathlib.Core.Path.{◌≡◌, refl, sym, ap, ap₂, ◌∙◌}
use mathlib.Core.Bool.{true, false, not, false≢true}
use mathlib.Core.List.{List, [], ◌∷◌, map}
use Prim.Native.Nat.{ℕ, ◌+◌, ◌≤◌, ◌<◌, min}
use native.Mathlib.Omega.{arith}
use lib.Dec.{leb}
use lib.ListN.{get_or}
use lib.IntN.{ℤ, pos, negsuc, nat_abs, +ℤ_idl}
use borrow.Author.Tests.{eq-eqb, eqb-true, leb-true, not-true}
use Rattle.lists.specs.Lists.{any_of, all_of, only, elem, distinct}
use Rattle.lists.proofs.Bools.{clash, and_left, and_right}
use Rattle.lists.proofs.Below.{all_at}
use Rattle.lists.proofs.Lists.{elem_one, elem_head, elem_tail}
use Rattle.slotsets.specs.SlotSets.{capacity}
use Rattle.sorting.specs.Sorting.{insert, sorted_by}
use Rattle.feefrac.specs.Rate.{rate_at, sum, held_fee}
use Rattle.feefrac.proofs.Exact.{abs_sum, held_near}
use Rattle.feeset.specs.Total.{total_from}
use Rattle.chunking.specs.Chunks.{swallow, chunks_after, lengths_of, chunk_lengths}
use Rattle.chunking.specs.Orders.{cut, chunks_of}
use Rattle.linearize.proofs.Few.{alone_order}
use Rattle.weights.specs.Weights.{adjusted}
use Rattle.pool_table.specs.Pool.{Pool, slot_at, slot_count, occupied, weight_at}
use Rattle.pool_table.specs.Ranges.{entry_in_range}
use Rattle.pool_table.specs.Links.{in_cluster}
use Rattle.pool_table.specs.WellFormed.{numbers_in_range}
use Rattle.pool_links.proofs.Mutual.{occupied_in}
use Rattle.pool_rules.proofs.Sound.{Sound}
use Rattle.pool_order.specs.Order.{slots_by_txid}
use Rattle.pool_order.proofs.Theorems.{slots_once}
use Rattle.pool_members.proofs.Members.{slots_are}
use Rattle.pool_members.specs.Members.{members_of, lead_of, clusters, parents_of}
use Rattle.pool_chunks.specs.Chunks.{PoolChunk, fee_of, size_of, fees_of, sizes_of, order_of, parts_of, chunk_of, numbered, chunks_over, all_chunks, tried}
use Rattle.pool_chunks.specs.Steps.{slot_rate}
use Rattle.chunk_tests.specs.Tests.{is_negative, is_below}
use Rattle.template_rules.specs.Filling.{Settings, withheld, grown, addition, raw_sum, cost_sum, after, fill, template}
use Rattle.template_rules.proofs.Collect.{Entries, grown_in}
use Rattle.template_rules.proofs.Selected.{selected_none, grown_selected}
use Rattle.template_rules.proofs.Filling.{Passes, passes_taken}
use Rattle.pool_chunks.specs.Sorted.{delta_in_range}

-- a list that has s and nothing else, once
lone : (s : ℕ) (l : List ℕ) → distinct l ≡ true → elem s l ≡ true → ((x : ℕ) → elem x l ≡ true → x ≡ s) → l ≡ s ∷ []
unfolding distinct elem any_of
lone s [] d m e = absurd (false≢true m)
lone s (x ∷ []) d m e = ap (λ (y : ℕ). y ∷ []) (e x (elem_head x []))
lone s (x ∷ y ∷ l) d m e =
    let z : x ≡ y = e x (elem_head x (y ∷ l)) ∙ sym (e y (elem_tail y x (y ∷ l) (elem_head y l))) in
    clash (ap (λ (i : ℕ). elem i (y ∷ l)) z ∙ elem_head y l) (not-true (elem x (y ∷ l)) (and_left (not (elem x (y ∷ l))) (distinct (y ∷ l)) d))

module _ (p : Pool) (s : ℕ) (held : occupied p s ≡ true) (one : (x : ℕ) → occupied p x ≡ true → x ≡ s) where
  -- ---- its one cluster

  slots_one : slots_by_txid p ≡ s ∷ []
  slots_one = lone s (slots_by_txid p) (slots_once p) (slots_are p s ∙ held) (λ x m. one x (sym (slots_are p x) ∙ m))

  members_one : members_of p s ≡ s ∷ []
  unfolding members_of only in_cluster
  members_one = rw (slots_one, eq-eqb s s refl)

  clusters_one : clusters p ≡ (s ∷ []) ∷ []
  unfolding clusters lead_of only
  clusters_one = rw (slots_one, members_one, eq-eqb s s refl) (ap (λ (ms : List ℕ). ms ∷ []) members_one)

  -- ---- its one chunk

  module _ (ds : List ℤ) where
    order_one : order_of p ds (s ∷ []) ≡ 0 ∷ []
    unfolding order_of
    order_one = alone_order (fees_of p ds (s ∷ [])) (sizes_of p (s ∷ [])) (map (parents_of p (s ∷ [])) (s ∷ [])) refl refl

    parts_one : parts_of p ds (s ∷ []) ≡ (0 ∷ []) ∷ []
    unfolding parts_of chunks_of cut chunk_lengths lengths_of chunks_after swallow
    parts_one = rw order_one

    pub tried_one : tried p ds ≡ chunk_of p ds (s ∷ []) 0 (0 ∷ []) ∷ []
    unfolding tried all_chunks chunks_over numbered sorted_by insert
    tried_one = rw (clusters_one, parts_one)

-- ---- its feerate

delta_near : (d : ℤ) → delta_in_range d ≡ true → nat_abs d ≤ 2100000000000000
unfolding delta_in_range
delta_near (pos n) h = leb-true n 2100000000000000 h
delta_near (negsuc n) h = omega (arith, leb-true n 2099999999999999 (and_left (leb n 2099999999999999) true h))

module _ (p : Pool) (h : Sound p) (s : ℕ) (held : occupied p s ≡ true) where
  in_range_lem : entry_in_range (slot_at p s).entry ≡ true
  unfolding numbers_in_range
  in_range_lem =
      let l = occupied_in p s held in
      rw held at (all_at _ (slot_count p) 0 h.numbers s (omega arith) (omega arith))

  size_held : size_of p s ≤ 18446744073709551615
  unfolding size_of adjusted entry_in_range
  size_held =
      let e = (slot_at p s).entry in
      let b = and_right (leb 1 e.weight.0) (leb e.weight.0 4000000) (and_right (leb e.fee 2100000000000000) _ in_range_lem) in
      omega (arith, leb-true e.weight.0 4000000 b)

  module _ (ds : List ℤ) (near : delta_in_range (get_or ds s (pos 0)) ≡ true) where
    fee_near : nat_abs (fee_of p ds s) < 9223372036854775808
    unfolding fee_of entry_in_range
    fee_near =
        let f = (slot_at p s).entry.fee in
        let d = get_or ds s (pos 0) in
        omega (arith, abs_sum (pos f) d, delta_near d near, leb-true f 2100000000000000 (and_left (leb f 2100000000000000) _ in_range_lem))

    -- neither its fee nor its size is held
    pub rate_one : (chunk_of p ds (s ∷ []) 0 (0 ∷ [])).rate ≡ record { fee = fee_of p ds s; size = size_of p s }
    unfolding chunk_of total_from sum rate_at
    rate_one =
        let size : min (0 + size_of p s) 18446744073709551615 ≡ size_of p s = omega (arith, size_held) in
        ap₂ (λ (f : ℤ) (n : ℕ). record { fee = f; size = n })
        (ap held_fee (+ℤ_idl (fee_of p ds s)) ∙ held_near (fee_of p ds s) fee_near)
        size

-- ---- the template

-- what an entry by itself is asked for
pub record Fits (p : Pool) (w : Settings) (s : ℕ) : Type 0 where
  pub delta : delta_in_range (get_or w.deltas s (pos 0)) ≡ true
  pub fee : is_negative (slot_rate p w.deltas s) ≡ false
  pub minimum : is_below w.terms.minimum (slot_rate p w.deltas s) ≡ false
  pub mark : withheld w.marks s ≡ false
  pub weight : weight_at p s ≤ w.terms.budget.0
  pub cost : (slot_at p s).entry.cost + w.terms.reserve ≤ 80000

module _
    (p : Pool) (h : Sound p) (few : slot_count p ≤ capacity) (w : Settings)
    (s : ℕ) (held : occupied p s ≡ true) (one : (x : ℕ) → occupied p x ≡ true → x ≡ s) (fits : Fits p w s) where
  c : PoolChunk
  c = chunk_of p w.deltas (s ∷ []) 0 (0 ∷ [])

  itself : Entries p (s ∷ [])
  itself x m = let e : x ≡ s = eqb-true x s (sym (elem_one x s) ∙ m) in rw e held

  added_one : addition p [] (s ∷ []) ≡ s ∷ []
  unfolding addition
  added_one =
      let q = grown_selected p h few [] (s ∷ []) itself (selected_none p) in
      lone s (grown p [] (s ∷ [])) q.once (grown_in p [] (s ∷ []) itself s (elem_head s [])) (λ x m. one x (q.held x m))

  passes : Passes p w [] c
  unfolding c chunk_of any_of all_of elem raw_sum cost_sum
  passes =
      let rate = rate_one p h s held w.deltas fits.delta in
      record {
        fee = ap is_negative rate ∙ fits.fee;
        minimum = ap (is_below w.terms.minimum) rate ∙ fits.minimum;
        members = rw fits.mark;
        unselected = refl;
        brought = rw (added_one, fits.mark);
        budget = rw added_one (omega (arith, fits.weight));
        sigops = rw added_one (omega (arith, fits.cost));
      }

  pub one_template : template p w ≡ s ∷ []
  unfolding template fill c chunk_of
  one_template = ap (fill p w []) (tried_one p s held one w.deltas) ∙ ap (after []) (passes_taken p w [] c passes) ∙ added_one
