-- Laws of the chunks tried one after the other: what stands in the arrays, and what a chunk that is taken or passed over leaves. Assumes
-- nothing.
use mathlib.Core.Path.{◌≡◌, refl, sym, ap, ap₂, ◌∙◌, subst}
use mathlib.Core.Bool.{true, false≢true}
use mathlib.Core.List.{List, [], ◌∷◌, flatten}
use Prim.Native.Nat.{ℕ, suc, ◌+◌, ◌-◌, ◌≤◌, ◌<◌}
use native.Mathlib.Numerals.{add-one}
use native.Mathlib.Omega.{arith}
use lib.ListN.{length, get_or, take, drop, replicate, length-take, length-map, drop_of_length-le}
use lib.Seq.{drop-cons, get_or-take}
use lib.IntN.{ℤ}
use Rattle.lists.specs.Lists.{any_of, elem, distinct}
use Rattle.lists.proofs.Lists.{each_at}
use Rattle.txset.proofs.Words.{has_in_zeros}
use Rattle.feefrac.specs.declared.FeeFrac.{FeeFrac}
use Rattle.feefrac.specs.Rate.{rate_at}
use Rattle.sorting.proofs.Insertion.{length_sort}
use Rattle.slotsets.specs.SlotSets.{capacity}
use Rattle.pool_table.specs.Pool.{Pool, slot_count}
use Rattle.pool_table.specs.WellFormed.{sound}
use Rattle.pool_rules.proofs.Sound.{sound_parts}
use Rattle.pool_members.proofs.Only.{get_d_map}
use Rattle.pool_members.proofs.Rows.{start_within, rows_at, rows_end}
use Rattle.pool_chunks.specs.Chunks.{PoolChunk, all_chunks, tried_first, tried}
use Rattle.pool_chunks.specs.Sorted.{Arrays, Sorted, no_chunk, chunk_at, slot_lists}
use Rattle.pool_chunks.proofs.Theorems.{chunks_elem, chunks_once}
use Rattle.template_rules.specs.declared.Terms.{Terms}
use Rattle.template_rules.specs.declared.Reason.{Reason}
use Rattle.template_rules.specs.Filling.{settings, addition, raw_sum, cost_sum, reasons, outcome, after, fill, template}
use Rattle.template_rules.specs.Filling as rules
use Rattle.template_rules.proofs.Chunks.{tried_held}
use Rattle.template.specs.declared.tests.Used.{Used}
use Rattle.template.specs.declared.tests.Outcome.{Outcome}
use Rattle.template.specs.declared.tests.Outcome.TheVariants.{Taken, Passed}
use Rattle.template.specs.Selecting.{Occupied}
use Rattle.template.specs.Trying.{nothing_used, Stands, chunk_with, told, Tried, Filled}
use Rattle.template.proofs.Collecting.{chosen_few}

-- ---- a chunk in the arrays

-- the number of the k-th that is tried, and its slots
abbrev pub number_at : Arrays → ℕ → ℕ
number_at r k = get_or (take r.count r.order) k 0

abbrev pub slots_at : Arrays → ℕ → List ℕ
slots_at r c = take (get_or r.starts (c + 1) 0 - get_or r.starts c 0) (drop (get_or r.starts c 0) r.listed)

module _ (p : Pool) (ds : List ℤ) {r : Arrays} (s : Sorted p ds r) where
  tried_many : length (tried p ds) ≡ r.count
  unfolding tried
  tried_many = length_sort tried_first (all_chunks p ds) ∙ sym s.count

  -- there is a number for each
  pub numbers_long : r.count ≤ length r.order
  numbers_long =
      omega (
        arith,
        tried_many,
        ap length s.sorted,
        length-map (take r.count r.order) (chunk_at (all_chunks p ds)),
        length-take r.count r.order,
      )

  module _ (k : ℕ) (l : k < r.count) where
    below : number_at r k < length (all_chunks p ds)
    below = omega (arith, s.within k l, s.count, get_or-take r.count r.order k 0 l)

    pub number_few : number_at r k < r.count
    number_few = omega (arith, below, s.count)

    part : number_at r k < length (slot_lists (all_chunks p ds))
    part = omega (arith, below, length-map (all_chunks p ds) (λ c. c.slots))

    -- a chunk's slots stand between two starts
    pub starts_rise : get_or r.starts (number_at r k) 0 ≤ get_or r.starts (number_at r k + 1) 0
    starts_rise = rw (add-one (number_at r k)) (omega (arith, s.rows.next (number_at r k) part))

    pub starts_within : get_or r.starts (number_at r k + 1) 0 ≤ length r.listed
    starts_within = rw (add-one (number_at r k)) (omega (arith, start_within s.rows (suc (number_at r k)) part, s.rows.within))

    -- among no more than the pool has
    pub starts_few : slot_count p ≤ capacity → sound p ≡ true → get_or r.starts (number_at r k + 1) 0 ≤ slot_count p
    starts_few few stands =
        let held = sound_parts p stands in
        let all = flatten (slot_lists (all_chunks p ds)) in
        rw (add-one (number_at r k))
        (omega (
          arith,
          start_within s.rows (suc (number_at r k)) part,
          rows_end s.rows,
          chosen_few p all (chunks_once p few held ds, λ x m. sym (chunks_elem p few held ds x) ∙ m),
        ))

    -- the k-th that is tried
    tried_at : get_or (tried p ds) k no_chunk ≡ chunk_at (all_chunks p ds) (number_at r k)
    tried_at =
        let ks = take r.count r.order in
        ap (λ (cs : List PoolChunk). get_or cs k no_chunk) (sym s.sorted)
        ∙ get_d_map (chunk_at (all_chunks p ds)) ks k 0 no_chunk (omega (arith, numbers_long, length-take r.count r.order))

    slots_are : slots_at r (number_at r k) ≡ (get_or (tried p ds) k no_chunk).slots
    slots_are =
        let c = number_at r k in
        ap (λ (n : ℕ). take (get_or r.starts n 0 - get_or r.starts c 0) (drop (get_or r.starts c 0) r.listed)) (add-one c)
        ∙ rows_at s.rows c part
        ∙ get_d_map (λ (x : PoolChunk). x.slots) (all_chunks p ds) c no_chunk [] below
        ∙ ap (λ (x : PoolChunk). x.slots) (sym tried_at)

    rate_is : rate_at r.fees r.sizes (number_at r k) ≡ (get_or (tried p ds) k no_chunk).rate
    rate_is = s.rates (number_at r k) number_few ∙ ap (λ (x : PoolChunk). x.rate) (sym tried_at)

    pub slots_held : Occupied p (slots_at r (number_at r k))
    slots_held =
        subst (Occupied p) (sym slots_are)
        (each_at (λ (c : PoolChunk). Occupied p c.slots) (tried p ds) no_chunk (tried_held p ds) k (omega (arith, tried_many)))

    tried_next : drop k (tried p ds) ≡ get_or (tried p ds) k no_chunk ∷ drop (k + 1) (tried p ds)
    tried_next =
        drop-cons (tried p ds) k no_chunk (omega (arith, tried_many))
        ∙ ap (λ (n : ℕ). get_or (tried p ds) k no_chunk ∷ drop n (tried p ds)) (sym (add-one k))

    -- the test asks for the slots and the feerate alone, and for no delta
    outcome_at : (marks : List ℕ) (terms : Terms) (out : List ℕ) → outcome p (settings ds marks terms) out (get_or (tried p ds) k no_chunk)
        ≡ outcome p (settings [] marks terms) out (chunk_with (slots_at r (number_at r k)) (rate_at r.fees r.sizes (number_at r k)))
    unfolding outcome reasons
    outcome_at marks terms out =
        ap₂ (λ (ss : List ℕ) (x : FeeFrac). outcome p (settings [] marks terms) out (chunk_with ss x)) (sym slots_are) (sym rate_is)

-- ---- one after the other

-- what is selected, and then the chunks from the k-th on, is the template
pub record Going (p : Pool) (marks : List ℕ) (terms : Terms) (r : Arrays) (k : ℕ) (used : Used) (taken picked : List ℕ) : Type 0 where
  pub held : Stands p (take used.count picked) used taken picked
  pub rest : (ds : List ℤ) → Sorted p ds r
      → fill p (settings ds marks terms) (take used.count picked) (drop k (tried p ds)) ≡ template p (settings ds marks terms)

-- nothing is selected
pub going_start : (p : Pool) (marks : List ℕ) (terms : Terms) (r : Arrays) (picked : List ℕ) → slot_count p < length picked
    → Going p marks terms r 0 nothing_used (replicate 16 0) picked
unfolding distinct elem any_of raw_sum cost_sum template
going_start p marks terms r picked wide =
    record {
      held = record {
        selected = record {
          once = refl;
          held = λ x m. absurd (false≢true m);
          count = refl;
          are = refl;
          member = λ x. has_in_zeros 16 x;
          words = refl;
          wide = wide;
        };
        weight = refl;
        cost = refl;
      };
      rest = λ ds s. refl;
    }

-- a list that stands elsewhere is what stands there
stands_own : {p : Pool} {out : List ℕ} {used : Used} {taken picked : List ℕ} → Stands p out used taken picked
    → Stands p (take used.count picked) used taken picked
stands_own {p} {out} {used} {taken} {picked} h = subst (λ (l : List ℕ). Stands p l used taken picked) (sym h.selected.are) h

module _ {p : Pool} {marks : List ℕ} {terms : Terms} {r : Arrays} {k : ℕ} {used : Used} {taken picked : List ℕ}
    (g : Going p marks terms r k used taken picked)
    (l : k < r.count) where
  abbrev out : List ℕ
  out = take used.count picked

  -- the k-th, by the arrays
  abbrev chunk : FeeFrac → PoolChunk
  chunk rate = chunk_with (slots_at r (number_at r k)) rate

  -- what it leaves goes on with the next
  next : {rate : FeeFrac} → rate ≡ rate_at r.fees r.sizes (number_at r k) → (ds : List ℤ) → Sorted p ds r
      → fill p (settings ds marks terms) (after out (outcome p (settings [] marks terms) out (chunk rate))) (drop (k + 1) (tried p ds))
      ≡ template p (settings ds marks terms)
  unfolding fill
  next e ds s =
      ap (λ (o : rules.Outcome). fill p (settings ds marks terms) (after out o) (drop (k + 1) (tried p ds)))
      (ap (λ (x : FeeFrac). outcome p (settings [] marks terms) out (chunk x)) e ∙ sym (outcome_at p ds s k l marks terms out))
      ∙ ap (fill p (settings ds marks terms) out) (sym (tried_next p ds s k l))
      ∙ g.rest ds s

  module _ {rate : FeeFrac} (e : rate ≡ rate_at r.fees r.sizes (number_at r k)) {answer : Outcome} {taken' picked' : List ℕ}
      (t : Tried p (settings [] marks terms) out (chunk rate) answer taken' picked') where
    -- it is taken
    pub going_taken : {more : Used} → answer ≡ Taken more → Going p marks terms r (k + 1) more taken' picked'
    going_taken {more} q =
        let new = t.stands more q in
        record {
          held = stands_own new;
          rest = λ ds s. ap (λ (o : List ℕ). fill p (settings ds marks terms) o (drop (k + 1) (tried p ds))) new.selected.are ∙ next e ds s;
        }

    -- it is passed over
    pub going_passed : {reason : Reason} → answer ≡ Passed reason → length picked' ≡ length picked → Going p marks terms r (k + 1) used taken picked'
    going_passed {reason} q long =
        let old = g.held in
        let same : take used.count picked' ≡ out = ap (λ (n : ℕ). take n picked') old.selected.count ∙ t.stays in
        let none = ap (λ (a : Outcome). after out (told a (addition p out (slots_at r (number_at r k))))) (sym q) ∙ ap (after out) t.tells in
        record {
          held = subst (λ (o : List ℕ). Stands p o used taken picked') (sym same) (record {
            selected = record {
              once = old.selected.once;
              held = old.selected.held;
              count = old.selected.count;
              are = same;
              member = old.selected.member;
              words = old.selected.words;
              wide = omega (arith, long, old.selected.wide);
            };
            weight = old.weight;
            cost = old.cost;
          });
          rest = λ ds s. ap (λ (o : List ℕ). fill p (settings ds marks terms) o (drop (k + 1) (tried p ds))) (same ∙ none) ∙ next e ds s;
        }

-- no chunk is left
pub going_done : {p : Pool} {marks : List ℕ} {terms : Terms} {r : Arrays} {k : ℕ} {used : Used} {taken picked : List ℕ}
    → Going p marks terms r k used taken picked → r.count ≤ k → (ds : List ℤ) → Sorted p ds r
    → Filled (template p (settings ds marks terms)) picked used.count
unfolding fill
going_done {p} {marks} {terms} {r} {k} {used} {taken} {picked} g l ds s =
    let none : drop k (tried p ds) ≡ [] = drop_of_length-le (tried p ds) {i = k} (omega (arith, tried_many p ds s)) in
    let all : take used.count picked ≡ template p (settings ds marks terms) =
    ap (fill p (settings ds marks terms) (take used.count picked)) (sym none) ∙ g.rest ds s in
    record { count = g.held.selected.count ∙ ap length all; are = all }
