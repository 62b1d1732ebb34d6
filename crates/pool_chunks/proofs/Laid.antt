-- A table and its deltas that are not refused, and the clusters of such a pool as `cut_cluster` takes them. Assumes nothing.
use Prim.Native.Nat.{ℕ, ◌+◌, ◌-◌, ◌≤◌, ◌<◌, ◌^◌}
use native.Mathlib.Numerals.{add-one}
use native.Mathlib.Omega.{arith}
use mathlib.Core.Path.{◌≡◌, refl, sym, ap, ap₂, ◌∙◌}
use mathlib.Core.Bool.{Bool, true, false, not, ◌&&◌, ◌||◌}
use mathlib.Core.List.{List, [], ◌∷◌, map}
use lib.Dec.{eqb}
use lib.ListN.{length, take, drop, get_or}
use lib.IntN.{ℤ, pos}
use borrow.Author.Tests.{eqb-true, not-false}
use Rattle.lists.specs.Lists.{all_of, elem}
use Rattle.lists.proofs.Bools.{clash, cond_second}
use Rattle.lists.proofs.Below.{all_at, none_at}
use Rattle.lists.proofs.Ranges.{count_le}
use Rattle.lists.proofs.Lists.{each_at, elem_at, elem_head, elem_tail}
use Rattle.slotsets.specs.SlotSets.{capacity}
use Rattle.refusals.specs.Refusals.{answer_of, differ}
use Rattle.pool_table.specs.Pool.{Pool, slot_at, slot_count, occupied, entries}
use Rattle.pool_table.specs.Words.{pool_of}
use Rattle.pool_table.specs.Ranges.{entry_in_range}
use Rattle.pool_table.specs.WellFormed.{numbers_in_range, well_formed}
use Rattle.pool_table.proofs.Legal.{few_slots}
use Rattle.pool_links.proofs.Mutual.{occupied_in}
use Rattle.pool_rules.proofs.Sound.{Sound, well_legal, well_sound}
use Rattle.pool_order.specs.Order.{roomy}
use Rattle.pool_order.proofs.Slots.{roomy_next, roomy_both}
use Rattle.pool_members.specs.Members.{members_of, parents_of, clusters}
use Rattle.pool_members.specs.Rows.{Rows}
use Rattle.pool_members.proofs.Rows.{start_within, rows_at, rows_end}
use Rattle.pool_members.proofs.Laid.{six_wide}
use Rattle.pool_members.proofs.Members.{Cluster, clusters_few, clusters_members, clusters_each}
use Rattle.pool_chunks.specs.Sorted.{delta_in_range, bad_delta, delta_refusals}
use Rattle.pool_chunks.specs.Steps.{Payable, Cuttable}
use Rattle.pool_chunks.proofs.Clusters.{cluster_few, cluster_taken, cluster_members, cluster_acyclic}

-- ---- what is not refused

pub record Taken (p : Pool) (ds : List ℤ) : Type 0 where
  pub few : slot_count p ≤ capacity
  pub sound : Sound p
  pub long : length ds ≡ slot_count p
  pub fine : bad_delta p ds ≡ false

module _ (stands : Bool) (t : List ℕ) (ds : List ℤ) (e : answer_of (delta_refusals stands t ds) ≡ 0) where
  pub stood : stands ≡ true
  unfolding delta_refusals answer_of
  stood = not-false stands (cond_second (not stands) e (λ z. omega arith)).0

  pub taken : well_formed t ≡ true → Taken (pool_of t) ds
  unfolding delta_refusals answer_of
  taken well =
      let a = cond_second (not stands) e (λ z. omega arith) in
      let b = cond_second (differ (length ds) (slot_count (pool_of t))) a.1 (λ z. omega arith) in
      let c = cond_second (bad_delta (pool_of t) ds) b.1 (λ z. omega arith) in
      record {
        few = few_slots t (well_legal t well);
        sound = well_sound t well;
        long = eqb-true (length ds) (slot_count (pool_of t)) (not-false (eqb (length ds) (slot_count (pool_of t))) b.0);
        fine = c.0;
      }

pub not_stood : (stands : Bool) (t : List ℕ) (ds : List ℤ) → stands ≡ false → 12 ≡ answer_of (delta_refusals stands t ds)
unfolding delta_refusals answer_of
not_stood stands t ds e = sym (ap (λ (b : Bool). answer_of (delta_refusals b t ds)) e)

-- ---- the rooms

pub one_wide : {n x : ℕ} → n < x → roomy n (x ∷ []) ≡ true
unfolding roomy all_of
one_wide l = roomy_next [] l

pub eight_wide : {n a b c d e f g h : ℕ} → roomy n (a ∷ b ∷ c ∷ d ∷ e ∷ f ∷ g ∷ h ∷ []) ≡ true
    → (n < a) × (n < b) × (n < c) × (n < d) × (n < e) × (n < f) × (n < g) × (n < h)
eight_wide q =
    let u = roomy_both _ q in
    let v = roomy_both _ u.1 in
    let w = six_wide v.1 in
    (u.0, v.0, w.0, w.1, w.2, w.3, w.4, w.5)

module _ {p : Pool} {ds : List ℤ} (h : Taken p ds) where
  pub payable : (s : ℕ) → occupied p s ≡ true → Payable p ds s
  unfolding numbers_in_range bad_delta
  payable s o =
      let l = occupied_in p s o in
      record {
        within = omega (arith, h.long);
        entry = given (occupied p s) (entry_in_range (slot_at p s).entry) o
            (all_at (λ s. not (occupied p s) || entry_in_range (slot_at p s).entry) (slot_count p) 0 h.sound.numbers s (omega arith) (omega arith));
        delta = fine (occupied p s) (delta_in_range (get_or ds s (pos 0))) o
            (none_at (λ s. occupied p s && not (delta_in_range (get_or ds s (pos 0)))) (slot_count p) 0 h.fine s (omega arith) (omega arith));
      }
    where
      given : (b c : Bool) → b ≡ true → (not b || c) ≡ true → c ≡ true
      given true c e q = q
      given false c e q = clash e refl

      fine : (b c : Bool) → b ≡ true → (b && not c) ≡ false → c ≡ true
      fine true c e q = not-false c q
      fine false c e q = clash e refl

  -- ---- a cluster

  map_same : (f g : ℕ → ℕ) (xs : List ℕ) → ((i : ℕ) → elem i xs ≡ true → f i ≡ g i) → map f xs ≡ map g xs
  map_same f g [] e = refl
  map_same f g (x ∷ xs) e = ap₂ ◌∷◌ (e x (elem_head x xs)) (map_same f g xs (λ i m. e i (elem_tail i x xs m)))

  cuttable : {ms ups : List ℕ} (from : ℕ) → Cluster p ms → ((s : ℕ) → occupied p s ≡ true → get_or ups s 0 ≡ parents_of p (members_of p s) s)
      → slot_count p < length ups → from + length ms < 2 ^ 64 → Cuttable p ds ms ups from
  cuttable {ms} {ups} from c parents wide fits =
      record {
        pay = λ i l. payable (get_or ms i 0) (cluster_taken p h.few h.sound c (get_or ms i 0) (elem_at ms i l));
        within = λ i l. omega (arith, wide, occupied_in p (get_or ms i 0) (cluster_taken p h.few h.sound c (get_or ms i 0) (elem_at ms i l)));
        parents = map_same (λ s. get_or ups s 0) (parents_of p ms) ms
            (λ s m.
            parents s (cluster_taken p h.few h.sound c s m)
            ∙ ap (λ (ns : List ℕ). parents_of p ns s) (cluster_members p h.few h.sound c s m));
        few = cluster_few p h.few h.sound c;
        acyclic = cluster_acyclic p h.few h.sound c;
        fits = fits;
      }

  -- ---- the clusters as they are laid out

  entries_few : entries p ≤ slot_count p
  unfolding entries
  entries_few = omega (arith, count_le (occupied p) (slot_count p) 0)

  pub clusters_fit : length (clusters p) ≤ slot_count p
  clusters_fit = omega (arith, clusters_few p h.few h.sound.links, entries_few)

  module _ {members bounds : List ℕ} (rows : Rows members bounds (clusters p)) where
    pub bound_fit : (k : ℕ) → k ≤ length (clusters p) → get_or bounds k 0 ≤ slot_count p
    bound_fit k l = omega (arith, start_within rows k l, rows_end rows, clusters_members p h.few h.sound.links, entries_few)

    -- the members of the c-th
    module _ (c : ℕ) (l : c < length (clusters p)) where
      abbrev pub lent : List ℕ
      lent = take (get_or bounds (c + 1) 0 - get_or bounds c 0) (drop (get_or bounds c 0) members)

      pub lent_is : lent ≡ get_or (clusters p) c []
      lent_is = rw (add-one c) (rows_at rows c l)

      pub next_bound : get_or bounds (c + 1) 0 ≡ get_or bounds c 0 + length lent
      next_bound = rw (add-one c) (rows.next c l) ∙ ap (λ (ms : List ℕ). get_or bounds c 0 + length ms) (sym lent_is)

      pub lent_cluster : Cluster p lent
      lent_cluster = rw lent_is (each_at (Cluster p) (clusters p) [] (clusters_each p h.few h.sound.links) c l)

      pub lent_cuttable : {ups : List ℕ} → ((s : ℕ) → occupied p s ≡ true → get_or ups s 0 ≡ parents_of p (members_of p s) s)
          → slot_count p < length ups → Cuttable p ds lent ups (get_or bounds c 0)
      lent_cuttable parents wide =
          cuttable (get_or bounds c 0) lent_cluster parents wide (omega (arith, next_bound, bound_fit (c + 1) (omega arith), h.few))
