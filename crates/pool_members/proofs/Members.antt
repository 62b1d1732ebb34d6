-- The members of a sound pool's clusters: who they are, how many, which of them are parents as positions, and that the clusters of a pool
-- have each occupied slot once. Assumes nothing.
use mathlib.Core.Path.{◌≡◌, refl, sym, ap, ap₂, ◌∙◌}
use mathlib.Core.Bool.{Bool, true, false, not, ◌&&◌, ◌||◌, and-false}
use mathlib.Core.Logic.{⊎_elim}
use mathlib.Core.List.{List, [], ◌∷◌, map, flatten}
use Prim.Native.Nat.{ℕ, ◌≤◌, ◌<◌, ◌^◌}
use native.Mathlib.Nat.{zero-add}
use native.Mathlib.Omega.{arith}
use lib.Dec.{eqb, ltb, leb}
use lib.ListN.{length, get_or, length-map}
use borrow.Author.Tests.{lt-ltb, le-ltb, leb-true, eq-eqb, eqb-true, not-true}
use Rattle.lists.specs.Lists.{only, elem, distinct}
use Rattle.lists.proofs.Bools.{clash, and_both, and_right, asked, is_false, true_together}
use Rattle.lists.proofs.Numbers.{lt_or_ge}
use Rattle.lists.proofs.Below.{all_at, count_ext}
use Rattle.lists.proofs.Ranges.{list_below}
use Rattle.lists.proofs.Lists.{Each, elem_head, elem_tail}
use Rattle.txset.specs.Sets.{positions, mem, members, set_at}
use Rattle.txset.proofs.Words.{has_in_low}
use Rattle.txset.proofs.Sets.{mem_past, at_past}
use Rattle.slotsets.specs.SlotSets.{capacity, word_of}
use Rattle.slotsets.proofs.SlotSets.{has_word, word_fits}
use Rattle.ways.specs.Ways.{Way, step, further, is_cyclic, Bounded}
use Rattle.ways.proofs.Cycles.{no_way}
use Rattle.depgraph.specs.Graph as graph
use Rattle.depgraph.proofs.Theorems.{cyclic_is}
use Rattle.pool_table.specs.Pool.{Pool, slot_count, is_occupied, occupied, entries}
use Rattle.pool_table.specs.Ranges.{limits_in_range}
use Rattle.pool_table.specs.Links.{is_parent, itself, in_cluster, count_of}
use Rattle.pool_table.specs.WellFormed.{links_mutual, acyclic, is_within, clusters_within}
use Rattle.pool_table.proofs.Rows.{slot_past}
use Rattle.pool_links.proofs.Mutual.{parent_parts, occupied_in}
use Rattle.pool_rules.proofs.Sound.{Sound}
use Rattle.pool_order.specs.Order.{slots_by_txid}
use Rattle.pool_order.proofs.Slots.{sorted_many}
use Rattle.pool_order.proofs.Theorems.{slots_elem, slots_past, slots_once}
use Rattle.pool_clusters.proofs.Theorems.{together_cluster, parent_cluster, cluster_same, cluster_occupied}
use Rattle.pool_members.specs.Members.{members_of, parents_of, lead_of, clusters}
use Rattle.pool_members.proofs.Only.{elem_only, distinct_only, only_ext, only_within, length_only, only_places, get_d_map, place_of, first_elem}
use Rattle.pool_members.proofs.Only.{first_same, once_count, in_flatten, flatten_in, distinct_flatten}

-- ---- who they are, in any pool

module _ (p : Pool) where
  -- the slots by txid are the occupied ones
  pub slots_are : (s : ℕ) → elem s (slots_by_txid p) ≡ occupied p s
  unfolding is_occupied
  slots_are s =
      ⊎_elim (slots_elem p s) (λ (l : slot_count p ≤ s). slots_past p s l ∙ sym (ap is_occupied (slot_past p s l))) (lt_or_ge s (slot_count p))

  pub member_is : (s x : ℕ) → elem x (members_of p s) ≡ (occupied p x && in_cluster p s x)
  unfolding members_of
  member_is s x = elem_only (in_cluster p s) (slots_by_txid p) x ∙ ap (λ (b : Bool). b && in_cluster p s x) (slots_are x)

  pub members_once : (s : ℕ) → distinct (members_of p s) ≡ true
  unfolding members_of
  members_once s = distinct_only (in_cluster p s) (slots_by_txid p) (slots_once p)

  -- a member's parts
  pub member_parts : (s x : ℕ) → elem x (members_of p s) ≡ true → (occupied p x ≡ true) × (in_cluster p s x ≡ true)
  member_parts s x m = and_both (occupied p x) (in_cluster p s x) (sym (member_is s x) ∙ m)

-- ---- parents as positions, in any list of members

module _ (p : Pool) (ms : List ℕ) (few : length ms ≤ positions) (s : ℕ) where
  pub parent_has : (j : ℕ) → mem (record { word = parents_of p ms s }) j ≡ (ltb j (length ms) && is_parent p s (get_or ms j 0))
  unfolding parents_of mem
  parent_has j =
      let f : ℕ → Bool = λ j. ltb j (length ms) && is_parent p s (get_or ms j 0) in
      ⊎_elim
      (λ (l : j < positions). has_in_low (word_of f positions 0) [] j l ∙ has_word f positions 0 j l ∙ ap f (zero-add j))
      (λ (l : positions ≤ j).
      mem_past (record { word = word_of f positions 0 }) j l
      ∙ sym (ap (λ (b : Bool). b && is_parent p s (get_or ms j 0)) (le-ltb j (length ms) (omega arith))))
      (lt_or_ge j positions)

  -- the slots at these positions, upwards
  pub parents_only : map (λ j. get_or ms j 0) (members (record { word = parents_of p ms s })) ≡ only (is_parent p s) ms
  unfolding members
  parents_only =
      ap (map (λ j. get_or ms j 0))
      (list_below (mem (record { word = parents_of p ms s })) (λ j. is_parent p s (get_or ms j 0)) (length ms) positions few parent_has)
      ∙ only_places (is_parent p s) ms

pub parents_fit : (p : Pool) (ms : List ℕ) (s : ℕ) → parents_of p ms s < 2 ^ positions
unfolding parents_of
parents_fit p ms s = word_fits (λ j. ltb j (length ms) && is_parent p s (get_or ms j 0)) positions 0

-- ---- where links are mutual, and no chain of parents closes on itself

-- chains of parents stay in the pool, and none closes on itself
pub parents_bounded : (p : Pool) → Bounded (is_parent p) (slot_count p)
parents_bounded p = record { from = λ i a e. (parent_parts p i a e).0; to = λ i a e. (parent_parts p i a e).1 }

pub no_cycle : (p : Pool) → Sound p → is_cyclic (is_parent p) (slot_count p) ≡ false
unfolding acyclic
no_cycle p sound = not-true (is_cyclic (is_parent p) (slot_count p)) sound.acyclic

pub no_own_parent : (p : Pool) → Sound p → (x : ℕ) → is_parent p x x ≡ false
no_own_parent p sound x = is_false (is_parent p x x) (λ e. absurd (no_way (parents_bounded p) (no_cycle p sound) (step e)))

-- a relation carried to other numbers carries its ways
way_carried : {r q : ℕ → ℕ → Bool} (f : ℕ → ℕ) → ((i a : ℕ) → r i a ≡ true → q (f i) (f a) ≡ true) → {i a : ℕ} → Way r i a → Way q (f i) (f a)
way_carried f h {i} {a} (step e) = step (h i a e)
way_carried f h {i} (further {p = b} e u) = further (h i b e) (way_carried f h u)

-- a cluster of a pool: the members of an occupied slot's cluster, of which it is the first
pub record Cluster (p : Pool) (ms : List ℕ) : Type 0 where
  pub lead : ℕ
  pub taken : occupied p lead ≡ true
  pub first : get_or ms 0 0 ≡ lead
  pub are : ms ≡ members_of p lead

abbrev leads : Pool → List ℕ
leads p = only (λ s. eqb s (lead_of p s)) (slots_by_txid p)

module _ (p : Pool) (few : slot_count p ≤ capacity) (links : links_mutual p ≡ true) where
  -- two slots of one cluster have the same members
  pub members_same : (s x : ℕ) → in_cluster p s x ≡ true → members_of p x ≡ members_of p s
  unfolding members_of
  members_same s x h =
      only_ext (in_cluster p x) (in_cluster p s) (slots_by_txid p) (λ i _. sym (cluster_same p few links s x h i))

  module _ (s : ℕ) (taken : occupied p s ≡ true) where
    pub own_member : elem s (members_of p s) ≡ true
    own_member = member_is p s s ∙ ap₂ ◌&&◌ taken (together_cluster p itself)

    pub members_count : length (members_of p s) ≡ count_of p (in_cluster p s)
    unfolding count_of
    members_count =
        once_count (slot_count p) (members_of p s)
        (record { below = λ i m. occupied_in p i (member_parts p s i m).0; once = members_once p s })
        ∙ count_ext (λ i. elem i (members_of p s)) (in_cluster p s) (slot_count p) 0
        (λ i _ _. member_is p s i ∙ asked (occupied p i) (in_cluster p s i) (cluster_occupied p few links s i taken))

    -- within the limits they are no more than a set of positions can hold
    pub within_few : limits_in_range p.limits ≡ true → is_within p (in_cluster p s) ≡ true → length (members_of p s) ≤ positions
    unfolding limits_in_range is_within
    within_few ranges within =
        let l = (and_both _ _ ranges).0 in
        let m = leb-true p.limits.count 64 (and_both (leb 1 p.limits.count) (leb p.limits.count 64) l).1 in
        let k = (and_both (leb (count_of p (in_cluster p s)) p.limits.count) _ within).0 in
        omega (arith, members_count, leb-true (count_of p (in_cluster p s)) p.limits.count k)

  -- ---- the clusters of the pool

  pub lead_member : (s : ℕ) → occupied p s ≡ true → elem (lead_of p s) (members_of p s) ≡ true
  unfolding lead_of
  lead_member s o = first_elem (members_of p s) s (own_member s o)

  -- the slots of a cluster have one lead
  pub lead_same : (s x : ℕ) → occupied p s ≡ true → in_cluster p s x ≡ true → lead_of p x ≡ lead_of p s
  unfolding lead_of
  lead_same s x o h =
      ap (λ (ms : List ℕ). get_or ms 0 x) (members_same s x h) ∙ first_same (members_of p s) s x s (own_member s o)

  lead_parts : (l : ℕ) → elem l (leads p) ≡ true → (occupied p l ≡ true) × (l ≡ lead_of p l)
  lead_parts l m =
      let b = and_both (elem l (slots_by_txid p)) (eqb l (lead_of p l)) (sym (elem_only (λ s. eqb s (lead_of p s)) (slots_by_txid p) l) ∙ m) in
      (sym (slots_are p l) ∙ b.0, eqb-true l (lead_of p l) b.1)

  lead_listed : (s : ℕ) → occupied p s ≡ true → elem (lead_of p s) (leads p) ≡ true
  lead_listed s o =
      let m = member_parts p s (lead_of p s) (lead_member s o) in
      elem_only (λ s. eqb s (lead_of p s)) (slots_by_txid p) (lead_of p s)
      ∙ ap₂ ◌&&◌ (slots_are p (lead_of p s) ∙ m.0) (eq-eqb (lead_of p s) (lead_of p (lead_of p s)) (sym (lead_same s (lead_of p s) o m.1)))

  -- a member tells the lead of its cluster
  lead_told : (l x : ℕ) → elem l (leads p) ≡ true → elem x (members_of p l) ≡ true → lead_of p x ≡ l
  lead_told l x m e = let u = lead_parts l m in lead_same l x u.0 (member_parts p l x e).1 ∙ sym u.1

  -- together they have each occupied slot, and no other
  pub clusters_elem : (x : ℕ) → elem x (flatten (clusters p)) ≡ occupied p x
  unfolding clusters
  clusters_elem x =
      true_together (elem x (flatten (map (members_of p) (leads p)))) (occupied p x)
      (λ e. let u = in_flatten (members_of p) (leads p) x e in (member_parts p u.of x u.here).0)
      (λ o.
      flatten_in (members_of p) (leads p) x (lead_of p x) (lead_listed x o)
      (ap (elem x) (members_same x (lead_of p x) (member_parts p x (lead_of p x) (lead_member x o)).1) ∙ own_member x o))

  -- once
  pub clusters_once : distinct (flatten (clusters p)) ≡ true
  unfolding clusters
  clusters_once =
      distinct_flatten (members_of p) (lead_of p) (leads p) (distinct_only (λ s. eqb s (lead_of p s)) (slots_by_txid p) (slots_once p))
      (λ l _. members_once p l) lead_told

  -- so as many members as entries
  pub clusters_members : length (flatten (clusters p)) ≡ entries p
  unfolding entries
  clusters_members =
      once_count (slot_count p) (flatten (clusters p))
      (record { below = λ i m. occupied_in p i (sym (clusters_elem i) ∙ m); once = clusters_once })
      ∙ count_ext (λ i. elem i (flatten (clusters p))) (occupied p) (slot_count p) 0 (λ i _ _. clusters_elem i)

  pub clusters_few : length (clusters p) ≤ entries p
  unfolding clusters
  clusters_few = omega (arith, length-map (leads p) (members_of p), length_only (λ s. eqb s (lead_of p s)) (slots_by_txid p), sorted_many p)

  lead_first : (l : ℕ) → elem l (leads p) ≡ true → get_or (members_of p l) 0 0 ≡ l
  unfolding lead_of
  lead_first l m = let u = lead_parts l m in first_same (members_of p l) l 0 l (own_member l u.0) ∙ sym u.1

  each_lead : (ls : List ℕ) → ((l : ℕ) → elem l ls ≡ true → elem l (leads p) ≡ true) → Each (Cluster p) (map (members_of p) ls)
  unfolding Each
  each_lead [] h = tt
  each_lead (l ∷ ls) h =
      let m = h l (elem_head l ls) in
      (record { lead = l; taken = (lead_parts l m).0; first = lead_first l m; are = refl }, each_lead ls (λ k m. h k (elem_tail k l ls m)))

  heads : (ls : List ℕ) → ((l : ℕ) → elem l ls ≡ true → elem l (leads p) ≡ true) → map (λ ms. get_or ms 0 0) (map (members_of p) ls) ≡ ls
  heads [] h = refl
  heads (l ∷ ls) h = ap₂ ◌∷◌ (lead_first l (h l (elem_head l ls))) (heads ls (λ k m. h k (elem_tail k l ls m)))

  -- each is a cluster, by the slot with its least txid
  pub clusters_each : Each (Cluster p) (clusters p)
  unfolding clusters
  clusters_each = each_lead (leads p) (λ l m. m)

  -- and the cluster of an occupied slot is one of them
  pub cluster_listed : (s : ℕ) → occupied p s ≡ true → (k : ℕ) × (k < length (clusters p)) × (get_or (clusters p) k [] ≡ members_of p s)
  unfolding clusters
  cluster_listed s o =
      let u = place_of (leads p) (lead_of p s) (lead_listed s o) in
      let at : get_or (map (members_of p) (leads p)) u.0 [] ≡ members_of p (lead_of p s) =
      get_d_map (members_of p) (leads p) u.0 0 [] u.1 ∙ ap (members_of p) u.2 in
      let back = members_same s (lead_of p s) (member_parts p s (lead_of p s) (lead_member s o)).1 in
      (u.0, (omega (arith, u.1, length-map (leads p) (members_of p))), at ∙ back)

  -- the least txids are those of different slots
  pub clusters_heads : map (λ ms. get_or ms 0 0) (clusters p) ≡ only (λ s. eqb s (lead_of p s)) (slots_by_txid p)
  unfolding clusters
  clusters_heads = heads (leads p) (λ l m. m)

  pub heads_once : distinct (map (λ ms. get_or ms 0 0) (clusters p)) ≡ true
  heads_once = ap distinct clusters_heads ∙ distinct_only (λ s. eqb s (lead_of p s)) (slots_by_txid p) (slots_once p)

-- ---- in a sound pool

module _ (p : Pool) (few : slot_count p ≤ capacity) (sound : Sound p) (s : ℕ) (taken : occupied p s ≡ true) where
  pub members_few : length (members_of p s) ≤ positions
  unfolding clusters_within
  members_few =
      let f : ℕ → Bool = λ s. not (occupied p s) || is_within p (in_cluster p s) in
      let w = all_at f (slot_count p) 0 sound.within s (omega arith) (omega (arith, occupied_in p s taken)) in
      within_few p few sound.links s taken sound.limits (given (occupied p s) (is_within p (in_cluster p s)) taken w)
    where
      given : (b c : Bool) → b ≡ true → (not b || c) ≡ true → c ≡ true
      given true c e h = h
      given false c e h = clash e refl

  -- the parents of a member, as positions upwards, are its parents by txid
  pub parents_by_txid_lem : (x : ℕ) → elem x (members_of p s) ≡ true
      → map (λ j. get_or (members_of p s) j 0) (members (record { word = parents_of p (members_of p s) x })) ≡ only (is_parent p x) (slots_by_txid p)
  unfolding members_of
  parents_by_txid_lem x m =
      parents_only p (members_of p s) members_few x
      ∙ only_within (is_parent p x) (in_cluster p s) (slots_by_txid p)
      (λ i e. cluster_same p few sound.links s x (member_parts p s x m).1 i ∙ parent_cluster p x i e)

  -- parents by position, as module 3 reads them: no slot is its own parent
  pub position_parent : (i j : ℕ) → graph.is_parent (map (parents_of p (members_of p s)) (members_of p s)) i j
      ≡ ((ltb i (length (members_of p s)) && ltb j (length (members_of p s))) && is_parent p (get_or (members_of p s) i 0) (get_or (members_of p s) j 0))
  unfolding graph.is_parent set_at
  position_parent i j =
      let ms = members_of p s in
      let ps = map (parents_of p ms) ms in
      let x = get_or ms i 0 in
      let y = get_or ms j 0 in
      ⊎_elim
      (λ (l : i < length ms).
      ap₂ (λ (n w : ℕ). (ltb j n && not (eqb j i)) && mem (record { word = w }) j)
      (length-map ms (parents_of p ms)) (get_d_map (parents_of p ms) ms i 0 0 l)
      ∙ ap (λ (b : Bool). (ltb j (length ms) && not (eqb j i)) && b) (parent_has p ms members_few x j)
      ∙ twice (ltb j (length ms)) (eqb j i) (is_parent p x y)
      (λ e. ap (λ (k : ℕ). is_parent p x (get_or ms k 0)) (eqb-true j i e) ∙ no_own_parent p sound x)
      ∙ ap (λ (b : Bool). (b && ltb j (length ms)) && is_parent p x y) (sym (lt-ltb i (length ms) l)))
      (λ (l : length ms ≤ i).
      ap (λ (b : Bool). (ltb j (length ps) && not (eqb j i)) && b) (at_past ps i j (omega (arith, length-map ms (parents_of p ms))))
      ∙ and-false (ltb j (length ps) && not (eqb j i))
      ∙ ap (λ (b : Bool). (b && ltb j (length ms)) && is_parent p x y) (sym (le-ltb i (length ms) l)))
      (lt_or_ge i (length ms))
    where
      twice : (a b c : Bool) → (b ≡ true → c ≡ false) → ((a && not b) && (a && c)) ≡ (a && c)
      twice true true c h = sym (h refl)
      twice true false c h = refl
      twice false b c h = refl

  pub position_acyclic : graph.is_cyclic (map (parents_of p (members_of p s)) (members_of p s)) ≡ false
  position_acyclic =
      let ms = members_of p s in
      let ps = map (parents_of p ms) ms in
      is_false (graph.is_cyclic ps) (λ e.
      absurd
      (no_way (parents_bounded p) (no_cycle p sound)
      (way_carried (λ i. get_or ms i 0)
      (λ i a h. and_right (ltb i (length ms) && ltb a (length ms)) _ (sym (position_parent i a) ∙ h))
      (cyclic_is ps e).2)))
