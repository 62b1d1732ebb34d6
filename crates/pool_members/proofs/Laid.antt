-- What the steps of laying out give in a well-formed table: the slots of a cluster's ranks are its members by txid, and the places of a
-- member's parents are the word of its parents. Assumes nothing.
use mathlib.Core.Path.{◌≡◌, sym, ap, ◌∙◌}
use mathlib.Core.Bool.{Bool, true, false, ◌&&◌}
use mathlib.Core.Logic.{⊎_elim}
use mathlib.Core.List.{List, [], ◌∷◌, ◌++◌, map}
use Prim.Native.Nat.{ℕ, ◌≤◌, ◌<◌, ◌^◌}
use native.Mathlib.Omega.{arith}
use lib.Dec.{eqb, ltb}
use lib.ListN.{length, get_or, take, drop}
use lib.Seq.{take_at}
use borrow.Author.Tests.{lt-ltb, ltb-true, eqb-true}
use Rattle.lists.specs.Lists.{elem, overwrite}
use Rattle.lists.proofs.Bools.{clash, and_left, and_both, asked, true_together}
use Rattle.lists.proofs.Numbers.{lt_or_ge}
use Rattle.lists.proofs.Ranges.{list_below}
use Rattle.lists.proofs.Lists.{each_at, elem_at}
use Rattle.txset.specs.declared.TxSet.{TxSet}
use Rattle.txset.specs.Sets.{mem, is_position, has_in, positions}
use Rattle.txset.proofs.Theorems.{set_ext}
use Rattle.slotsets.specs.SlotSets.{capacity}
use Rattle.slotsets.proofs.SlotSets.{none_has}
use Rattle.pool_table.specs.declared.Side.TheVariants.{Parents}
use Rattle.pool_table.specs.Pool.{Slot, slot_at, slot_count, occupied}
use Rattle.pool_table.specs.Words.{pool_of}
use Rattle.pool_table.specs.Links.{has_links, is_parent, in_cluster}
use Rattle.pool_table.specs.WellFormed.{well_formed}
use Rattle.pool_table.proofs.Legal.{few_slots}
use Rattle.pool_table.proofs.Rows.{slot_past}
use Rattle.pool_links.proofs.Mutual.{parent_parts, is_parent_lem, occupied_in, named_in}
use Rattle.pool_order.specs.Order.{slots_by_txid, roomy, stands_in}
use Rattle.pool_order.specs.Packed.{unpacked, Standing}
use Rattle.pool_order.proofs.Slots.{entries_within, sorted_many, sorted_below, count_within, order_written, roomy_append, roomy_both}
use Rattle.pool_order.proofs.Theorems.{slots_once}
use Rattle.pool_clusters.proofs.Limits.{lone_cluster}
use Rattle.pool_clusters.proofs.Theorems.{cluster_occupied}
use Rattle.pool_check.specs.Linked.{Linked}
use Rattle.pool_members.specs.Members.{members_of, parents_of}
use Rattle.pool_members.specs.Steps.{Ranked, is_rank, chosen_of, Closed}
use Rattle.pool_members.proofs.Only.{only_places, only_one, place_of}
use Rattle.pool_members.proofs.Members.{slots_are, own_member, parent_has, parents_fit}
use Rattle.pool_members.proofs.Ranks.{ranks_are}

-- ---- the rooms, and whether the table stands

pub six_wide : {n a b c d e f : ℕ} → roomy n (a ∷ b ∷ c ∷ d ∷ e ∷ f ∷ []) ≡ true → (n < a) × (n < b) × (n < c) × (n < d) × (n < e) × (n < f)
six_wide h =
    let u = roomy_both _ h in
    let v = roomy_both _ u.1 in
    let w = roomy_both _ v.1 in
    let x = roomy_both _ w.1 in
    let y = roomy_both _ x.1 in
    let z = roomy_both _ y.1 in
    (u.0, v.0, w.0, x.0, y.0, z.0)

module _ (t xs ys : List ℕ) where
  rooms_apart : stands_in t (xs ++ ys) ≡ ((roomy (slot_count (pool_of t)) xs && roomy (slot_count (pool_of t)) ys) && well_formed t)
  unfolding stands_in
  rooms_apart = ap (λ (b : Bool). b && well_formed t) (roomy_append (slot_count (pool_of t)) xs ys)

  pub stands_short : roomy (slot_count (pool_of t)) xs ≡ false → false ≡ stands_in t (xs ++ ys)
  stands_short e = sym (rooms_apart ∙ ap (λ (b : Bool). (b && roomy (slot_count (pool_of t)) ys) && well_formed t) e)

  pub stands_rest : roomy (slot_count (pool_of t)) xs ≡ true → stands_in t (xs ++ ys) ≡ stands_in t ys
  unfolding stands_in
  stands_rest e = rooms_apart ∙ ap (λ (b : Bool). (b && roomy (slot_count (pool_of t)) ys) && well_formed t) e

pub stands_both : (t rooms : List ℕ) → stands_in t rooms ≡ true → (roomy (slot_count (pool_of t)) rooms ≡ true) × (well_formed t ≡ true)
unfolding stands_in
stands_both t rooms e = and_both (roomy (slot_count (pool_of t)) rooms) (well_formed t) e

module _ (t : List ℕ) (linked : Linked t) where
  pub few : slot_count (pool_of t) ≤ capacity
  few = few_slots t linked.legal

  -- ---- members

  pub slots_few : length (slots_by_txid (pool_of t)) ≤ capacity
  slots_few = count_within t linked.legal (sorted_many (pool_of t))

  pub slots_below : (k : ℕ) → k < length (slots_by_txid (pool_of t)) → get_or (slots_by_txid (pool_of t)) k 0 < capacity
  slots_below k l = each_at (λ s. s < capacity) (slots_by_txid (pool_of t)) 0 (sorted_below (pool_of t) few) k l

  pub slots_in : (k : ℕ) → k < length (slots_by_txid (pool_of t)) → get_or (slots_by_txid (pool_of t)) k 0 < slot_count (pool_of t)
  slots_in k l =
      let xs = slots_by_txid (pool_of t) in
      occupied_in (pool_of t) (get_or xs k 0) (sym (slots_are (pool_of t) (get_or xs k 0)) ∙ elem_at xs k l)

  -- the slots that were packed by txid, and the order that they were unpacked to
  module _ {n : ℕ} {old keys : List ℕ} (packed : Standing (pool_of t) n old keys) where
    pub order_many : n ≡ length (slots_by_txid (pool_of t))
    order_many = packed.many ∙ sym (sorted_many (pool_of t))

    pub order_fits : n ≤ slot_count (pool_of t)
    order_fits = omega (arith, packed.many, entries_within (pool_of t))

    pub order_is : (order : List ℕ) {new : List ℕ} → new ≡ overwrite (map unpacked (take n keys)) order → take n new ≡ slots_by_txid (pool_of t)
    order_is order e =
        let xs = slots_by_txid (pool_of t) in
        ap (take n) (e ∙ order_written t keys old linked.legal packed.many order packed.are)
        ∙ take_at xs (drop (length xs) order) n (sym order_many)

  module _
      (s : ℕ)
      (taken : occupied (pool_of t) s ≡ true)
      (set : List ℕ)
      (found : (i : ℕ) → has_in set i ≡ in_cluster (pool_of t) s i) where
    found_taken : (i : ℕ) → in_cluster (pool_of t) s i ≡ true → occupied (pool_of t) i ≡ true
    found_taken i e = cluster_occupied (pool_of t) few linked.links s i taken e

    pub found_all : (i : ℕ) → (ltb i capacity && has_in set i) ≡ in_cluster (pool_of t) s i
    found_all i =
        ap (λ (b : Bool). ltb i capacity && b) (found i)
        ∙ asked (ltb i capacity) (in_cluster (pool_of t) s i) (λ e. lt-ltb i capacity (omega (arith, occupied_in (pool_of t) i (found_taken i e), few)))

    -- each of them is one of the slots
    pub found_in : (i : ℕ) → has_in set i ≡ true → i < slot_count (pool_of t)
    found_in i e = occupied_in (pool_of t) i (found_taken i (sym (found i) ∙ e))

    module _
        (ranks among : List ℕ)
        (ranked : Ranked (slots_by_txid (pool_of t)) ranks)
        (told : (r : ℕ) → has_in among r ≡ (ltb r capacity && is_rank ranks (has_in set) r)) where
      among_is : (r : ℕ) → has_in among r ≡ (ltb r (length (slots_by_txid (pool_of t))) && in_cluster (pool_of t) s (get_or (slots_by_txid (pool_of t)) r 0))
      among_is r =
          let p = pool_of t in
          let xs = slots_by_txid p in
          told r
          ∙ ap (λ (b : Bool). ltb r capacity && b)
          (ranks_are xs ranks (has_in set) ranked slots_below (λ i e. slots_are p i ∙ found_taken i (sym (found i) ∙ e)) r
          ∙ ap (λ (b : Bool). ltb r (length xs) && b) (found (get_or xs r 0)))
          ∙ asked (ltb r capacity) (ltb r (length xs) && in_cluster p s (get_or xs r 0))
          (λ e. lt-ltb r capacity (omega (arith, slots_few, ltb-true r (length xs) (and_left (ltb r (length xs)) _ e))))

      pub among_below : (r : ℕ) → has_in among r ≡ true → r < length (slots_by_txid (pool_of t))
      among_below r e = ltb-true r (length (slots_by_txid (pool_of t))) (and_left (ltb r (length (slots_by_txid (pool_of t)))) _ (sym (among_is r) ∙ e))

      pub chosen_members : chosen_of (slots_by_txid (pool_of t)) among ≡ members_of (pool_of t) s
      unfolding chosen_of members_of
      chosen_members =
          let p = pool_of t in
          let xs = slots_by_txid p in
          ap (map (λ r. get_or xs r 0)) (list_below (has_in among) (λ r. in_cluster p s (get_or xs r 0)) (length xs) capacity slots_few among_is)
          ∙ only_places (in_cluster p s) xs

  -- ---- a slot without links

  module _ (s : ℕ) (taken : occupied (pool_of t) s ≡ true) where
    pub members_some : 0 < length (members_of (pool_of t) s)
    members_some =
        let u = place_of (members_of (pool_of t) s) s (own_member (pool_of t) few linked.links s taken) in omega (arith, u.1)

    module _ (alone : has_links (slot_at (pool_of t) s) ≡ false) where
      pub alone_members : members_of (pool_of t) s ≡ s ∷ []
      unfolding members_of
      alone_members =
          let p = pool_of t in
          only_one (in_cluster p s) s (slots_by_txid p) (lone_cluster p s (occupied_in p s taken) alone) (slots_once p) (slots_are p s ∙ taken)

      pub alone_all : (i : ℕ) → (ltb i capacity && eqb i s) ≡ in_cluster (pool_of t) s i
      alone_all i =
          let p = pool_of t in
          asked (ltb i capacity) (eqb i s) (λ e. lt-ltb i capacity (omega (arith, eqb-true i s e, occupied_in p s taken, few)))
          ∙ sym (lone_cluster p s (occupied_in p s taken) alone i)

  -- ---- parents

  parent_is : (s a : ℕ) → has_in (slot_at (pool_of t) s).parents a ≡ is_parent (pool_of t) s a
  parent_is s a =
      let p = pool_of t in
      true_together (has_in (slot_at p s).parents a) (is_parent p s a)
      (λ e.
      let l : s < slot_count p =
      ⊎_elim (λ l. l) (λ l. clash e (ap (λ (x : Slot). has_in x.parents a) (slot_past p s l) ∙ none_has a)) (lt_or_ge s (slot_count p)) in
      is_parent_lem p s a l (named_in t linked.links Parents s a l e) e)
      (λ e. (parent_parts p s a e).2)

  pub parent_in : (s a : ℕ) → has_in (slot_at (pool_of t) s).parents a ≡ true → a < slot_count (pool_of t)
  parent_in s a e = (parent_parts (pool_of t) s a (sym (parent_is s a) ∙ e)).1

  pub parents_word : (ms places : List ℕ) (s w : ℕ) → Closed (pool_of t) ms → Ranked ms places → elem s ms ≡ true → w < 2 ^ positions
      → ((i : ℕ) → mem (record { word = w }) i ≡ (is_position i && is_rank places (has_in (slot_at (pool_of t) s).parents) i))
      → w ≡ parents_of (pool_of t) ms s
  parents_word ms places s w closed ranked m fits told =
      let p = pool_of t in
      ap (λ (x : TxSet). x.word)
      (set_ext (record { word = w }) (record { word = parents_of p ms s }) fits (parents_fit p ms s)
      (λ i.
      told i
      ∙ ap (λ (b : Bool). is_position i && b)
      (ranks_are ms places (has_in (slot_at p s).parents) ranked (λ k l. omega (arith, few, closed.below (get_or ms k 0) (elem_at ms k l)))
      (λ a e. closed.parents s a m (sym (parent_is s a) ∙ e)) i
      ∙ ap (λ (b : Bool). ltb i (length ms) && b) (parent_is s (get_or ms i 0)))
      ∙ asked (is_position i) (ltb i (length ms) && is_parent p s (get_or ms i 0))
      (λ e. lt-ltb i positions (omega (arith, closed.few, ltb-true i (length ms) (and_left (ltb i (length ms)) _ e))))
      ∙ sym (parent_has p ms closed.few s i)))
