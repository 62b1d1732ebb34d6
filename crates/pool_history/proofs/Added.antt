-- A sound pool with an entry more is sound, where add refuses nothing. The newcomer has no children, so no parent chain goes through it and
-- closes; its cluster is those of its listed parents together and itself, and every other cluster is as it was. Assumes nothing.
use mathlib.Core.Path.{◌≡◌, refl, sym, ap, ap₂, ◌∙◌}
use mathlib.Core.Bool.{Bool, true, false, not, ◌&&◌, ◌||◌, or-true, and-true, and_comm}
use mathlib.Core.Logic.{◌⊎◌, inl, inr, ⊎_elim}
use mathlib.Core.List.{List}
use Prim.Native.Nat.{ℕ, ◌+◌, ◌≤◌, ◌<◌}
use native.Mathlib.Omega.{arith}
use lib.Dec.{eqb, ltb}
use borrow.Author.Tests.{eq-eqb, ne_eqb, eqb-true, le-leb, ltb-false}
use Rattle.lists.proofs.Below.{count_without}
use Rattle.lists.proofs.Bools.{clash, cases, and_both, or_either, is_false}
use Rattle.lists.proofs.Numbers.{by_number}
use Rattle.slotsets.specs.SlotSets.{capacity}
use Rattle.weights.specs.Weights.{virtual_size}
use Rattle.ways.proofs.Cycles.{onward}
use Rattle.pool_table.specs.declared.Entry.{Entry}
use Rattle.pool_table.specs.declared.Side.{Side}
use Rattle.pool_table.specs.declared.Side.TheVariants.{Parents, Children}
use Rattle.pool_table.specs.Pool.{Slot, Pool, free, slot_at, slot_count, occupied}
use Rattle.pool_table.specs.Ranges.{entry_in_range}
use Rattle.pool_table.specs.Links.{is_parent, is_child, is_linked, in_cluster, in_clusters, count_of, weight_of}
use Rattle.pool_table.specs.WellFormed.{is_within, sound}
use Rattle.pool_table.proofs.Theorems.{Wholes}
use Rattle.pool_links.proofs.Mutual.{occupied_in}
use Rattle.pool_clusters.proofs.Linked.{linked_bounded, cluster_onward, clusters_reached}
use Rattle.pool_clusters.proofs.Reached.{reached}
use Rattle.pool_clusters.proofs.Theorems.{cluster_back}
use Rattle.pool_rules.specs.Module8.{is_in, is_full, lowest_free, is_listed, count_with, size_with, with_slots, added}
use Rattle.pool_rules.proofs.Finds.{lowest_is_free}
use Rattle.pool_rules.proofs.Listed.{listed_held}
use Rattle.pool_rules.proofs.Sound.{sound_parts}
use Rattle.pool_history.proofs.Plain.{names, Plain, namer, parent_names, child_names, parent_is, child_is, sound_plain, plain_sound}
use Rattle.pool_history.proofs.Compared.{within_part, weight_but}
use Rattle.pool_history.proofs.OneMore.{still_open, Joins, joined, was_alone, not_reached, joined_on, else_on}
use Rattle.pool_history.proofs.Newcomer.{not_held, room_there, added_count, added_else, added_occupied, added_same, added_own, added_there}
use Rattle.pool_history.proofs.Newcomer.{parent_else, added_parents, added_children}

-- what the refusals 3, 6, 7, 8 and 9 leave
pub record Addable (p : Pool) (e : Entry) (listed : List ℕ) : Type 0 where
  pub ranged : entry_in_range e ≡ true
  pub absent : is_in p e.txid ≡ false
  pub room : is_full p ≡ false
  pub few : ltb p.limits.count (count_with p (is_listed p e.txid listed)) ≡ false
  pub light : ltb p.limits.size (size_with p (is_listed p e.txid listed) e.weight.0) ≡ false

module _ (p : Pool) (w : Wholes p.slots) (small : slot_count p ≤ capacity) (good : sound p ≡ true) (e : Entry) (listed : List ℕ)
    (can : Addable p e listed) where
  abbrev q : Pool
  q = added p e listed

  abbrev f : ℕ → Bool
  f = is_listed p e.txid listed

  abbrev r : ℕ
  r = lowest_free p

  old : Plain p
  old = sound_plain p w good

  there : r < slot_count p
  there = room_there p can.room

  was_free : occupied p r ≡ false
  was_free = lowest_is_free p there

  -- ---- entries

  own : (slot_at q r).entry ≡ e
  own = added_own p e listed can.room

  taken : occupied q r ≡ true
  taken = added_there p e listed can.room can.ranged

  -- who was there is not r, and still there
  other : (s : ℕ) → occupied p s ≡ true → r ≡ s → ⊥
  other s o z = clash o (ap (occupied p) (sym z) ∙ was_free)

  still : (s : ℕ) → occupied p s ≡ true → occupied q s ≡ true
  still s o = added_occupied p e listed s (other s o) ∙ o

  was : (s : ℕ) → (r ≡ s → ⊥) → occupied q s ≡ true → occupied p s ≡ true
  was s n o = sym (added_occupied p e listed s n) ∙ o

  ranged : (s : ℕ) → occupied q s ≡ true → entry_in_range (slot_at q s).entry ≡ true
  ranged =
      by_number (λ s. occupied q s ≡ true → entry_in_range (slot_at q s).entry ≡ true) r
      (λ _. ap entry_in_range own ∙ can.ranged)
      (λ s n o. ap entry_in_range (added_else p e listed s n) ∙ old.numbers s (was s n o))

  -- the txids of the newcomer and of another differ
  new_txid : (s : ℕ) → (r ≡ s → ⊥) → occupied q s ≡ true → (slot_at q r).entry.txid ≡ (slot_at q s).entry.txid → ⊥
  new_txid s n o z =
      not_held p e.txid can.absent s (occupied_in p s (was s n o)) (was s n o)
      (sym (ap (λ (x : Entry). x.txid) (added_else p e listed s n)) ∙ sym z ∙ ap (λ (x : Entry). x.txid) own)

  distinct : (a b : ℕ) → occupied q a ≡ true → occupied q b ≡ true → (slot_at q a).entry.txid ≡ (slot_at q b).entry.txid → a ≡ b
  distinct =
      by_number (λ a. (b : ℕ) → occupied q a ≡ true → occupied q b ≡ true → (slot_at q a).entry.txid ≡ (slot_at q b).entry.txid → a ≡ b) r
      (by_number (λ b. occupied q r ≡ true → occupied q b ≡ true → (slot_at q r).entry.txid ≡ (slot_at q b).entry.txid → r ≡ b) r
      (λ _ _ _. refl)
      (λ b n _ o z. absurd (new_txid b n o z)))
      (λ a n.
      by_number (λ b. occupied q a ≡ true → occupied q b ≡ true → (slot_at q a).entry.txid ≡ (slot_at q b).entry.txid → a ≡ b) r
      (λ o _ z. absurd (new_txid a n o (sym z)))
      (λ b m o d z.
      old.distinct a b (was a n o) (was b m d)
      (sym (ap (λ (x : Entry). x.txid) (added_else p e listed a n)) ∙ z ∙ ap (λ (x : Entry). x.txid) (added_else p e listed b m))))

  empty : (s : ℕ) → occupied q s ≡ false → slot_at q s ≡ free
  empty =
      by_number (λ s. occupied q s ≡ false → slot_at q s ≡ free) r
      (λ o. clash taken o)
      (λ s n o.
      let d : occupied p s ≡ false = sym (added_occupied p e listed s n) ∙ o in
      added_same p e listed s n (is_false (f s) (λ h. clash (listed_held p e.txid listed s h).1 d)) ∙ old.empty s d)

  -- ---- weights

  more_weight : (g h : ℕ → Bool) → g r ≡ true → ((s : ℕ) → (r ≡ s → ⊥) → h s ≡ g s) → weight_of q g ≡ e.weight.0 + weight_of p h
  more_weight g h here else =
      weight_but q p (sym (added_count p e listed)) r (omega (arith, there, added_count p e listed))
      (ap (λ (x : Slot). x.entry.weight.0) (old.empty r was_free))
      (λ s n. sym (ap (λ (x : Entry). x.weight.0) (added_else p e listed s n)))
      g h here else
      ∙ ap (λ (x : Entry). x.weight.0 + weight_of p h) own

  total : q.total ≡ weight_of q (λ s. true)
  unfolding added with_slots
  total = omega (arith, old.total, more_weight (λ s. true) (λ s. true) refl (λ s _. refl))

  -- ---- links

  held : (s : ℕ) → f s ≡ true → occupied p s ≡ true
  held s d = (listed_held p e.txid listed s d).1

  -- a link is an old one, or one of the newcomer's
  parent_either : (a b : ℕ) → names q Parents a b ≡ true → (names p Parents a b ≡ true) ⊎ ((a ≡ r) × (f b ≡ true))
  parent_either a b d =
      ⊎_elim inl
      (λ x. let u = and_both (eqb a r) (f b) x in inr (eqb-true a r u.0, u.1))
      (or_either (names p Parents a b) (eqb a r && f b) (sym (added_parents p e listed can.room old w small a b) ∙ d))

  child_either : (a b : ℕ) → names q Children a b ≡ true → (names p Children a b ≡ true) ⊎ ((f a ≡ true) × (b ≡ r))
  child_either a b d =
      ⊎_elim inl
      (λ x. let u = and_both (f a) (eqb b r) x in inr (u.0, eqb-true b r u.1))
      (or_either (names p Children a b) (f a && eqb b r) (sym (added_children p e listed can.room old w small a b) ∙ d))

  links : (a b : ℕ) → names q Parents a b ≡ names q Children b a
  links a b =
      added_parents p e listed can.room old w small a b ∙ ap₂ ◌||◌ (old.links a b) (and_comm (eqb a r) (f b))
      ∙ sym (added_children p e listed can.room old w small b a)

  -- no parent is the newcomer
  parent_held : (a b : ℕ) → names q Parents a b ≡ true → occupied p b ≡ true
  parent_held a b d = ⊎_elim (old.named Parents a b) (λ x. held b x.1) (parent_either a b d)

  named : (side : Side) (a b : ℕ) → names q side a b ≡ true → occupied q b ≡ true
  named Parents a b d = still b (parent_held a b d)
  named Children a b d = ⊎_elim (λ x. still b (old.named Children a b x)) (λ x. ap (occupied q) x.1 ∙ taken) (child_either a b d)

  -- ---- parent chains

  no_child : (a b : ℕ) → is_parent q a b ≡ true → b ≡ r → ⊥
  no_child a b d z = other b (parent_held a b (parent_names q a b d)) (sym z)

  chain_else : (a b : ℕ) → (a ≡ r → ⊥) → is_parent q a b ≡ true → is_parent p a b ≡ true
  chain_else a b n d =
      parent_is old a b ∙ ⊎_elim (λ x. x) (λ x. absurd (n x.0)) (parent_either a b (parent_names q a b d))

  -- ---- clusters

  ends : (side : Side) (a b : ℕ) → names p side a b ≡ true → (a ≡ r → ⊥) × (b ≡ r → ⊥)
  ends side a b d = (λ z. other a (namer old side a b d) (sym z), λ z. other b (old.named side a b d) (sym z))

  joins : Joins (is_linked p) (is_linked q) (slot_count p) r f
  unfolding is_linked
  joins =
      record {
        below = λ i d. occupied_in p i (held i d);
        apart = parent_else p e listed can.room;
        alone = λ i j d.
            ⊎_elim
            (λ x. ends Parents i j (parent_names p i j x))
            (λ x. ends Children i j (child_names p i j x))
            (or_either (is_parent p i j) (is_child p i j) d);
        more = λ i j d.
            ⊎_elim
            (λ x.
            ⊎_elim
            (λ y. inl (ap (λ (c : Bool). c || is_child p i j) (parent_is old i j ∙ y)))
            (λ y. inr (inl y))
            (parent_either i j (parent_names q i j x)))
            (λ x.
            ⊎_elim
            (λ y. inl (ap (λ (c : Bool). is_parent p i j || c) (child_is old i j ∙ y) ∙ or-true (is_parent p i j)))
            (λ y. inr (inr y))
            (child_either i j (child_names q i j x)))
            (or_either (is_parent q i j) (is_child q i j) d);
      }

  -- the newcomer, and the clusters of its listed parents
  abbrev union : ℕ → Bool
  union = joined (is_linked p) (slot_count p) r f

  -- one more than those clusters have
  union_there : union r ≡ true
  union_there = ap (λ (c : Bool). c || reached (is_linked p) (slot_count p) f r) (eq-eqb r r refl)

  union_else : (s : ℕ) → (r ≡ s → ⊥) → in_clusters p f s ≡ union s
  union_else s n = clusters_reached p f s ∙ sym (ap (λ (c : Bool). c || reached (is_linked p) (slot_count p) f s) (ne_eqb s r (λ z. n (sym z))))

  union_count : count_of q union ≡ count_with p f
  unfolding count_of count_with
  union_count =
      rw (added_count p e listed)
      (count_without union (in_clusters p f) (slot_count p) 0 r (omega arith) (omega (arith, there)) union_there
      (λ s _ _.
      by_number (λ s. in_clusters p f s ≡ (union s && not (eqb s r))) r
      (rw (eq-eqb r r refl) (clusters_reached p f r ∙ not_reached (linked_bounded p) joins))
      (λ s n. rw (ne_eqb s r (λ z. n (sym z))) (clusters_reached p f s ∙ sym (and-true (reached (is_linked p) (slot_count p) f s))))
      s))

  union_size : virtual_size (weight_of q union) ≡ size_with p f e.weight.0
  unfolding size_with
  union_size =
      let m : weight_of q union ≡ e.weight.0 + weight_of p (in_clusters p f) = more_weight union (in_clusters p f) union_there union_else in
      let c : weight_of q union ≡ weight_of p (in_clusters p f) + e.weight.0 = omega arith in
      ap virtual_size c

  union_within : is_within q union ≡ true
  unfolding is_within added with_slots
  union_within =
      ap₂ ◌&&◌
      (le-leb (count_of q union) p.limits.count (omega (arith, union_count, ltb-false p.limits.count (count_with p f) can.few)))
      (le-leb (virtual_size (weight_of q union)) p.limits.size
      (omega (arith, union_size, ltb-false p.limits.size (size_with p f e.weight.0) can.light)))

  -- what is in a cluster has a way there, over as many slots
  cluster_way : (a b : ℕ) → in_cluster q a b ≡ true → onward (is_linked q) (slot_count p) a b ≡ true
  cluster_way a b d = ap (λ (n : ℕ). onward (is_linked q) n a b) (sym (added_count p e listed)) ∙ sym (cluster_onward q a b) ∙ d

  back : (i j : ℕ) → onward (is_linked p) (slot_count p) i j ≡ true → onward (is_linked p) (slot_count p) j i ≡ true
  back i j d = sym (cluster_onward p j i) ∙ cluster_back p small (sound_parts p good).links i j (cluster_onward p i j ∙ d)

  within : (s : ℕ) → occupied q s ≡ true → is_within q (in_cluster q s) ≡ true
  unfolding added with_slots
  within s o =
      cases (union s)
      (λ d.
      within_part q q refl refl union (in_cluster q s)
      (λ b m. (joined_on (linked_bounded p) joins s b d (cluster_way s b m), omega arith))
      union_within)
      (λ d.
      let n : r ≡ s → ⊥ = λ z. clash union_there (ap union z ∙ d) in
      within_part p q (added_count p e listed) refl (in_cluster p s) (in_cluster q s)
      (λ b m.
      let on = else_on (linked_bounded p) joins back s d b (cluster_way s b m) in
      let k : r ≡ b → ⊥ = λ z. n (sym (was_alone (linked_bounded p) joins s (ap (onward (is_linked p) (slot_count p) s) z ∙ on))) in
      (cluster_onward p s b ∙ on, omega (arith, ap (λ (x : Entry). x.weight.0) (added_else p e listed b k))))
      (old.within s (was s n o)))

  pub sound_added : sound (added p e listed) ≡ true
  unfolding added with_slots
  sound_added =
      plain_sound
      (record {
        limits = old.limits;
        numbers = ranged;
        distinct = distinct;
        total = total;
        empty = empty;
        links = links;
        named = named;
        acyclic = still_open r no_child chain_else old.acyclic;
        within = within;
      })
