-- The tests of the parts of refusal 12, and the whole that they say together. Assumes nothing.
use mathlib.Core.Path.{◌≡◌, refl, sym}
use mathlib.Core.Bool.{Bool, true, false, ◌&&◌}
use mathlib.Core.List.{List, [], ◌∷◌}
use Prim.Native.Nat.{ℕ}
use native.Mathlib.Omega.{arith}
use lib.ListN.{length}
use Rattle.lists.proofs.Bools.{and_both, asked, clash, true_together}
use Rattle.lists.proofs.Lists.{Each}
use Rattle.pool_table.specs.Pool.{Pool, slot_count}
use Rattle.pool_table.specs.Words.{is_legal, pool_of}
use Rattle.pool_table.specs.Ranges.{limits_in_range}
use Rattle.pool_table.proofs.Legal.{few_slots}
use Rattle.pool_rules.proofs.Sound.{well_legal, well_sound}
use Rattle.pool_order.specs.Order.{roomy, can_stand, stands_in}
use Rattle.pool_order.proofs.Slots.{roomy_all}
use Rattle.pool_table.specs.WellFormed.{numbers_in_range, txids_distinct, total_is_sum, free_zeroed, links_mutual, acyclic, clusters_within, sound, well_formed}
use Rattle.pool_check.specs.Linked.{sound_links, linked_in, Linked}

-- what a part's test says where it fails
fails : (a b : Bool) → (b ≡ true → a ≡ true) → a ≡ false → false ≡ b
fails a false h e = refl
fails a true h e = clash (h refl) e

-- the parts of `sound_links`
record Parts (p : Pool) : Type 0 where
  limits : limits_in_range p.limits ≡ true
  numbers : numbers_in_range p ≡ true
  distinct : txids_distinct p ≡ true
  total : total_is_sum p ≡ true
  zeroed : free_zeroed p ≡ true
  links : links_mutual p ≡ true
  acyclic : acyclic p ≡ true

parts : (p : Pool) → sound_links p ≡ true → Parts p
unfolding sound_links
parts p h =
    let a = and_both (limits_in_range p.limits) _ h in
    let b = and_both (numbers_in_range p) _ a.1 in
    let c = and_both (txids_distinct p) _ b.1 in
    let d = and_both (total_is_sum p) _ c.1 in
    let e = and_both (free_zeroed p) _ d.1 in
    let f = and_both (links_mutual p) (acyclic p) e.1 in
    record { limits = a.0; numbers = b.0; distinct = c.0; total = d.0; zeroed = e.0; links = f.0; acyclic = f.1 }

module _ (t : List ℕ) where
  abbrev rows : Bool
  rows = is_legal (length t) && (numbers_in_range (pool_of t) && (total_is_sum (pool_of t) && free_zeroed (pool_of t)))

  abbrev links : Bool
  links = is_legal (length t) && (links_mutual (pool_of t) && acyclic (pool_of t))

  abbrev groups : Bool
  groups = is_legal (length t) && (limits_in_range (pool_of t).limits && clusters_within (pool_of t))

  module _ (rooms : List ℕ) where
    apart : linked_in t rooms ≡ true → (roomy (slot_count (pool_of t)) rooms ≡ true) × (is_legal (length t) ≡ true) × Parts (pool_of t)
    unfolding linked_in
    apart h =
        let a = and_both (roomy (slot_count (pool_of t)) rooms) _ h in
        let b = and_both (is_legal (length t)) (sound_links (pool_of t)) a.1 in
        (a.0, b.0, parts (pool_of t) b.1)

    pub linked_both : linked_in t rooms ≡ true → (roomy (slot_count (pool_of t)) rooms ≡ true) × Linked t
    linked_both h = let u = apart h in (u.0, record { legal = u.1; limits = u.2.limits; links = u.2.links })

    -- a table stands where its clusters are within the limits besides
    pub stands_linked : stands_in t rooms ≡ (linked_in t rooms && clusters_within (pool_of t))
    unfolding stands_in well_formed sound linked_in sound_links
    stands_linked =
        true_together (stands_in t rooms) (linked_in t rooms && clusters_within (pool_of t))
        (λ e.
        let u = and_both (roomy (slot_count (pool_of t)) rooms) (well_formed t) e in
        let f = well_sound t u.1 in
        rw (u.0, well_legal t u.1, f.limits, f.numbers, f.distinct, f.total, f.zeroed, f.links, f.acyclic, f.within))
        (λ e.
        let u = and_both (linked_in t rooms) (clusters_within (pool_of t)) e in
        let v = apart u.0 in
        let f = v.2 in
        rw (v.0, v.1, f.limits, f.numbers, f.distinct, f.total, f.zeroed, f.links, f.acyclic, u.1))

    -- ---- a part that fails

    pub no_limits : limits_in_range (pool_of t).limits ≡ false → false ≡ linked_in t rooms
    no_limits = fails (limits_in_range (pool_of t).limits) (linked_in t rooms) (λ h. (apart h).2.limits)

    pub no_rows : rows ≡ false → false ≡ linked_in t rooms
    no_rows = fails rows (linked_in t rooms) (λ h. let u = apart h in rw (u.1, u.2.numbers, u.2.total, u.2.zeroed))

    pub no_txids : can_stand t rooms ≡ false → false ≡ linked_in t rooms
    unfolding can_stand
    no_txids = fails (can_stand t rooms) (linked_in t rooms) (λ h. let u = apart h in rw (u.0, u.1, u.2.distinct))

    pub no_links : links ≡ false → false ≡ linked_in t rooms
    no_links = fails links (linked_in t rooms) (λ h. let u = apart h in rw (u.1, u.2.links, u.2.acyclic))

    -- ---- none fails

    pub all_linked : limits_in_range (pool_of t).limits ≡ true → rows ≡ true → can_stand t rooms ≡ true → links ≡ true → true ≡ linked_in t rooms
    unfolding can_stand linked_in sound_links
    all_linked s r x l =
        let a = and_both (is_legal (length t)) _ r in
        let b = and_both (numbers_in_range (pool_of t)) _ a.1 in
        let c = and_both (total_is_sum (pool_of t)) (free_zeroed (pool_of t)) b.1 in
        let o = and_both (roomy (slot_count (pool_of t)) rooms) _ x in
        let d = and_both (is_legal (length t)) (txids_distinct (pool_of t)) o.1 in
        let e = and_both (is_legal (length t)) _ l in
        let g = and_both (links_mutual (pool_of t)) (acyclic (pool_of t)) e.1 in
        sym (rw (o.0, a.0, s, b.0, d.1, c.0, c.1, g.0, g.1))

  -- the clusters of a table that is linked
  pub groups_are : Linked t → groups ≡ clusters_within (pool_of t)
  groups_are h = rw (h.legal, h.limits)

  -- rooms for as many slots as a table can have
  pub always_wide : stands_in t (1025 ∷ 1025 ∷ []) ≡ well_formed t
  unfolding stands_in Each
  always_wide =
      asked (roomy (slot_count (pool_of t)) (1025 ∷ 1025 ∷ [])) (well_formed t) (λ h.
      let few = few_slots t (well_legal t h) in
      roomy_all (slot_count (pool_of t)) (1025 ∷ 1025 ∷ []) (omega arith, (omega arith, tt)))
