-- The clusters of the first i slots by txid, laid out one after the other: the start, a slot that was seen, a cluster more, and the end.
-- Assumes nothing.
use mathlib.Core.Path.{◌≡◌, refl, sym, ap, ap₂, ◌∙◌, subst}
use mathlib.Core.Bool.{Bool, true, false, not, ◌&&◌, ◌||◌}
use mathlib.Core.Logic.{⊎_elim}
use mathlib.Core.List.{List, [], ◌∷◌, ◌++◌, map, map-append, append-nil, flatten}
use Prim.Native.Nat.{ℕ, ◌+◌, ◌≤◌, ◌<◌}
use native.Mathlib.Numerals.{add-one}
use native.Mathlib.Omega.{arith}
use lib.Dec.{eqb}
use lib.ListN.{length, get_or, set, take, drop, take-append-drop, length-append, length-map, length-take, length-set}
use lib.Seq.{take-suc, take_all, get_or-set_same}
use borrow.Author.Tests.{eq-eqb, eqb-true}
use Rattle.lists.specs.Below.{keep_if}
use Rattle.lists.specs.Lists.{any_of, only, elem}
use Rattle.lists.proofs.Bools.{clash, and_both, asked, implies, is_false, is_true}
use Rattle.lists.proofs.Lists.{elem_at, elem_append, elem_left, in_snoc, in_append}
use Rattle.lists.proofs.Below.{at_all}
use Rattle.txset.specs.Sets.{positions, has_in}
use Rattle.slotsets.specs.SlotSets.{capacity, set_words}
use Rattle.pool_table.specs.Pool.{Pool, slot_count, occupied, entries}
use Rattle.pool_table.specs.Links.{itself, in_cluster}
use Rattle.pool_table.specs.WellFormed.{links_mutual, is_within, clusters_within}
use Rattle.pool_links.proofs.Mutual.{occupied_in}
use Rattle.pool_order.specs.Order.{slots_by_txid}
use Rattle.pool_order.proofs.Slots.{entries_within, sorted_many}
use Rattle.pool_order.proofs.Theorems.{slots_once}
use Rattle.pool_clusters.proofs.Limits.{cluster_less}
use Rattle.pool_clusters.proofs.Theorems.{together_cluster, parent_cluster, cluster_same, cluster_occupied}
use Rattle.pool_members.specs.Members.{members_of, parents_of, lead_of, clusters}
use Rattle.pool_members.specs.Rows.{Rows}
use Rattle.pool_members.specs.Layout.{LaidOut}
use Rattle.pool_members.specs.Steps.{StoredAt, Closed, Rooms}
use Rattle.pool_members.proofs.Only.{elem_only, only_append, only_first, length_only, place_of, in_flatten, flatten_in, flatten_append, flatten_snoc}
use Rattle.pool_members.proofs.Members.{slots_are, member_is, member_parts, members_once, members_same, own_member, lead_member}
use Rattle.pool_members.proofs.Members.{lead_same, clusters_elem, clusters_members}
use Rattle.pool_members.proofs.Rows.{rows_start, rows_end, rows_put, part_same}
use Rattle.pool_members.proofs.Stored.{none_before}

abbrev is_lead : Pool → ℕ → Bool
is_lead p s = eqb s (lead_of p s)

-- the clusters of the first i slots
unfoldable pub laid : Pool → ℕ → List (List ℕ)
laid p i = map (members_of p) (only (is_lead p) (take i (slots_by_txid p)))

leads_next : (p : Pool) (i : ℕ) → i < length (slots_by_txid p)
    → only (is_lead p) (take (i + 1) (slots_by_txid p))
    ≡ only (is_lead p) (take i (slots_by_txid p)) ++ keep_if (is_lead p (get_or (slots_by_txid p) i 0)) (get_or (slots_by_txid p) i 0) []
unfolding only
leads_next p i l =
    let xs = slots_by_txid p in
    ap (only (is_lead p)) (ap (λ (n : ℕ). take n xs) (add-one i) ∙ take-suc xs i 0 l) ∙ only_append (is_lead p) (take i xs) (get_or xs i 0 ∷ [])

module _ (p : Pool) (i : ℕ) (l : i < length (slots_by_txid p)) where
  laid_skip : is_lead p (get_or (slots_by_txid p) i 0) ≡ false → laid p (i + 1) ≡ laid p i
  unfolding laid
  laid_skip e =
      let ls = only (is_lead p) (take i (slots_by_txid p)) in
      ap (map (members_of p)) (leads_next p i l ∙ ap (λ (b : Bool). ls ++ keep_if b (get_or (slots_by_txid p) i 0) []) e ∙ append-nil ls)

  laid_more : is_lead p (get_or (slots_by_txid p) i 0) ≡ true → laid p (i + 1) ≡ laid p i ++ (members_of p (get_or (slots_by_txid p) i 0) ∷ [])
  unfolding laid
  laid_more e =
      let ls = only (is_lead p) (take i (slots_by_txid p)) in
      let s = get_or (slots_by_txid p) i 0 in
      ap (map (members_of p)) (leads_next p i l ∙ ap (λ (b : Bool). ls ++ keep_if b s []) e) ∙ map-append (members_of p) ls (s ∷ [])

laid_all : (p : Pool) (i : ℕ) → length (slots_by_txid p) ≤ i → laid p i ≡ clusters p
unfolding laid clusters
laid_all p i l = ap (λ (xs : List ℕ). map (members_of p) (only (is_lead p) xs)) (take_all i (slots_by_txid p) l)

laid_count : (p : Pool) (i : ℕ) → length (laid p i) ≤ entries p
unfolding laid
laid_count p i =
    let xs = take i (slots_by_txid p) in
    omega (arith, length-map (only (is_lead p) xs) (members_of p), length_only (is_lead p) xs, length-take i (slots_by_txid p), sorted_many p)

module _ (p : Pool) (few : slot_count p ≤ capacity) (links : links_mutual p ≡ true) where
  -- a cluster to be noted
  pub members_closed : (s : ℕ) → occupied p s ≡ true → length (members_of p s) ≤ positions → Closed p (members_of p s)
  members_closed s o short =
      record {
        once = members_once p s;
        few = short;
        below = λ x m. occupied_in p x (member_parts p s x m).0;
        parents =
            λ x a m e.
            let in' = cluster_same p few links s x (member_parts p s x m).1 a ∙ parent_cluster p x a e in
            member_is p s a ∙ ap₂ ◌&&◌ (cluster_occupied p few links s a o in') in';
      }

  -- no more members than entries
  laid_members : (i : ℕ) → length (flatten (laid p i)) ≤ entries p
  unfolding laid clusters
  laid_members i =
      let xs = slots_by_txid p in
      let rest = map (members_of p) (only (is_lead p) (drop i xs)) in
      let all : laid p i ++ rest ≡ clusters p =
      sym (map-append (members_of p) (only (is_lead p) (take i xs)) (only (is_lead p) (drop i xs)))
      ∙ ap (map (members_of p)) (sym (only_append (is_lead p) (take i xs) (drop i xs)) ∙ ap (only (is_lead p)) (take-append-drop i xs)) in
      omega (
        arith,
        clusters_members p few links,
        ap (λ (xss : List (List ℕ)). length (flatten xss)) all,
        ap length (flatten_append (laid p i) rest),
        length-append (flatten (laid p i)) (flatten rest),
      )

  -- a slot whose cluster was laid out before is not the first of it
  laid_before : (i : ℕ) → i < length (slots_by_txid p) → elem (get_or (slots_by_txid p) i 0) (flatten (laid p i)) ≡ true
      → is_lead p (get_or (slots_by_txid p) i 0) ≡ false
  unfolding laid
  laid_before i l e =
      let xs = slots_by_txid p in
      let s = get_or xs i 0 in
      let u = in_flatten (members_of p) (only (is_lead p) (take i xs)) s e in
      let b = and_both (elem u.of (take i xs)) (is_lead p u.of) (sym (elem_only (is_lead p) (take i xs) u.of) ∙ u.listed) in
      let o : occupied p u.of ≡ true =
      sym (slots_are p u.of) ∙ ap (elem u.of) (sym (take-append-drop i xs)) ∙ elem_left u.of (take i xs) (drop i xs) b.0 in
      let z : lead_of p s ≡ u.of =
      lead_same p few links u.of s o (member_parts p u.of s u.here).1 ∙ sym (eqb-true u.of (lead_of p u.of) b.1) in
      is_false (is_lead p s) (λ q.
      clash (ap (λ (x : ℕ). elem x (take i xs)) (eqb-true s (lead_of p s) q ∙ z) ∙ b.0) (none_before xs i (slots_once p) l))

  -- and one whose cluster was not is the first
  lead_before : (s i : ℕ) → i < length (slots_by_txid p) → s ≡ get_or (slots_by_txid p) i 0 → is_lead p s ≡ false
      → elem (lead_of p s) (take i (slots_by_txid p)) ≡ true
  unfolding lead_of members_of
  lead_before s i l z e =
      let xs = slots_by_txid p in
      let here = only_first (in_cluster p s) xs i s l (ap (in_cluster p s) (sym z) ∙ together_cluster p itself) in
      ⊎_elim
      (λ m. m)
      (λ q. clash (eq-eqb s (lead_of p s) (z ∙ sym q)) e)
      (in_snoc (lead_of p s) (get_or xs i 0) (take i xs) (ap (elem (lead_of p s)) (sym (take-suc xs i 0 l)) ∙ here))

  before_laid : (i : ℕ) → i < length (slots_by_txid p) → is_lead p (get_or (slots_by_txid p) i 0) ≡ false
      → elem (get_or (slots_by_txid p) i 0) (flatten (laid p i)) ≡ true
  unfolding laid
  before_laid i l e =
      let xs = slots_by_txid p in
      let s = get_or xs i 0 in
      let o : occupied p s ≡ true = sym (slots_are p s) ∙ elem_at xs i l in
      let m = (member_parts p s (lead_of p s) (lead_member p few links s o)).1 in
      let lead : is_lead p (lead_of p s) ≡ true = eq-eqb (lead_of p s) (lead_of p (lead_of p s)) (sym (lead_same p few links s (lead_of p s) o m)) in
      flatten_in (members_of p) (only (is_lead p) (take i xs)) s (lead_of p s)
      (elem_only (is_lead p) (take i xs) (lead_of p s) ∙ ap₂ ◌&&◌ (lead_before s i l refl e) lead)
      (ap (elem s) (members_same p few links s (lead_of p s) m) ∙ own_member p few links s o)

  -- clusters are apart: one that shares a member with those laid out is one of them
  laid_apart : (i s : ℕ) → occupied p s ≡ true → elem s (flatten (laid p i)) ≡ false
      → (x : ℕ) → elem x (flatten (laid p i)) ≡ true → elem x (members_of p s) ≡ false
  unfolding laid
  laid_apart i s o new x e =
      let u = in_flatten (members_of p) (only (is_lead p) (take i (slots_by_txid p))) x e in
      is_false (elem x (members_of p s)) (λ m.
      let z : members_of p s ≡ members_of p u.of =
      sym (members_same p few links s x (member_parts p s x m).1) ∙ members_same p few links u.of x (member_parts p u.of x u.here).1 in
      clash
      (flatten_in (members_of p) (only (is_lead p) (take i (slots_by_txid p))) s u.of u.listed (ap (elem s) (sym z) ∙ own_member p few links s o))
      new)

-- ---- the arrays

-- where a slot's cluster is, among those laid out
pub record Placed (p : Pool) (members firsts ups : List ℕ) (end s : ℕ) : Type 0 where
  pub inside : get_or firsts s 0 + length (members_of p s) ≤ end
  pub cluster : take (length (members_of p s)) (drop (get_or firsts s 0) members) ≡ members_of p s
  pub parents : get_or ups s 0 ≡ parents_of p (members_of p s) s

pub record Laying (p : Pool) (parts : List (List ℕ)) (members bounds firsts ups places seen : List ℕ) (count end : ℕ) : Type 0 where
  pub rows : Rows members bounds parts
  pub counted : count ≡ length parts
  pub ends : end ≡ get_or bounds (length parts) 0
  pub known : (x : ℕ) → has_in seen x ≡ elem x (flatten parts)
  pub placed : (s : ℕ) → elem s (flatten parts) ≡ true → Placed p members firsts ups end s
  pub within : (s : ℕ) → elem s (flatten parts) ≡ true → is_within p (in_cluster p s) ≡ true
  pub rooms : Rooms p members bounds firsts ups places
  pub seen_long : length seen ≡ set_words

pub laying_start : (p : Pool) {members bounds firsts ups places : List ℕ} (seen : List ℕ) → Rooms p members bounds firsts ups places
    → length seen ≡ set_words → ((x : ℕ) → has_in seen x ≡ false) → Laying p (laid p 0) members bounds firsts ups places seen 0 0
unfolding laid only flatten elem any_of
laying_start p {members} {bounds} seen rooms ls none =
    record {
      rows = rows_start members bounds rooms.start;
      counted = refl;
      ends = sym rooms.start;
      known = none;
      placed = λ s e. clash e refl;
      within = λ s e. clash e refl;
      rooms = rooms;
      seen_long = ls;
    }

-- all are laid out
module _
    {p : Pool}
    {members bounds firsts ups places seen : List ℕ}
    {count end : ℕ}
    (few : slot_count p ≤ capacity)
    (links : links_mutual p ≡ true)
    (i : ℕ)
    (l : length (slots_by_txid p) ≤ i)
    (h : Laying p (laid p i) members bounds firsts ups places seen count end) where
  pub laying_within : clusters_within p ≡ true
  unfolding clusters_within
  laying_within =
      at_all (λ s. not (occupied p s) || is_within p (in_cluster p s)) (slot_count p) 0
      (λ s _ _.
      implies (occupied p s) (is_within p (in_cluster p s))
      (λ o. h.within s (ap (λ (xss : List (List ℕ)). elem s (flatten xss)) (laid_all p i l) ∙ clusters_elem p few links s ∙ o)))

  pub laying_done : LaidOut p count members bounds firsts ups
  laying_done =
      let all : (s : ℕ) → occupied p s ≡ true → Placed p members firsts ups end s =
      λ s o. h.placed s (ap (λ (xss : List (List ℕ)). elem s (flatten xss)) (laid_all p i l) ∙ clusters_elem p few links s ∙ o) in
      record {
        many = h.counted ∙ ap length (laid_all p i l);
        rows = subst (Rows members bounds) (laid_all p i l) h.rows;
        places = record { cluster = λ s o. (all s o).cluster; parents = λ s o. (all s o).parents };
      }

-- what is written when the cluster of s is laid out, and what stays
pub record Added (p : Pool) (s : ℕ) (members firsts ups places seen : List ℕ) (end : ℕ) (members' firsts' ups' places' seen' : List ℕ) (e : ℕ)
    : Type 0 where
  pub good : is_within p (in_cluster p s) ≡ true
  pub total : e ≡ end + length (members_of p s)
  pub long : length members' ≡ length members
  pub kept : take end members' ≡ take end members
  pub here : take (length (members_of p s)) (drop end members') ≡ members_of p s
  pub starts : StoredAt (members_of p s) (λ k. end) firsts firsts'
  pub parents : StoredAt (members_of p s) (λ k. parents_of p (members_of p s) (get_or (members_of p s) k 0)) ups ups'
  pub places_long : length places' ≡ length places
  pub seen_long : length seen' ≡ set_words
  pub told : (x : ℕ) → has_in seen' x ≡ (has_in seen x || in_cluster p s x)

-- one cluster more
module _
    {p : Pool}
    {parts : List (List ℕ)}
    {members bounds firsts ups places seen : List ℕ}
    {count end s : ℕ}
    {members' firsts' ups' places' seen' : List ℕ}
    {e : ℕ}
    (few : slot_count p ≤ capacity)
    (links : links_mutual p ≡ true)
    (h : Laying p parts members bounds firsts ups places seen count end)
    (u : Added p s members firsts ups places seen end members' firsts' ups' places' seen' e)
    (taken : occupied p s ≡ true)
    (apart : (x : ℕ) → elem x (flatten parts) ≡ true → elem x (members_of p s) ≡ false)
    (room : e ≤ length members)
    (bound : count + 1 < length bounds) where
  more_rows : Rows members' (set bounds (count + 1) e) (parts ++ (members_of p s ∷ []))
  more_rows =
      rows_put h.rows (members_of p s) members' (count + 1) e (omega (arith, h.counted)) (omega (arith, h.ends, u.total)) bound
      (subst (λ (n : ℕ). take n members' ≡ take n members) h.ends u.kept)
      (subst (λ (n : ℕ). take (length (members_of p s)) (drop n members') ≡ members_of p s) h.ends u.here)
      (omega (arith, u.long))

  more_known : (x : ℕ) → has_in seen' x ≡ elem x (flatten (parts ++ (members_of p s ∷ [])))
  more_known x =
      u.told x
      ∙ ap₂ ◌||◌ (h.known x) (sym (member_is p s x ∙ asked (occupied p x) (in_cluster p s x) (cluster_occupied p few links s x taken)))
      ∙ sym (ap (elem x) (flatten_snoc parts (members_of p s)) ∙ elem_append x (flatten parts) (members_of p s))

  -- a slot of the clusters before, and one of this cluster
  old_placed : (x : ℕ) → elem x (flatten parts) ≡ true → Placed p members' firsts' ups' e x
  old_placed x m =
      let o = h.placed x m in
      let n = length (members_of p x) in
      let f : get_or firsts' x 0 ≡ get_or firsts x 0 = u.starts.else x (apart x m) in
      record {
        inside = omega (arith, o.inside, u.total);
        cluster =
            ap (λ (i : ℕ). take n (drop i members')) f
            ∙ part_same members members' end (get_or firsts x 0) n u.kept o.inside
            ∙ o.cluster;
        parents = u.parents.else x (apart x m) ∙ o.parents;
      }

  new_placed : (x : ℕ) → elem x (members_of p s) ≡ true → Placed p members' firsts' ups' e x
  new_placed x m =
      let ms = members_of p s in
      let k = place_of ms x m in
      let z : ms ≡ members_of p x = sym (members_same p few links s x (member_parts p s x m).1) in
      let f : get_or firsts' x 0 ≡ end = ap (λ (i : ℕ). get_or firsts' i 0) (sym k.2) ∙ u.starts.here k.0 k.1 in
      record {
        inside = omega (arith, ap length z, u.total);
        cluster =
            ap₂ (λ (i : ℕ) (xs : List ℕ). take (length xs) (drop i members')) f (sym z)
            ∙ u.here
            ∙ z;
        parents =
            ap (λ (i : ℕ). get_or ups' i 0) (sym k.2)
            ∙ u.parents.here k.0 k.1
            ∙ ap₂ (λ (i : ℕ) (xs : List ℕ). parents_of p xs i) k.2 z;
      }

  more : Laying p (parts ++ (members_of p s ∷ [])) members' (set bounds (count + 1) e) firsts' ups' places' seen' (count + 1) e
  more =
      let many : count + 1 ≡ length (parts ++ (members_of p s ∷ [])) = omega (arith, h.counted, length-append parts (members_of p s ∷ [])) in
      record {
        rows = more_rows;
        counted = many;
        ends = sym (ap (λ (n : ℕ). get_or (set bounds (count + 1) e) n 0) (sym many) ∙ get_or-set_same bounds (count + 1) e 0 bound);
        known = more_known;
        placed =
            λ x m.
            ⊎_elim (old_placed x) (new_placed x)
            (in_append x (flatten parts) (members_of p s) (ap (elem x) (sym (flatten_snoc parts (members_of p s))) ∙ m));
        within =
            λ x m.
            ⊎_elim (h.within x) (λ k. cluster_less p s x (member_parts p s x k).1 u.good)
            (in_append x (flatten parts) (members_of p s) (ap (elem x) (sym (flatten_snoc parts (members_of p s))) ∙ m));
        rooms =
            record {
              in_members = omega (arith, u.long, h.rooms.in_members);
              in_bounds = omega (arith, length-set bounds (count + 1) e, h.rooms.in_bounds);
              in_firsts = omega (arith, u.starts.long, h.rooms.in_firsts);
              in_ups = omega (arith, u.parents.long, h.rooms.in_ups);
              in_places = omega (arith, u.places_long, h.rooms.in_places);
              start = more_rows.first;
            };
        seen_long = u.seen_long;
      }

-- the next slot by txid
module _
    {p : Pool}
    {members bounds firsts ups places seen : List ℕ}
    {count end : ℕ}
    (few : slot_count p ≤ capacity)
    (links : links_mutual p ≡ true)
    (i : ℕ)
    (l : i < length (slots_by_txid p))
    (s : ℕ)
    (at : s ≡ get_or (slots_by_txid p) i 0)
    (h : Laying p (laid p i) members bounds firsts ups places seen count end) where
  pub laying_taken : occupied p s ≡ true
  laying_taken = sym (slots_are p s) ∙ ap (λ (x : ℕ). elem x (slots_by_txid p)) at ∙ elem_at (slots_by_txid p) i l

  -- that was seen
  pub laying_skip : has_in seen s ≡ true → Laying p (laid p (i + 1)) members bounds firsts ups places seen count end
  laying_skip e =
      subst (λ (parts : List (List ℕ)). Laying p parts members bounds firsts ups places seen count end)
      (sym (laid_skip p i l (laid_before p few links i l (ap (λ (x : ℕ). elem x (flatten (laid p i))) (sym at) ∙ sym (h.known s) ∙ e))))
      h

  -- that was not: its cluster comes next
  module _ (new : has_in seen s ≡ false) where
    next : laid p (i + 1) ≡ laid p i ++ (members_of p s ∷ [])
    next =
        laid_more p i l
        (is_true (is_lead p (get_or (slots_by_txid p) i 0)) (λ e.
        clash (ap (λ (x : ℕ). elem x (flatten (laid p i))) at ∙ before_laid p few links i l e) (sym (h.known s) ∙ new)))
        ∙ ap (λ (x : ℕ). laid p i ++ (members_of p x ∷ [])) (sym at)

    pub laying_room : end + length (members_of p s) ≤ length members
    laying_room =
        omega (
          arith,
          h.ends,
          h.rooms.in_members,
          rows_end h.rows,
          laid_members p few links (i + 1),
          ap (λ (xss : List (List ℕ)). length (flatten xss)) next,
          ap length (flatten_snoc (laid p i) (members_of p s)),
          length-append (flatten (laid p i)) (members_of p s),
          entries_within p,
        )

    pub laying_few : count + 1 ≤ slot_count p
    laying_few =
        omega (
          arith,
          h.counted,
          laid_count p (i + 1),
          ap length next,
          length-append (laid p i) (members_of p s ∷ []),
          entries_within p,
        )

    pub laying_bound : count + 1 < length bounds
    laying_bound = omega (arith, laying_few, h.rooms.in_bounds)

    pub laying_more : {members' firsts' ups' places' seen' : List ℕ} {e : ℕ}
        → Added p s members firsts ups places seen end members' firsts' ups' places' seen' e
        → Laying p (laid p (i + 1)) members' (set bounds (count + 1) e) firsts' ups' places' seen' (count + 1) e
    laying_more {members'} {firsts'} {ups'} {places'} {seen'} {e} u =
        subst (λ (parts : List (List ℕ)). Laying p parts members' (set bounds (count + 1) e) firsts' ups' places' seen' (count + 1) e) (sym next)
        (more few links h u laying_taken (laid_apart p few links i s laying_taken (sym (h.known s) ∙ new))
        (omega (arith, u.total, laying_room)) laying_bound)
