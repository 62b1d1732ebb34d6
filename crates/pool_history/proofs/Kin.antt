-- The clusters of the pool are those of the links that stand (specs/Kin.antt). Assumes nothing.
use mathlib.Core.Path.{◌≡◌, refl, sym, ap, ap₂, ◌∙◌}
use mathlib.Core.Bool.{Bool, true, ◌&&◌, ◌||◌, or-true}
use mathlib.Core.Logic.{⊎_elim}
use mathlib.Core.List.{List}
use Prim.Native.Nat.{ℕ}
use native.Mathlib.Omega.{arith}
use Rattle.lists.specs.Below.{first_from}
use Rattle.lists.proofs.Below.{any_at, first_has}
use Rattle.lists.proofs.Bools.{and_both, or_either, true_together}
use Rattle.txids.specs.declared.Txid.{Txid}
use Rattle.ways.specs.Ways.{Way, step, further}
use Rattle.pool_table.specs.declared.Side.TheVariants.{Parents}
use Rattle.pool_table.specs.Pool.{Pool, slot_at, slot_count, occupied}
use Rattle.pool_table.specs.Words.{pool_of}
use Rattle.pool_table.specs.Links.{is_parent, is_child, is_linked, Together, in_cluster, in_clusters}
use Rattle.pool_table.specs.Links as pool
use Rattle.pool_links.proofs.Mutual.{occupied_in}
use Rattle.pool_clusters.proofs.Theorems.{cluster_together, together_cluster, cluster_occupied}
use Rattle.pool_rules.specs.Module8.{slot_of, is_listed}
use Rattle.pool_rules.proofs.Listed.{listed_held}
use Rattle.pool_rules.proofs.Sound.{sound_parts}
use Rattle.pool_history.specs.History.{Event}
use Rattle.pool_history.specs.Standing.{stands, linked}
use Rattle.pool_history.specs.Kin.{Kin, itself, link, Joining}
use Rattle.pool_history.proofs.Plain.{names, namer, parent_names, child_names, parent_is}
use Rattle.pool_history.proofs.Kept.{well_kept}
use Rattle.pool_history.proofs.Steps.{name_each_other}
use Rattle.pool_history.proofs.Places.{At, in_at, slot_in, at_slot, listed_at, listed_other}
use Rattle.pool_history.proofs.Follows.{Follows, follows_plain}
use Rattle.pool_history.proofs.Replies.{follows_at}

module _ {lent : List ℕ} {es : List Event} {t : List ℕ} (h : Follows lent es t) where
  abbrev p : Pool
  p = pool_of t

  abbrev id : ℕ → Txid
  id s = (slot_at (pool_of t) s).entry.txid

  -- ---- from slots to txids

  -- a link stands between whom the slots hold
  pub parent_link : (a b : ℕ) → names p Parents a b ≡ true → linked es (id a) (id b) ≡ true
  parent_link a b e =
      let i : At p (id a) a = record { there = namer (follows_plain h) Parents a b e; named = refl } in
      let j : At p (id b) b = record { there = (follows_plain h).named Parents a b e; named = refl } in
      sym (h.right.links (id a) (id b) a b i j) ∙ e

  link_kin : (a b : ℕ) → is_linked p a b ≡ true → (linked es (id a) (id b) || linked es (id b) (id a)) ≡ true
  unfolding is_linked
  link_kin a b e =
      ⊎_elim
      (λ u. ap (λ (c : Bool). c || linked es (id b) (id a)) (parent_link a b (parent_names p a b u)))
      (λ u.
      ap (λ (c : Bool). linked es (id a) (id b) || c) (parent_link b a ((follows_plain h).links b a ∙ child_names p a b u))
      ∙ or-true (linked es (id a) (id b)))
      (or_either (is_parent p a b) (is_child p a b) e)

  way_kin : {a b : ℕ} → Way (is_linked p) a b → Kin es (id a) (id b)
  way_kin {a} {b} (step e) = link (link_kin a b e) itself
  way_kin {a} (further {p = c} e u) = link (link_kin a c e) (way_kin u)

  together_kin : {a b : ℕ} → Together p a b → Kin es (id a) (id b)
  together_kin pool.itself = itself
  together_kin (pool.linked u) = way_kin u

  -- ---- and back

  linked_slots : (x y : Txid) → linked es x y ≡ true → is_parent p (slot_of p x) (slot_of p y) ≡ true
  linked_slots x y e =
      let u = h.right.ends x y e in
      let a = slot_of p x in
      let b = slot_of p y in
      parent_is (follows_plain h) a b ∙ h.right.links x y a b (follows_at h x u.0) (follows_at h y u.1) ∙ e

  slots_linked : (x y : Txid) → is_parent p (slot_of p x) (slot_of p y) ≡ true → linked es x y ≡ true
  slots_linked x y e =
      let a = slot_of p x in
      let b = slot_of p y in
      let k = parent_names p a b e in
      let i = in_at p x (slot_in p x (namer (follows_plain h) Parents a b k)) in
      let j = in_at p y (slot_in p y ((follows_plain h).named Parents a b k)) in
      sym (h.right.links x y a b i j) ∙ k

  -- where either does not stand, both are false
  pub follows_link : (x y : Txid) → is_parent p (slot_of p x) (slot_of p y) ≡ linked es x y
  follows_link x y = true_together (is_parent p (slot_of p x) (slot_of p y)) (linked es x y) (slots_linked x y) (linked_slots x y)

  kin_link : (x y : Txid) → (linked es x y || linked es y x) ≡ true → is_linked p (slot_of p x) (slot_of p y) ≡ true
  unfolding is_linked
  kin_link x y e =
      let a = slot_of p x in
      let b = slot_of p y in
      ⊎_elim
      (λ u. ap (λ (c : Bool). c || is_child p a b) (linked_slots x y u))
      (λ u.
      ap (λ (c : Bool). is_parent p a b || c) (sym (name_each_other (well_kept t h.well) b a) ∙ linked_slots y x u)
      ∙ or-true (is_parent p a b))
      (or_either (linked es x y) (linked es y x) e)

  further_on : {a b c : ℕ} → is_linked p a b ≡ true → Together p b c → Together p a c
  further_on e pool.itself = pool.linked (step e)
  further_on e (pool.linked u) = pool.linked (further e u)

  kin_together : {x y : Txid} → Kin es x y → Together p (slot_of p x) (slot_of p y)
  kin_together itself = pool.itself
  kin_together {x} (link {y = y} e k) = further_on (kin_link x y e) (kin_together k)

  -- ---- clusters

  pub follows_kin : (x y : Txid) → stands es x ≡ true → stands es y ≡ true → in_cluster p (slot_of p x) (slot_of p y) ≡ true → Kin es x y
  follows_kin x y u v e =
      let k = together_kin (cluster_together p (slot_of p x) (slot_of p y) e) in
      rw ((follows_at h x u).named, (follows_at h y v).named) at k

  pub kin_follows : (x y : Txid) → Kin es x y → in_cluster p (slot_of p x) (slot_of p y) ≡ true
  kin_follows x y k = together_cluster p (kin_together k)

  -- no free slot is in one
  pub follows_held : (s b : ℕ) → occupied p s ≡ true → in_cluster p s b ≡ true → occupied p b ≡ true
  follows_held =
      let k = well_kept t h.well in
      cluster_occupied p k.few (sound_parts p k.good).links

  -- those of listed parents: of one of them
  joined_by : (own : Txid) (listed : List ℕ) (b : ℕ) → in_clusters p (is_listed p own listed) b ≡ true
      → (a : ℕ) × (is_listed p own listed a ≡ true) × (in_cluster p a b ≡ true)
  unfolding in_clusters
  joined_by own listed b e =
      let f : ℕ → Bool = λ a. is_listed p own listed a && in_cluster p a b in
      let a = first_from f (slot_count p) 0 in
      let u = and_both (is_listed p own listed a) (in_cluster p a b) (first_has f (slot_count p) 0 e) in
      (a, u.0, u.1)

  pub joined_held : (own : Txid) (listed : List ℕ) (b : ℕ) → in_clusters p (is_listed p own listed) b ≡ true → occupied p b ≡ true
  joined_held own listed b e =
      let u = joined_by own listed b e in
      follows_held u.0 b (listed_held p own listed u.0 u.1).1 u.2

  module _ (own : Txid) (listed : List ℕ) (y : Txid) where
    pub follows_joining : stands es y ≡ true → in_clusters p (is_listed p own listed) (slot_of p y) ≡ true → Joining es own listed y
    follows_joining v e =
        let u = joined_by own listed (slot_of p y) e in
        let a = u.0 in
        let i : At p (id a) a = record { there = (listed_held p own listed a u.1).1; named = refl } in
        let other = listed_other p own listed (id a) a i u.1 in
        let z : slot_of p (id a) ≡ a = at_slot (follows_plain h) i in
        let stood = (h.right.told (id a) a i).stands in
        record {
          parent = id a;
          named = sym (listed_at (follows_plain h) own listed (id a) a i other) ∙ u.1;
          stood = stood;
          other = other;
          kin = follows_kin (id a) y stood v (ap (λ (s : ℕ). in_cluster p s (slot_of p y)) z ∙ u.2);
        }

    pub joining_follows : Joining es own listed y → in_clusters p (is_listed p own listed) (slot_of p y) ≡ true
    unfolding in_clusters
    joining_follows j =
        let a = slot_of p j.parent in
        let i = follows_at h j.parent j.stood in
        let l = occupied_in p a i.there in
        any_at (λ a. is_listed p own listed a && in_cluster p a (slot_of p y)) (slot_count p) 0 a (omega arith) (omega arith)
        (ap₂ ◌&&◌ (listed_at (follows_plain h) own listed j.parent a i j.other ∙ j.named) (kin_follows j.parent y j.kin))
