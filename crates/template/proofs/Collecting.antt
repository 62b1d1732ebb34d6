-- Laws of the collection: the parents of a slot as the arrays have them, and what is selected with a slot behind its ancestors. Assumes
-- nothing.
use mathlib.Core.Path.{◌≡◌, refl, sym, ap, ap₂, ◌∙◌, subst}
use mathlib.Core.Bool.{Bool, true, false, not, ◌&&◌, ◌||◌}
use mathlib.Core.Logic.{⊎_elim}
use mathlib.Core.List.{List, [], ◌∷◌, ◌++◌, map}
use Prim.Native.Nat.{ℕ, ◌+◌, ◌≤◌, ◌<◌}
use native.Mathlib.Numerals.{add-one}
use native.Mathlib.Omega.{arith}
use lib.Dec.{eqb, ltb}
use lib.ListN.{length, get_or, take, drop, set, length-append, length-take, length-drop, length-set, drop_of_length-le}
use lib.Seq.{drop-cons, get_or-take, get_or-drop, take-suc-set}
use borrow.Author.Tests.{lt-ltb, ltb-true, eqb-true}
use Rattle.lists.specs.Lists.{elem, distinct}
use Rattle.lists.proofs.Bools.{and_both, asked}
use Rattle.lists.proofs.Lists.{elem_head, elem_tail, elem_snoc, in_snoc, distinct_snoc}
use Rattle.lists.proofs.Once.{once_missing}
use Rattle.txset.specs.declared.TxSet.{TxSet}
use Rattle.txset.specs.Sets.{has_in, mem, members, set_at}
use Rattle.txset.proofs.Sets.{members_elem}
use Rattle.slotsets.specs.SlotSets.{span}
use Rattle.pool_table.specs.Pool.{Pool, slot_count, occupied}
use Rattle.pool_table.specs.Links.{is_parent}
use Rattle.pool_links.proofs.Mutual.{occupied_in}
use Rattle.pool_members.specs.Members.{members_of, parents_of}
use Rattle.pool_members.proofs.Members.{own_member, members_few, parent_has, parents_by_txid_lem}
use Rattle.pool_rules.proofs.Sound.{Sound, sound_parts}
use Rattle.template_rules.specs.Filling.{parents_by_txid, each_in_turn, collect, grown}
use Rattle.template_rules.proofs.Ancestors.{ancestors_few}
use Rattle.template_rules.proofs.Turns.{starts_length}
use Rattle.template_rules.proofs.Collect.{collect_starts, Kept, collect_again, collect_step, collect_keeps}
use Rattle.template.specs.Selecting.{Occupied, Laid, Selected}

-- ---- the parents of a slot in the arrays

-- the member of the cluster of s at a position
abbrev pub member_at : List ℕ → List ℕ → ℕ → ℕ → ℕ
member_at flat firsts s j = get_or flat (get_or firsts s 0 + j) 0

map_each : (f g : ℕ → ℕ) (xs : List ℕ) → ((x : ℕ) → elem x xs ≡ true → f x ≡ g x) → map f xs ≡ map g xs
map_each f g [] h = refl
map_each f g (x ∷ xs) h = ap₂ ◌∷◌ (h x (elem_head x xs)) (map_each f g xs (λ y e. h y (elem_tail y x xs e)))

pub laid_sound : {p : Pool} {flat firsts ups : List ℕ} → Laid p flat firsts ups → Sound p
laid_sound {p} h = sound_parts p h.stands

module _ {p : Pool} {flat firsts ups : List ℕ} (h : Laid p flat firsts ups) (s : ℕ) (o : occupied p s ≡ true) where
  word : set_at ups s ≡ record { word = parents_of p (members_of p s) s }
  unfolding set_at
  word = ap {B = TxSet} (λ (w : ℕ). record { word = w }) (h.places.parents s o)

  -- a member of the cluster stands where it should
  module _ (j : ℕ) (l : j < length (members_of p s)) where
    place_within : get_or firsts s 0 + j < length flat
    place_within =
        let ms = members_of p s in
        omega (
          arith,
          length-take (length ms) (drop (get_or firsts s 0) flat),
          length-drop (get_or firsts s 0) flat,
          ap length (h.places.cluster s o),
        )

    place_is : member_at flat firsts s j ≡ get_or (members_of p s) j 0
    place_is =
        let ms = members_of p s in
        sym (get_or-drop (get_or firsts s 0) flat j 0)
        ∙ sym (get_or-take (length ms) (drop (get_or firsts s 0) flat) j 0 l)
        ∙ ap (λ (xs : List ℕ). get_or xs j 0) (h.places.cluster s o)

  -- what the set of a slot names
  module _ (j : ℕ) (e : mem (set_at ups s) j ≡ true) where
    named : (j < length (members_of p s)) × (is_parent p s (get_or (members_of p s) j 0) ≡ true)
    named =
        let ms = members_of p s in
        let few = members_few p h.few (laid_sound h) s o in
        let u = and_both (ltb j (length ms)) (is_parent p s (get_or ms j 0)) (sym (parent_has p ms few s j) ∙ (rw word at e)) in
        (ltb-true j (length ms) u.0, u.1)

    named_within : get_or firsts s 0 + j < length flat
    named_within = place_within j named.0

    named_parent : is_parent p s (member_at flat firsts s j) ≡ true
    named_parent = rw (place_is j named.0) named.1

  named_all : map (member_at flat firsts s) (members (set_at ups s)) ≡ parents_by_txid p s
  unfolding parents_by_txid
  named_all =
      map_each (member_at flat firsts s) (λ j. get_or (members_of p s) j 0) (members (set_at ups s))
      (λ j e. place_is j (named j (sym (members_elem (set_at ups s) j) ∙ e)).0)
      ∙ ap (λ (x : TxSet). map (λ j. get_or (members_of p s) j 0) (members x)) word
      ∙ parents_by_txid_lem p h.few (laid_sound h) s o s (own_member p h.few (laid_sound h).links s o)

-- ---- what is selected

-- by the places where it stands
pub selected_own : {p : Pool} {out taken picked : List ℕ} {n : ℕ} → Selected p out taken picked n → Selected p (take n picked) taken picked n
selected_own {p} {out} {taken} {picked} {n} g = subst (λ (l : List ℕ). Selected p l taken picked n) (sym g.are) g

-- each entry written behind its parents keeps what a list of selected slots is
abbrev Chosen : Pool → List ℕ → Type 0
Chosen p l = (distinct l ≡ true) × Occupied p l

chosen_kept : (p : Pool) → Kept p (Chosen p)
chosen_kept p out s o e up q =
    (distinct_snoc out s ∙ ap₂ (λ (a b : Bool). a && not b) q.0 e, λ x m. ⊎_elim (q.1 x) (λ (z : x ≡ s). rw z o) (in_snoc x s out m))

-- so they are no more than the slots
pub chosen_few : (p : Pool) (l : List ℕ) → Chosen p l → length l ≤ slot_count p
chosen_few p l q =
    omega (arith, once_missing (slot_count p) l (record { below = λ i m. occupied_in p i (q.1 i m); once = q.0 }))

-- the slot was selected before
pub collect_none : {p : Pool} {out taken picked : List ℕ} {n : ℕ} → Selected p out taken picked n → (s : ℕ) → has_in taken s ≡ true
    → Selected p (collect p (slot_count p) out s) taken picked n
collect_none {p} {out} {taken} {picked} {n} g s e =
    subst (λ (l : List ℕ). Selected p l taken picked n) (sym (collect_again p (slot_count p) out s (sym (g.member s) ∙ e))) g

-- ---- a slot's parents, one after the other

-- what is selected, and then the parents left, is what all parents make of `old`
pub record Climbing (p : Pool) (flat firsts ups : List ℕ) (s : ℕ) (old left taken picked : List ℕ) (end : ℕ) : Type 0 where
  pub held : Selected p (take end picked) taken picked end
  pub rest : each_in_turn (collect p (slot_count p)) (take end picked) (map (member_at flat firsts s) left)
      ≡ each_in_turn (collect p (slot_count p)) old (parents_by_txid p s)
  pub parents : (j : ℕ) → elem j left ≡ true → mem (set_at ups s) j ≡ true
  pub grows : length old ≤ end

module _ {p : Pool} {flat firsts ups : List ℕ} (h : Laid p flat firsts ups) (s : ℕ) (o : occupied p s ≡ true) where
  pub climb_start : {taken picked : List ℕ} {n : ℕ} → Selected p (take n picked) taken picked n
      → Climbing p flat firsts ups s (take n picked) (members (set_at ups s)) taken picked n
  climb_start {taken} {picked} {n} g =
      record {
        held = g;
        rest = ap (each_in_turn (collect p (slot_count p)) (take n picked)) (named_all h s o);
        parents = λ j e. sym (members_elem (set_at ups s) j) ∙ e;
        grows = omega (arith, g.count);
      }

  module _ {old left : List ℕ} {taken picked : List ℕ} {end : ℕ} (c : Climbing p flat firsts ups s old left taken picked end) where
    module _ {j : ℕ} {next : List ℕ} (e : left ≡ j ∷ next) where
      -- the next parent: where it stands, and that it is one
      is_named : mem (set_at ups s) j ≡ true
      is_named = c.parents j (ap (elem j) e ∙ elem_head j next)

      pub climb_within : get_or firsts s 0 + j < length flat
      climb_within = named_within h s o j is_named

      pub climb_parent : is_parent p s (member_at flat firsts s j) ≡ true
      climb_parent = named_parent h s o j is_named

      pub climb_turn : {taken' picked' : List ℕ} {r : ℕ} → Selected p (collect p (slot_count p) (take end picked) (member_at flat firsts s j)) taken' picked' r
          → Climbing p flat firsts ups s old next taken' picked' r
      unfolding each_in_turn
      climb_turn g =
          let f = collect p (slot_count p) in
          record {
            held = selected_own g;
            rest =
                ap (λ (l : List ℕ). each_in_turn f l (map (member_at flat firsts s) next)) g.are
                ∙ ap (λ (l : List ℕ). each_in_turn f (take end picked) (map (member_at flat firsts s) l)) (sym e)
                ∙ c.rest;
            parents = λ i m. c.parents i (ap (elem i) e ∙ elem_tail i j next m);
            grows =
                omega (
                  arith,
                  g.count,
                  c.grows,
                  c.held.count,
                  starts_length (collect_starts p (slot_count p) (take end picked) (member_at flat firsts s j)),
                );
          }

    -- all parents are selected, and s is none of what was
    module _ (e : left ≡ []) {taken₀ picked₀ : List ℕ} {n : ℕ} (g : Selected p old taken₀ picked₀ n) (new : has_in taken₀ s ≡ false) where
      whole : collect p (slot_count p) old s ≡ take end picked ++ (s ∷ [])
      unfolding each_in_turn
      whole =
          collect_step p (laid_sound h) (slot_count p) old s (occupied_in p s o) (ancestors_few p s) (sym (g.member s) ∙ new)
          ∙ ap (λ (l : List ℕ). l ++ (s ∷ []))
          (sym c.rest
          ∙ ap (λ (l : List ℕ). each_in_turn (collect p (slot_count p)) (take end picked) (map (member_at flat firsts s) l)) e)

      chosen : Chosen p (collect p (slot_count p) old s)
      chosen =
          collect_keeps p (laid_sound h) h.few (Chosen p) (chosen_kept p) (slot_count p) old s o (ancestors_few p s) (g.once, g.held)

      many : length (collect p (slot_count p) old s) ≡ end + 1
      many = ap length whole ∙ length-append (take end picked) (s ∷ []) ∙ ap (λ (k : ℕ). k + 1) (sym c.held.count)

      -- there is a place for it
      pub climb_few : end < slot_count p
      climb_few = omega (arith, many, chosen_few p (collect p (slot_count p) old s) chosen)

      pub climb_room : end < length picked
      climb_room = omega (arith, climb_few, c.held.wide)

      pub climb_done : (taken' : List ℕ) → length taken' ≡ length taken
          → ((x : ℕ) → has_in taken' x ≡ (has_in taken x || (ltb x (span taken) && eqb x s)))
          → Selected p (collect p (slot_count p) old s) taken' (set picked end s) (end + 1)
      climb_done taken' long more =
          record {
            once = chosen.0;
            held = chosen.1;
            count = sym many;
            are = ap (λ (k : ℕ). take k (set picked end s)) (add-one end) ∙ take-suc-set picked end s climb_room ∙ sym whole;
            member = λ x.
                more x
                ∙ ap₂ ◌||◌ (c.held.member x)
                (asked (ltb x (span taken)) (eqb x s)
                (λ q. lt-ltb x (span taken) (omega (arith, eqb-true x s q, occupied_in p s o, h.few, c.held.words))))
                ∙ sym (elem_snoc x s (take end picked))
                ∙ ap (elem x) (sym whole);
            words = long ∙ c.held.words;
            wide = omega (arith, length-set picked end s, c.held.wide);
          }

-- ---- some slots, one after the other

-- what is selected, and then the slots from i on, is what all make of `old`
pub record Gathering (p : Pool) (old slots : List ℕ) (i : ℕ) (taken picked : List ℕ) (end : ℕ) : Type 0 where
  pub held : Selected p (take end picked) taken picked end
  pub rest : each_in_turn (collect p (slot_count p)) (take end picked) (drop i slots) ≡ grown p old slots

module _ {p : Pool} where
  pub gather_start : (slots : List ℕ) {taken picked : List ℕ} {n : ℕ} → Selected p (take n picked) taken picked n
      → Gathering p (take n picked) slots 0 taken picked n
  unfolding grown
  gather_start slots g = record { held = g; rest = refl }

  module _ {old slots : List ℕ} {i : ℕ} {taken picked : List ℕ} {end : ℕ} (c : Gathering p old slots i taken picked end) where
    pub gather_turn : i < length slots → {taken' picked' : List ℕ} {r : ℕ}
        → Selected p (collect p (slot_count p) (take end picked) (get_or slots i 0)) taken' picked' r → Gathering p old slots (i + 1) taken' picked' r
    unfolding each_in_turn
    gather_turn l {taken'} {picked'} {r} g =
        let f = collect p (slot_count p) in
        record {
          held = selected_own g;
          rest =
              ap₂ (λ (o : List ℕ) (k : ℕ). each_in_turn f o (drop k slots)) g.are (add-one i)
              ∙ ap (each_in_turn f (take end picked)) (sym (drop-cons slots i 0 l))
              ∙ c.rest;
        }

    pub gather_done : length slots ≤ i → Selected p (grown p old slots) taken picked end
    unfolding each_in_turn
    gather_done l =
        subst (λ (o : List ℕ). Selected p o taken picked end)
        (ap (each_in_turn (collect p (slot_count p)) (take end picked)) (sym (drop_of_length-le slots l)) ∙ c.rest) c.held
