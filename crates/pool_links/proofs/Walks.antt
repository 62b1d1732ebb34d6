-- One link more is walked: one fewer is to come at its child, which is queued once none is. Assumes nothing.
use mathlib.Core.Path.{◌≡◌, refl, sym, ap, ap₂, ◌∙◌, subst}
use mathlib.Core.Bool.{Bool, true, false, not, ◌&&◌, ◌||◌, and-true, and-false, or-false}
use mathlib.Core.Logic.{⊎_elim}
use mathlib.Core.List.{List, [], ◌∷◌, ◌++◌}
use Prim.Native.Nat.{ℕ, suc, ◌+◌, ◌-◌, ◌≤◌, ◌<◌}
use native.Mathlib.Numerals.{add-one}
use native.Mathlib.Omega.{arith}
use lib.Dec.{eqb, ltb}
use lib.ListN.{get_or, take, set, length-set}
use lib.Seq.{length-take-le, get_or-set_same, get_or-set_other, take-suc-set}
use borrow.Author.Tests.{lt-ltb, eq-eqb, ne_eqb, eqb-true, eqb-false, not-false}
use Rattle.lists.specs.Lists.{elem}
use Rattle.lists.proofs.Bools.{clash, cases, and_both, or_either, without_or, is_true}
use Rattle.lists.proofs.Below.{count_ext, count_without}
use Rattle.lists.proofs.Ranges.{count_zero}
use Rattle.lists.proofs.Lists.{elem_snoc, in_snoc}
use Rattle.lists.proofs.Once.{Once, once_more, once_missing, missing_snoc}
use Rattle.txset.specs.Sets.{has_in}
use Rattle.ways.specs.Ways.{Way, step, further}
use Rattle.ways.proofs.Ways.{way_stays}
use Rattle.slotsets.specs.SlotSets.{capacity}
use Rattle.pool_table.specs.declared.Side.{Side}
use Rattle.pool_table.specs.declared.Side.TheVariants.{Parents}
use Rattle.pool_table.specs.Pool.{Slot, Pool, slot_at, slot_count, occupied}
use Rattle.pool_table.specs.Links.{side_of, has_links, is_parent}
use Rattle.pool_table.proofs.Named.{unlinked_side}
use Rattle.pool_links.specs.Steps.{is_tied, unmet, Walk}
use Rattle.pool_links.proofs.Mutual.{occupied_in, parent_parts}

-- who names somebody has links
pub named_linked : (x : Slot) (side : Side) (b : ℕ) → has_in (side_of side x) b ≡ true → has_links x ≡ true
named_linked x side b h = is_true (has_links x) (λ e. clash h (unlinked_side x e side b))

pub tied_parts : (p : Pool) (a c : ℕ) → is_tied p a c ≡ true → (occupied p a ≡ true) × (occupied p c ≡ true) × (has_in (slot_at p c).parents a ≡ true)
unfolding is_tied
tied_parts p a c h =
    let u = and_both (occupied p a && occupied p c) (has_in (slot_at p c).parents a) h in
    let v = and_both (occupied p a) (occupied p c) u.0 in
    (v.0, v.1, u.1)

pub walk_once : {p : Pool} {met : ℕ → ℕ → Bool} {needs queue : List ℕ} {end : ℕ} → Walk p met needs queue end → Once (slot_count p) (take end queue)
walk_once w = record { below = w.below; once = w.once }

-- the same links, however they are given
pub unmet_ext : (p : Pool) (met met' : ℕ → ℕ → Bool) (c : ℕ) → ((b : ℕ) → met b c ≡ met' b c) → unmet p met c ≡ unmet p met' c
unfolding unmet
unmet_ext p met met' c same =
    count_ext (λ b. has_in (slot_at p c).parents b && not (met b c)) (λ b. has_in (slot_at p c).parents b && not (met' b c)) capacity 0
    (λ b _ _. ap (λ (t : Bool). has_in (slot_at p c).parents b && not t) (same b))

pub walk_ext : {p : Pool} {met met' : ℕ → ℕ → Bool} {needs queue : List ℕ} {end : ℕ} → ((b c : ℕ) → met b c ≡ met' b c)
    → Walk p met needs queue end → Walk p met' needs queue end
walk_ext {p} {met} {met'} same w =
    record {
      few = w.few;
      wide = w.wide;
      long = w.long;
      short = w.short;
      needed = λ c l. w.needed c l ∙ unmet_ext p met met' c (λ b. same b c);
      queued = w.queued;
      below = w.below;
      once = w.once;
      walked = λ b c h. w.walked b c (same b c ∙ h);
      closed = w.closed;
      sound = w.sound;
    }

-- none is to come: each link from a parent was walked
pub met_all : (p : Pool) (met : ℕ → ℕ → Bool) (c b : ℕ) → unmet p met c ≡ 0 → b < capacity → has_in (slot_at p c).parents b ≡ true → met b c ≡ true
unfolding unmet
met_all p met c b z l h =
    not-false (met b c)
    (ap (λ (t : Bool). t && not (met b c)) (sym h) ∙ count_zero (λ b. has_in (slot_at p c).parents b && not (met b c)) capacity (omega (arith, z)) b l)

module _ {p : Pool} {met : ℕ → ℕ → Bool} {needs queue : List ℕ} {end : ℕ} (w : Walk p met needs queue end) {a c : ℕ}
    (there : elem a (take end queue) ≡ true) (child : has_in (slot_at p a).children c ≡ true) (tied : is_tied p a c ≡ true) (new : met a c ≡ false) where
  -- the link from a to c too
  abbrev also : ℕ → ℕ → Bool
  also x y = met x y || (eqb x a && eqb y c)

  pub child_slot : c < slot_count p
  child_slot = occupied_in p c (tied_parts p a c tied).1

  one_less : unmet p met c ≡ suc (unmet p also c)
  unfolding unmet
  one_less =
      let ps = (slot_at p c).parents in
      count_without (λ b. has_in ps b && not (met b c)) (λ b. has_in ps b && not (also b c)) capacity 0 a (omega arith)
      (omega (arith, w.below a there, w.few))
      (ap₂ (λ (x y : Bool). x && not y) (tied_parts p a c tied).2 new)
      (λ b _ _.
      ap (λ (t : Bool). has_in ps b && not (met b c || (eqb b a && t))) (eq-eqb c c refl)
      ∙ ap (λ (t : Bool). has_in ps b && not (met b c || t)) (and-true (eqb b a))
      ∙ sym (without_or (has_in ps b) (met b c) (eqb b a)))

  unmet_else : (d : ℕ) → (d ≡ c → ⊥) → unmet p also d ≡ unmet p met d
  unmet_else d n =
      unmet_ext p also met d
      (λ b.
      ap (λ (t : Bool). met b d || (eqb b a && t)) (ne_eqb d c n) ∙ ap (λ (t : Bool). met b d || t) (and-false (eqb b a)) ∙ or-false (met b d))

  pub some_left : 1 ≤ get_or needs c 0
  some_left = omega (arith, w.needed c child_slot, one_less)

  not_queued : elem c (take end queue) ≡ false
  not_queued =
      w.queued c
      ∙ ap (λ (t : Bool). ltb c (slot_count p) && (has_links (slot_at p c) && t)) (ne_eqb (get_or needs c 0) 0 (λ z. omega (arith, some_left)))
      ∙ ap (λ (t : Bool). ltb c (slot_count p) && t) (and-false (has_links (slot_at p c)))
      ∙ and-false (ltb c (slot_count p))

  walked_also : (q : List ℕ) → ((i : ℕ) → elem i (take end queue) ≡ true → elem i q ≡ true) → (b d : ℕ) → also b d ≡ true
      → (elem b q ≡ true) × (has_in (slot_at p b).children d ≡ true) × (is_tied p b d ≡ true)
  walked_also q on b d h =
      ⊎_elim
      (λ e. let m = w.walked b d e in (on b m.0, m.1, m.2))
      (λ e.
      let u = and_both (eqb b a) (eqb d c) e in
      let x : a ≡ b = sym (eqb-true b a u.0) in
      let y : c ≡ d = sym (eqb-true d c u.1) in (
        subst (λ (i : ℕ). elem i q ≡ true) x (on a there),
        subst (λ (i : ℕ). has_in (slot_at p b).children i ≡ true) y (subst (λ (i : ℕ). has_in (slot_at p i).children c ≡ true) x child),
        subst (λ (i : ℕ). is_tied p b i ≡ true) y (subst (λ (i : ℕ). is_tied p i c ≡ true) x tied),
      ))
      (or_either (met b d) (eqb b a && eqb d c) h)

  abbrev fewer : List ℕ
  fewer = set needs c (get_or needs c 0 - 1)

  at_child : get_or fewer c 0 ≡ get_or needs c 0 - 1
  at_child = get_or-set_same needs c (get_or needs c 0 - 1) 0 (omega (arith, w.wide, w.few, child_slot))

  at_else : (d : ℕ) → (d ≡ c → ⊥) → get_or fewer d 0 ≡ get_or needs d 0
  at_else d n = get_or-set_other needs c d (get_or needs c 0 - 1) 0 n

  needed_also : (d : ℕ) → d < slot_count p → get_or fewer d 0 ≡ unmet p also d
  needed_also d l =
      cases (eqb d c)
      (λ z.
      subst (λ (x : ℕ). get_or fewer x 0 ≡ unmet p also x) (sym (eqb-true d c z))
      (omega (arith, at_child, w.needed c child_slot, one_less)))
      (λ z. let n = eqb-false d c z in at_else d n ∙ w.needed d l ∙ sym (unmet_else d n))

  -- more are to come: the queue is as it was
  pub walk_step : (get_or needs c 0 - 1 ≡ 0 → ⊥) → Walk p also fewer queue end
  walk_step n =
      record {
        few = w.few;
        wide = length-set needs c (get_or needs c 0 - 1) ∙ w.wide;
        long = w.long;
        short = w.short;
        needed = needed_also;
        queued = λ d. cases (eqb d c) (λ z. subst Kept (sym (eqb-true d c z)) same) (λ z. w.queued d ∙ ap (own d) (sym (at_else d (eqb-false d c z))));
        below = w.below;
        once = w.once;
        walked = walked_also (take end queue) (λ i h. h);
        closed = w.closed;
        sound = w.sound;
      }
    where
      own : ℕ → ℕ → Bool
      own d k = ltb d (slot_count p) && (has_links (slot_at p d) && eqb k 0)

      Kept : ℕ → Type 0
      Kept d = elem d (take end queue) ≡ own d (get_or fewer d 0)

      same : Kept c
      same =
          w.queued c
          ∙ ap (λ (t : Bool). ltb c (slot_count p) && (has_links (slot_at p c) && t))
          (ne_eqb (get_or needs c 0) 0 (λ z. omega (arith, some_left)) ∙ sym (ne_eqb (get_or fewer c 0) 0 (λ z. n (sym at_child ∙ z))))

  -- none is to come: the child is queued
  room : end < slot_count p
  room =
      let q = take end queue in
      omega (arith, once_missing (slot_count p) q (walk_once w), missing_snoc (slot_count p) q c child_slot not_queued, length-take-le end queue (omega (arith, w.short, w.long)))

  pub push_room : end < capacity
  push_room = omega (arith, room, w.few)

  module _ (none : get_or needs c 0 - 1 ≡ 0) where
    grown : take (end + 1) (set queue end c) ≡ take end queue ++ (c ∷ [])
    grown = ap (λ (k : ℕ). take k (set queue end c)) (add-one end) ∙ take-suc-set queue end c (omega (arith, push_room, w.long))

    in_grown : (i : ℕ) → elem i (take (end + 1) (set queue end c)) ≡ (elem i (take end queue) || eqb i c)
    in_grown i = ap (elem i) grown ∙ elem_snoc i c (take end queue)

    still : (i : ℕ) → elem i (take end queue) ≡ true → elem i (take (end + 1) (set queue end c)) ≡ true
    still i h = in_grown i ∙ ap (λ (t : Bool). t || eqb i c) h

    -- the parents of the child are in the queue
    parent_there : (x : ℕ) → is_parent p c x ≡ true → elem x (take end queue) ≡ true
    parent_there x e =
        let u = parent_parts p c x e in
        ⊎_elim
        (λ h. (w.walked x c h).0)
        (λ h. subst (λ (i : ℕ). elem i (take end queue) ≡ true) (sym (eqb-true x a (and_both (eqb x a) (eqb c c) h).0)) there)
        (or_either (met x c) (eqb x a && eqb c c)
        (met_all p also c x (sym (needed_also c child_slot) ∙ at_child ∙ none) (omega (arith, u.1, w.few)) u.2))

    once' : Once (slot_count p) (take (end + 1) (set queue end c))
    once' = subst (Once (slot_count p)) (sym grown) (once_more (slot_count p) (take end queue) c child_slot not_queued (walk_once w))

    no_cycle : Way (is_parent p) c c → ⊥
    no_cycle (step e) = clash (parent_there c e) not_queued
    no_cycle (further {p = q} e u) = clash (way_stays (λ i. elem i (take end queue)) w.closed u (parent_there q e)) not_queued

    pub walk_push : Walk p also fewer (set queue end c) (end + 1)
    walk_push =
        record {
          few = w.few;
          wide = length-set needs c (get_or needs c 0 - 1) ∙ w.wide;
          long = length-set queue end c ∙ w.long;
          short = omega (arith, push_room);
          needed = needed_also;
          queued = λ d. in_grown d ∙ cases (eqb d c) (λ z. subst Put (sym (eqb-true d c z)) put) (λ z. kept d z);
          below = once'.below;
          once = once'.once;
          walked = walked_also (take (end + 1) (set queue end c)) still;
          closed = λ i x h e.
              still x
              (⊎_elim (λ m. w.closed i x m e) (λ m. parent_there x (subst (λ (k : ℕ). is_parent p k x ≡ true) m e)) (in_snoc i c (take end queue) (sym (ap (elem i) grown) ∙ h)));
          sound = λ i h u.
              ⊎_elim (λ m. w.sound i m u) (λ m. no_cycle (subst (λ (k : ℕ). Way (is_parent p) k k) m u)) (in_snoc i c (take end queue) (sym (ap (elem i) grown) ∙ h));
        }
      where
        Put : ℕ → Type 0
        Put d = (elem d (take end queue) || eqb d c) ≡ (ltb d (slot_count p) && (has_links (slot_at p d) && eqb (get_or fewer d 0) 0))

        put : Put c
        put =
            ap₂ ◌||◌ not_queued (eq-eqb c c refl)
            ∙ sym
            (ap₂ ◌&&◌ (lt-ltb c (slot_count p) child_slot)
            (ap₂ ◌&&◌ (named_linked (slot_at p c) Parents a (tied_parts p a c tied).2) (eq-eqb (get_or fewer c 0) 0 (at_child ∙ none))))

        kept : (d : ℕ) → eqb d c ≡ false → Put d
        kept d z =
            ap (λ (t : Bool). elem d (take end queue) || t) z
            ∙ or-false (elem d (take end queue))
            ∙ w.queued d
            ∙ ap (λ (k : ℕ). ltb d (slot_count p) && (has_links (slot_at p d) && eqb k 0)) (sym (at_else d (eqb-false d c z)))
