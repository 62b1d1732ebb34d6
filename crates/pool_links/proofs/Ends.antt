-- The end of the walk: all slots with links are queued exactly where links are mutual and no chain of parents closes. Assumes nothing.
use mathlib.Core.Path.{◌≡◌, refl, sym, ap, ap₂, ◌∙◌}
use mathlib.Core.Bool.{Bool, true, false, not, ◌&&◌}
use mathlib.Core.List.{List}
use Prim.Native.Nat.{ℕ, ◌+◌, ◌<◌}
use native.Mathlib.Omega.{arith}
use lib.Dec.{eqb, ltb}
use lib.ListN.{get_or, take}
use lib.Seq.{length-take-le}
use borrow.Author.Tests.{lt-ltb, ltb-true, eq-eqb, eqb-true, not-true, not-false}
use Rattle.lists.specs.Below.{bit, any_from, all_from, count_from, first_from}
use Rattle.lists.specs.Lists.{elem}
use Rattle.lists.proofs.Bools.{clash, cases, and_both, implies, is_true, is_false}
use Rattle.lists.proofs.Below.{at_all, first_has, first_below, none_at}
use Rattle.lists.proofs.Ranges.{count_parts, count_all, count_zero, count_none}
use Rattle.lists.proofs.Once.{once_missing}
use Rattle.txset.specs.Sets.{has_in}
use Rattle.ways.specs.Ways.{Way, step, further, is_cyclic, Bounded}
use Rattle.ways.proofs.Cycles.{cyclic_is, endless}
use Rattle.slotsets.specs.SlotSets.{capacity}
use Rattle.pool_table.specs.declared.Side.TheVariants.{Parents, Children}
use Rattle.pool_table.specs.Pool.{Pool, slot_at, slot_count, occupied}
use Rattle.pool_table.specs.Words.{pool_of}
use Rattle.pool_table.specs.Links.{has_links, is_parent, is_child}
use Rattle.pool_table.specs.WellFormed.{is_answered, links_mutual, acyclic}
use Rattle.pool_links.specs.Steps.{answers, is_tied, unmet, of_done, Walk}
use Rattle.pool_links.proofs.Mutual.{refuted, parent_parts, is_parent_lem, is_child_lem, occupied_in, answered, named_in, parent_child}
use Rattle.pool_links.proofs.Walks.{named_linked, tied_parts, walk_once, met_all}

-- ---- a link that fails

-- mutual links are named at both ends, by occupied slots
pub tied_all : (t : List ℕ) (a c : ℕ) → a < slot_count (pool_of t) → has_in (slot_at (pool_of t) a).children c ≡ true → links_mutual (pool_of t) ≡ true
    → is_tied (pool_of t) a c ≡ true
unfolding is_tied answers
tied_all t a c l child h =
    let p = pool_of t in
    let u = and_both (occupied p c) (has_in (slot_at p c).parents a) (answered t h Children a c l child) in
    let v = and_both (occupied p a) (has_in (slot_at p a).children c) (answered t h Parents c a (occupied_in p c u.0) u.1) in
    ap₂ ◌&&◌ (ap₂ ◌&&◌ v.0 u.0) u.1

pub tied_fails : (t : List ℕ) (a c : ℕ) → a < slot_count (pool_of t) → has_in (slot_at (pool_of t) a).children c ≡ true → is_tied (pool_of t) a c ≡ false
    → links_mutual (pool_of t) ≡ false
tied_fails t a c l child e = refuted (links_mutual (pool_of t)) (λ h. clash (tied_all t a c l child h) e)

-- ---- the end

unmet_some : (p : Pool) (met : ℕ → ℕ → Bool) (c : ℕ) → (unmet p met c ≡ 0 → ⊥) → (b : ℕ) × (b < capacity) × (has_in (slot_at p c).parents b ≡ true) × (met b c ≡ false)
unfolding unmet
unmet_some p met c n =
    let f : ℕ → Bool = λ b. has_in (slot_at p c).parents b && not (met b c) in
    let some : any_from f capacity 0 ≡ true =
    is_true (any_from f capacity 0) (λ e. absurd (n (count_none f capacity (λ i l. all_false f e i l)))) in
    let u = and_both (has_in (slot_at p c).parents (first_from f capacity 0)) (not (met (first_from f capacity 0) c)) (first_has f capacity 0 some) in
    (first_from f capacity 0, omega (arith, first_below f capacity 0 some), u.0, not-true _ u.1)
  where
    all_false : (f : ℕ → Bool) → any_from f capacity 0 ≡ false → (i : ℕ) → i < capacity → f i ≡ false
    all_false f e i l = none_at f capacity 0 e i (omega arith) (omega arith)

module _ (t : List ℕ) {needs queue : List ℕ} {end : ℕ} (w : Walk (pool_of t) (of_done (pool_of t) (take end queue)) needs queue end)
    {linked : ℕ} (e : linked ≡ count_from (λ c. has_links (slot_at (pool_of t) c)) (slot_count (pool_of t)) 0) where
  abbrev p : Pool
  p = pool_of t

  abbrev q : List ℕ
  q = take end queue

  -- with links, and not queued
  abbrev left_over : ℕ → Bool
  left_over c = has_links (slot_at p c) && not (elem c q)

  queued_linked : (c : ℕ) → elem c q ≡ true → (has_links (slot_at p c) ≡ true) × (get_or needs c 0 ≡ 0)
  queued_linked c h =
      let u = and_both (ltb c (slot_count p)) (has_links (slot_at p c) && eqb (get_or needs c 0) 0) (sym (w.queued c) ∙ h) in
      let v = and_both (has_links (slot_at p c)) (eqb (get_or needs c 0) 0) u.1 in
      (v.0, eqb-true (get_or needs c 0) 0 v.1)

  counted : linked ≡ end + count_from left_over (slot_count p) 0
  counted =
      omega (
        arith,
        e,
        count_parts (λ c. has_links (slot_at p c)) (λ c. elem c q) left_over (slot_count p) 0 (λ c. parts (elem c q) (has_links (slot_at p c)) (λ h. (queued_linked c h).0)),
        count_parts (λ c. true) (λ c. elem c q) (λ c. not (elem c q)) (slot_count p) 0 (λ c. both (elem c q)),
        count_all (slot_count p) 0,
        once_missing (slot_count p) q (walk_once w),
        length-take-le end queue (omega (arith, w.short, w.long)),
      )
    where
      parts : (b h : Bool) → (b ≡ true → h ≡ true) → bit h ≡ bit b + bit (h && not b)
      parts true h f = ap (λ (x : Bool). bit x) (f refl) ∙ sym (ap (λ (x : Bool). 1 + bit (x && false)) (f refl))
      parts false true f = refl
      parts false false f = refl

      both : (b : Bool) → 1 ≡ bit b + bit (not b)
      both true = refl
      both false = refl

  bounded : Bounded (is_parent p) (slot_count p)
  bounded = record { from = λ i a h. (parent_parts p i a h).0; to = λ i a h. (parent_parts p i a h).1 }

  -- all are queued
  module _ (all : end ≡ linked) where
    linked_queued : (c : ℕ) → c < slot_count p → has_links (slot_at p c) ≡ true → elem c q ≡ true
    linked_queued c l h =
        not-false (elem c q) (ap (λ (x : Bool). x && not (elem c q)) (sym h) ∙ count_zero left_over (slot_count p) (omega (arith, counted, all)) c l)

    parent_met : (a b : ℕ) → a < slot_count p → b < capacity → has_in (slot_at p a).parents b ≡ true → of_done p q b a ≡ true
    parent_met a b l m h =
        let z = (queued_linked a (linked_queued a l (named_linked (slot_at p a) Parents b h))).1 in
        met_all p (of_done p q) a b (sym (w.needed a l) ∙ z) m h

    parent_answers : (a b : ℕ) → a < slot_count p → b < capacity → has_in (slot_at p a).parents b ≡ true → (occupied p b && is_child p b a) ≡ true
    parent_answers a b l m h =
        let u = w.walked b a (parent_met a b l m h) in
        let v = tied_parts p b a u.2 in
        ap₂ ◌&&◌ v.0 (is_child_lem p b a (occupied_in p b v.0) l u.1)

    child_answers : (a b : ℕ) → a < slot_count p → has_in (slot_at p a).children b ≡ true → (occupied p b && is_parent p b a) ≡ true
    child_answers a b l h =
        let here = linked_queued a l (named_linked (slot_at p a) Children b h) in
        let v = tied_parts p a b (w.walked a b (ap₂ ◌&&◌ here h)).2 in
        ap₂ ◌&&◌ v.1 (is_parent_lem p b a (occupied_in p b v.1) l v.2)

    all_mutual : links_mutual p ≡ true
    unfolding links_mutual is_answered
    all_mutual =
        at_all (λ a. all_from (is_answered p a) capacity 0) (slot_count p) 0
        (λ a _ l.
        at_all (is_answered p a) capacity 0
        (λ b _ m.
        ap₂ ◌&&◌
        (implies (has_in (slot_at p a).parents b) (occupied p b && is_child p b a) (parent_answers a b (omega arith) (omega arith)))
        (implies (has_in (slot_at p a).children b) (occupied p b && is_parent p b a) (child_answers a b (omega arith)))))

    linked_way : {i a : ℕ} → Way (is_parent p) i a → elem i q ≡ true
    linked_way {i} {a} (step h) =
        let u = parent_parts p i a h in
        linked_queued i u.0 (named_linked (slot_at p i) Parents a u.2)
    linked_way {i} {a} (further {p = x} h v) =
        let u = parent_parts p i x h in
        linked_queued i u.0 (named_linked (slot_at p i) Parents x u.2)

    all_acyclic : acyclic p ≡ true
    unfolding acyclic
    all_acyclic =
        ap not
        (refuted (is_cyclic (is_parent p) (slot_count p))
        (λ h. let c = cyclic_is (is_parent p) (slot_count p) h in w.sound c.0 (linked_way c.2) c.2))

  -- mutual links without a cycle leave nobody
  module _ (named : links_mutual p ≡ true) (none : acyclic p ≡ true) where
    abbrev waits : ℕ → Bool
    waits i = ltb i (slot_count p) && left_over i

    -- who is not queued has a parent from which none was walked to it
    wants : (i : ℕ) → i < slot_count p → has_links (slot_at p i) ≡ true → elem i q ≡ false → unmet p (of_done p q) i ≡ 0 → ⊥
    wants i l h n z =
        clash (w.queued i ∙ ap₂ ◌&&◌ (lt-ltb i (slot_count p) l) (ap₂ ◌&&◌ h (eq-eqb (get_or needs i 0) 0 (w.needed i l ∙ z)))) n

    on : (i : ℕ) → waits i ≡ true → (a : ℕ) × (is_parent p i a ≡ true) × (waits a ≡ true)
    on i h =
        let u = and_both (ltb i (slot_count p)) (left_over i) h in
        let l = ltb-true i (slot_count p) u.0 in
        let v = and_both (has_links (slot_at p i)) (not (elem i q)) u.1 in
        let s = unmet_some p (of_done p q) i (wants i l v.0 (not-true (elem i q) v.1)) in
        let b = s.0 in
        let m = named_in t named Parents i b l s.2 in
        let parent = is_parent_lem p i b l m s.2 in
        let child = parent_child t named i b parent in
        let away : elem b q ≡ false = is_false (elem b q) (λ x. clash (ap₂ ◌&&◌ x child) s.3) in
        (b, parent, ap₂ ◌&&◌ (lt-ltb b (slot_count p) m) (ap₂ (λ (x y : Bool). x && not y) (named_linked (slot_at p b) Children i child) away))

    nobody : (i : ℕ) → i < slot_count p → left_over i ≡ false
    unfolding acyclic
    nobody i l =
        ap (λ (x : Bool). x && left_over i) (sym (lt-ltb i (slot_count p) l))
        ∙ endless bounded (not-true (is_cyclic (is_parent p) (slot_count p)) none) waits on i

    none_left : end ≡ linked
    none_left = omega (arith, counted, count_none left_over (slot_count p) nobody)

  pub walk_end : eqb end linked ≡ (links_mutual p && acyclic p)
  walk_end =
      cases (eqb end linked)
      (λ h. h ∙ sym (ap₂ ◌&&◌ (all_mutual (eqb-true end linked h)) (all_acyclic (eqb-true end linked h))))
      (λ h.
      h
      ∙ sym
      (is_false (links_mutual p && acyclic p)
      (λ b. let u = and_both (links_mutual p) (acyclic p) b in clash (eq-eqb end linked (none_left u.0 u.1)) h)))
