-- The survey of all slots: how many parents each names, and which of those with links name none. Assumes nothing.
use mathlib.Core.Path.{◌≡◌, refl, sym, ap, ap₂, ◌∙◌, subst}
use mathlib.Core.Bool.{Bool, true, false, ◌&&◌, ◌||◌, and-true, and-false, or-false}
use mathlib.Core.List.{List, [], ◌∷◌, ◌++◌}
use Prim.Native.Nat.{ℕ, ◌+◌, ◌≤◌, ◌<◌}
use native.Mathlib.Nat.{zero-add}
use native.Mathlib.Numerals.{add-one}
use native.Mathlib.Omega.{arith}
use lib.Dec.{eqb, ltb}
use lib.ListN.{length, get_or, take, set, replicate, length-set}
use lib.Seq.{get_or-set_same, get_or-set_other, take-suc-set}
use borrow.Author.Tests.{le-ltb, eq-eqb, ne_eqb, eqb-true, eqb-false}
use Rattle.lists.specs.Below.{bit, count_from}
use Rattle.lists.specs.Lists.{elem, any_of}
use Rattle.lists.proofs.Bools.{clash, cases, and_both}
use Rattle.lists.proofs.Numbers.{below_here, below_else}
use Rattle.lists.proofs.Below.{count_ext, count_split}
use Rattle.lists.proofs.Ranges.{count_none}
use Rattle.lists.proofs.Lists.{elem_snoc}
use Rattle.lists.proofs.Once.{Once, once_none, once_more}
use Rattle.txset.specs.Sets.{has_in}
use Rattle.ways.specs.Ways.{Way, step, further}
use Rattle.slotsets.specs.SlotSets.{capacity}
use Rattle.pool_table.specs.declared.Side.TheVariants.{Parents}
use Rattle.pool_table.specs.Pool.{Pool, slot_at, slot_count}
use Rattle.pool_table.specs.Links.{has_links, is_parent}
use Rattle.pool_table.proofs.Parts.{zeros_at}
use Rattle.pool_table.proofs.Named.{unlinked_side}
use Rattle.pool_links.specs.Steps.{unmet, no_link, Walk}
use Rattle.pool_links.proofs.Mutual.{parent_parts}
use Rattle.pool_links.proofs.Walks.{met_all}

-- no link was walked: all parents are to come
pub unmet_all : (p : Pool) (s k : ℕ) → k ≡ count_from (has_in (slot_at p s).parents) capacity 0 → k ≡ unmet p no_link s
unfolding unmet
unmet_all p s k e =
    e
    ∙ count_ext (has_in (slot_at p s).parents) (λ b. has_in (slot_at p s).parents b && true) capacity 0 (λ b _ _. sym (and-true (has_in (slot_at p s).parents b)))

unmet_none : (p : Pool) (s : ℕ) → has_links (slot_at p s) ≡ false → unmet p no_link s ≡ 0
unfolding unmet
unmet_none p s h =
    count_none (λ b. has_in (slot_at p s).parents b && true) capacity (λ b _. ap (λ (t : Bool). t && true) (unlinked_side (slot_at p s) h Parents b))

-- the slots below s were looked at
pub record Surveyed (p : Pool) (s : ℕ) (needs queue : List ℕ) (linked end : ℕ) : Type 0 where
  pub few : slot_count p ≤ capacity
  pub past : s ≤ slot_count p
  pub wide : length needs ≡ capacity
  pub long : length queue ≡ capacity
  pub short : end ≤ s
  pub needed : (c : ℕ) → c < s → get_or needs c 0 ≡ unmet p no_link c
  pub rest : (c : ℕ) → s ≤ c → get_or needs c 0 ≡ 0
  pub queued : (c : ℕ) → elem c (take end queue) ≡ (ltb c s && (has_links (slot_at p c) && eqb (get_or needs c 0) 0))
  pub once : Once (slot_count p) (take end queue)
  pub count : linked ≡ count_from (λ c. has_links (slot_at p c)) s 0

pub survey_start : (p : Pool) (queue : List ℕ) → slot_count p ≤ capacity → length queue ≡ capacity → Surveyed p 0 (replicate capacity 0) queue 0 0
unfolding elem any_of count_from
survey_start p queue few long =
    record {
      few = few;
      past = omega arith;
      wide = refl;
      long = long;
      short = omega arith;
      needed = λ c l. absurd (omega arith);
      rest = λ c l. zeros_at capacity c;
      queued = λ c. sym (ap (λ (t : Bool). t && (has_links (slot_at p c) && eqb (get_or {A = ℕ} (replicate capacity 0) c 0) 0)) (le-ltb c 0 (omega arith)));
      once = once_none (slot_count p);
      count = refl;
    }

module _ {p : Pool} {s : ℕ} {needs queue : List ℕ} {linked end : ℕ} (w : Surveyed p s needs queue linked end) (l : s < slot_count p) where
  -- a property of the slots below s, and of s
  below_too : (P : ℕ → Type 0) → ((c : ℕ) → c < s → P c) → P s → (c : ℕ) → c < s + 1 → P c
  below_too P h e c m = cases (eqb c s) (λ z. subst P (sym (eqb-true c s z)) e) (λ z. h c (let n : c ≡ s → ⊥ = eqb-false c s z in omega (arith, m, n)))

  count_more : (b : Bool) → has_links (slot_at p s) ≡ b → linked + bit b ≡ count_from (λ c. has_links (slot_at p c)) (s + 1) 0
  unfolding count_from
  count_more b e =
      let f : ℕ → Bool = λ c. has_links (slot_at p c) in
      let z : 0 + s ≡ s = zero-add s in
      omega (arith, w.count, count_split f s 1 0, ap bit (sym e), ap (λ (n : ℕ). bit (f n)) z)

  -- those that were queued are the same
  same : (needs' : List ℕ) → ((c : ℕ) → (c ≡ s → ⊥) → get_or needs' c 0 ≡ get_or needs c 0) → (has_links (slot_at p s) && eqb (get_or needs' s 0) 0) ≡ false
      → (c : ℕ) → elem c (take end queue) ≡ (ltb c (s + 1) && (has_links (slot_at p c) && eqb (get_or needs' c 0) 0))
  same needs' else none c =
      cases (eqb c s)
      (λ z. subst Same (sym (eqb-true c s z)) here)
      (λ z.
      let n = eqb-false c s z in
      w.queued c ∙ ap₂ (λ (t : Bool) (k : ℕ). t && (has_links (slot_at p c) && eqb k 0)) (sym (below_else c s (λ e. n (sym e)))) (sym (else c n)))
    where
      Same : ℕ → Type 0
      Same x = elem x (take end queue) ≡ (ltb x (s + 1) && (has_links (slot_at p x) && eqb (get_or needs' x 0) 0))

      here : Same s
      here =
          w.queued s
          ∙ ap (λ (t : Bool). t && (has_links (slot_at p s) && eqb (get_or needs s 0) 0)) (le-ltb s s (omega arith))
          ∙ sym (ap (λ (t : Bool). ltb s (s + 1) && t) none ∙ and-false (ltb s (s + 1)))

  -- a slot without links
  pub survey_free : has_links (slot_at p s) ≡ false → Surveyed p (s + 1) needs queue linked end
  survey_free h =
      record {
        few = w.few;
        past = omega arith;
        wide = w.wide;
        long = w.long;
        short = omega (arith, w.short);
        needed = below_too (λ c. get_or needs c 0 ≡ unmet p no_link c) w.needed (w.rest s (omega arith) ∙ sym (unmet_none p s h));
        rest = λ c m. w.rest c (omega arith);
        queued = same needs (λ c n. refl) (ap (λ (t : Bool). t && eqb (get_or needs s 0) 0) h);
        once = w.once;
        count = omega (arith, count_more false h);
      }

  module _ (h : has_links (slot_at p s) ≡ true) (k : ℕ) (e : k ≡ count_from (has_in (slot_at p s).parents) capacity 0) where
    at_slot : get_or (set needs s k) s 0 ≡ k
    at_slot = get_or-set_same needs s k 0 (omega (arith, w.wide, w.few))

    at_else : (c : ℕ) → (c ≡ s → ⊥) → get_or (set needs s k) c 0 ≡ get_or needs c 0
    at_else c n = get_or-set_other needs s c k 0 n

    needed_too : (c : ℕ) → c < s + 1 → get_or (set needs s k) c 0 ≡ unmet p no_link c
    needed_too =
        below_too (λ c. get_or (set needs s k) c 0 ≡ unmet p no_link c) (λ c m. at_else c (λ z. omega arith) ∙ w.needed c m) (at_slot ∙ unmet_all p s k e)

    -- with links, and parents
    pub survey_child : (k ≡ 0 → ⊥) → Surveyed p (s + 1) (set needs s k) queue (linked + 1) end
    survey_child n =
        record {
          few = w.few;
          past = omega arith;
          wide = length-set needs s k ∙ w.wide;
          long = w.long;
          short = omega (arith, w.short);
          needed = needed_too;
          rest = λ c m. at_else c (λ z. omega arith) ∙ w.rest c (omega arith);
          queued = same (set needs s k) at_else
              (ap (λ (x : ℕ). has_links (slot_at p s) && eqb x 0) at_slot ∙ ap (λ (t : Bool). has_links (slot_at p s) && t) (ne_eqb k 0 n) ∙ and-false (has_links (slot_at p s)));
          once = w.once;
          count = count_more true h;
        }

    not_queued : elem s (take end queue) ≡ false
    not_queued = w.queued s ∙ ap (λ (t : Bool). t && (has_links (slot_at p s) && eqb (get_or needs s 0) 0)) (le-ltb s s (omega arith))

    pub survey_room : end < capacity
    survey_room = omega (arith, w.short, w.few)

    grown : take (end + 1) (set queue end s) ≡ take end queue ++ (s ∷ [])
    grown = ap (λ (x : ℕ). take x (set queue end s)) (add-one end) ∙ take-suc-set queue end s (omega (arith, survey_room, w.long))

    -- with links, and no parents
    pub survey_root : k ≡ 0 → Surveyed p (s + 1) (set needs s k) (set queue end s) (linked + 1) (end + 1)
    survey_root z =
        record {
          few = w.few;
          past = omega arith;
          wide = length-set needs s k ∙ w.wide;
          long = length-set queue end s ∙ w.long;
          short = omega (arith, w.short);
          needed = needed_too;
          rest = λ c m. at_else c (λ q. omega arith) ∙ w.rest c (omega arith);
          queued = λ c. ap (elem c) grown ∙ elem_snoc c s (take end queue) ∙ cases (eqb c s) (λ q. subst Put (sym (eqb-true c s q)) put) (kept c);
          once = subst (Once (slot_count p)) (sym grown) (once_more (slot_count p) (take end queue) s l not_queued w.once);
          count = count_more true h;
        }
      where
        Put : ℕ → Type 0
        Put c = (elem c (take end queue) || eqb c s) ≡ (ltb c (s + 1) && (has_links (slot_at p c) && eqb (get_or (set needs s k) c 0) 0))

        put : Put s
        put =
            ap₂ ◌||◌ not_queued (eq-eqb s s refl)
            ∙ sym (ap₂ ◌&&◌ (below_here s) (ap₂ ◌&&◌ h (eq-eqb (get_or (set needs s k) s 0) 0 (at_slot ∙ z))))

        kept : (c : ℕ) → eqb c s ≡ false → Put c
        kept c q =
            let n = eqb-false c s q in
            ap (λ (t : Bool). elem c (take end queue) || t) q
            ∙ or-false (elem c (take end queue))
            ∙ w.queued c
            ∙ ap₂ (λ (t : Bool) (x : ℕ). t && (has_links (slot_at p c) && eqb x 0)) (sym (below_else c s (λ e. n (sym e)))) (sym (at_else c n))

-- at the end no link was walked, and who is queued has no parents
pub survey_done : {p : Pool} {s : ℕ} {needs queue : List ℕ} {linked end : ℕ} → Surveyed p s needs queue linked end → slot_count p ≤ s
    → Walk p no_link needs queue end × (linked ≡ count_from (λ c. has_links (slot_at p c)) (slot_count p) 0)
survey_done {p} {s} {needs} {queue} {linked} {end} w m = (
  record {
    few = w.few;
    wide = w.wide;
    long = w.long;
    short = omega (arith, w.short, w.few, w.past);
    needed = λ c l. w.needed c (omega arith);
    queued = λ c. w.queued c ∙ ap (λ (n : ℕ). ltb c n && (has_links (slot_at p c) && eqb (get_or needs c 0) 0)) all;
    below = w.once.below;
    once = w.once.once;
    walked = λ b c h. clash h refl;
    closed = λ i a h e. absurd (no_parent i a h e);
    sound = alone;
  },
  w.count ∙ ap (λ (n : ℕ). count_from (λ c. has_links (slot_at p c)) n 0) all,
)
  where
    all : s ≡ slot_count p
    all = omega (arith, m, w.past)

    no_parent : (i a : ℕ) → elem i (take end queue) ≡ true → is_parent p i a ≡ true → ⊥
    no_parent i a h e =
        let u = parent_parts p i a e in
        let q = and_both (ltb i s) (has_links (slot_at p i) && eqb (get_or needs i 0) 0) (sym (w.queued i) ∙ h) in
        let z = eqb-true (get_or needs i 0) 0 (and_both (has_links (slot_at p i)) (eqb (get_or needs i 0) 0) q.1).1 in
        clash (met_all p no_link i a (sym (w.needed i (omega (arith, u.0, m))) ∙ z) (omega (arith, u.1, w.few)) u.2) refl

    alone : (i : ℕ) → elem i (take end queue) ≡ true → Way (is_parent p) i i → ⊥
    alone i h (step e) = no_parent i i h e
    alone i h (further {p = q} e u) = no_parent i q h e
