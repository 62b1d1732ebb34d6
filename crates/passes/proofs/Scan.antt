-- The loops of a pass as records over plain values, with a law for each thing that the code does to them. Assumes nothing.
use mathlib.Core.Path.{◌≡◌, refl, sym, ap, ap₂, ◌∙◌}
use mathlib.Core.Bool.{Bool, true, false}
use mathlib.Core.List.{List, [], ◌∷◌, ◌++◌, reverse_aux, append-nil, append_assoc}
use Prim.Native.Nat.{ℕ, suc, ◌+◌, ◌-◌, ◌≤◌, ◌<◌}
use native.Mathlib.Numerals.{add-one}
use native.Mathlib.Omega.{arith}
use lib.ListN.{length, take, drop, get_or, length-append, length-drop, take-append-drop, drop_of_length-le}
use lib.Seq.{length-take-le, take_all, take_at, drop_at, take-suc, drop-cons, get_or_at, take-append-add, drop-append-add}
use Rattle.feefrac.specs.declared.FeeFrac.{FeeFrac}
use Rattle.feefrac.specs.Rate.{higher}
use Rattle.txset.specs.Sets.{overlap, mem_at}
use Rattle.passes.specs.declared.pass.Group.{Group as Summary}
use Rattle.passes.specs.Moves.{brought}
use Rattle.passes.specs.Summary.{Joined}
use Rattle.passes.specs.Pass.{Group, absorb, depends_on, settle, alone, groups_after, flat, one_pass}
use Rattle.passes.proofs.Groups.{Stands, joined_stands, overlap_depends, Stack, none, more, Near, Far, Stored, stack_same, stack_kept, stack_push}
use Rattle.passes.proofs.Parts.{mid_at, put_at_lem, length_brought}

-- ---- lists of groups

-- the members of groups that were stepped over, those of the last one first
unfoldable pub behind : List Group → List ℕ
behind [] = []
behind (o ∷ os) = o.txs ++ behind os

-- the groups stepped over, put back in front of l
pub flat_back : (os l : List Group) → flat (reverse_aux os l) ≡ flat l ++ behind os
unfolding flat behind
flat_back [] l = sym (append-nil (flat l))
flat_back (o ∷ os) l = flat_back os (o ∷ l) ∙ append_assoc (flat l) o.txs (behind os)

-- one member more
pub after_snoc : (rate : ℕ → FeeFrac) (dep : ℕ → ℕ → Bool) (gs : List Group) (ts : List ℕ) (t : ℕ)
    → groups_after rate dep gs (ts ++ (t ∷ [])) ≡ settle dep (alone rate t) (groups_after rate dep gs ts)
unfolding groups_after
after_snoc rate dep gs [] t = refl
after_snoc rate dep gs (u ∷ ts) t = after_snoc rate dep (settle dep (alone rate u) gs) ts t

-- a group of a stack has a member
few_flat : {place : ℕ → ℕ} {ws : List ℕ} {xs : ℕ → Summary} {gs : List Group} → Stack place ws xs gs → length gs ≤ length (flat gs)
unfolding flat
few_flat none = omega arith
few_flat (more g gs n t v) = omega (arith, few_flat v, length-append (flat gs) g.txs)

length_behind : (gs : List Group) → length (behind gs) ≡ length (flat gs)
unfolding behind flat
length_behind [] = refl
length_behind (g ∷ gs) = omega (arith, length_behind gs, length-append g.txs (behind gs), length-append (flat gs) g.txs)

-- ---- at the head of the loop over the members

-- the list has the members of the groups gs, k in all, and then the rest; the first `count` summaries stand for gs
pub record Held (ws : List ℕ) (gs : List Group) (rest order : List ℕ) (groups : ℕ → Summary) (count k : ℕ) : Type 0 where
  pub stack : Near ws groups gs
  pub many : count ≡ length gs
  pub size : k ≡ length (flat gs)
  pub lies : order ≡ flat gs ++ rest

-- the first k members have made their groups
pub record Outer (m : ℕ) (rate : ℕ → FeeFrac) (ws order₀ order : List ℕ) (groups : ℕ → Summary) (count k : ℕ) : Type 0 where
  pub held : Held ws (groups_after rate (mem_at ws) [] (take k order₀)) (drop k order₀) order groups count k
  pub within : k ≤ length order₀
  pub same : length order ≡ length order₀
  pub small : length order ≤ m

pub outer_start : {m : ℕ} (rate : ℕ → FeeFrac) (ws order : List ℕ) (groups : ℕ → Summary) → length order ≤ m
    → Outer m rate ws order order groups 0 0
unfolding groups_after flat
outer_start rate ws order groups h =
    record { held = record { stack = none; many = refl; size = refl; lies = refl }; within = omega arith; same = refl; small = h }

-- ---- in the scan

-- the groups bs are below the current one, g, and os were stepped over, the last one first: `ahead` of their members stand in
-- front of g's, the others behind; the array has bs at its start and os at its end; what comes of it is `goal`
pub record State (m : ℕ) (ws : List ℕ) (goal : List Group) (rest order : List ℕ) (groups : ℕ → Summary) (cur : Summary) (below from ahead over : ℕ)
    (bs os : List Group) (g : Group) : Type 0 where
  pub under : Near ws groups bs
  pub gone : Far m ws groups os
  pub current : Stands ws cur g
  pub low : below ≡ length bs
  pub high : over ≡ length os
  pub start : from ≡ length (flat bs)
  pub few : ahead ≤ length (behind os)
  pub lies : order ≡ flat bs ++ ((take ahead (behind os) ++ g.txs) ++ (drop ahead (behind os) ++ rest))
  pub comes : reverse_aux os (settle (mem_at ws) g bs) ≡ goal

-- the same of some groups
pub record Scan (m : ℕ) (ws : List ℕ) (goal : List Group) (rest order : List ℕ) (groups : ℕ → Summary) (cur : Summary)
    (below from ahead over : ℕ) : Type 0 where
  pub bs : List Group
  pub os : List Group
  pub g : Group
  pub state : State m ws goal rest order groups cur below from ahead over bs os g

-- the same where `prev` is the summary of the group p on top of those below
pub record Top (m : ℕ) (ws : List ℕ) (goal : List Group) (rest order : List ℕ) (groups : ℕ → Summary) (cur : Summary) (below from ahead over : ℕ)
    (prev : Summary) : Type 0 where
  pub p : Group
  pub bs : List Group
  pub os : List Group
  pub g : Group
  pub state : State m ws goal rest order groups cur below from ahead over (p ∷ bs) os g
  pub under : Near ws groups bs
  pub top : Stands ws prev p

-- the same where the scan is over
pub record Rest (m : ℕ) (ws : List ℕ) (goal : List Group) (rest order : List ℕ) (groups : ℕ → Summary) (cur : Summary)
    (below from ahead over : ℕ) : Type 0 where
  pub bs : List Group
  pub os : List Group
  pub g : Group
  pub state : State m ws goal rest order groups cur below from ahead over bs os g
  pub settled : settle (mem_at ws) g bs ≡ g ∷ bs

-- how far the numbers of a scan go
pub record Room (order : List ℕ) (cur : Summary) (below from ahead over : ℕ) : Type 0 where
  pub fit : from + ahead + cur.len ≤ length order
  pub few : below + over < length order

-- at the head of the scan for the member t: whatever the groups gs and the rest of the list were where it began, it works t into gs
pub record Inner (m : ℕ) (rate : ℕ → FeeFrac) (ws order₀ : List ℕ) (groups₀ : ℕ → Summary) (count k t : ℕ) (order : List ℕ)
    (groups : ℕ → Summary) (cur : Summary)
    (below from ahead over : ℕ) : Type 0 where
  pub same : length order ≡ length order₀
  pub small : length order ≤ m
  pub room : Room order cur below from ahead over
  pub scan : (gs : List Group) (rest : List ℕ) → Held ws gs (t ∷ rest) order₀ groups₀ count k
      → Scan m ws (settle (mem_at ws) (alone rate t) gs) rest order groups cur below from ahead over

pub scan_start : {m : ℕ} {ws : List ℕ} {gs : List Group} {t : ℕ} {rest order : List ℕ} {groups : ℕ → Summary} {count k : ℕ} {cur : Summary}
    (rate : ℕ → FeeFrac) → Held ws gs (t ∷ rest) order groups count k → Stands ws cur (alone rate t)
    → Scan m ws (settle (mem_at ws) (alone rate t) gs) rest order groups cur count k 0 0
unfolding behind
scan_start {gs = gs} {t = t} rate v a =
    record {
      bs = gs;
      os = [];
      g = alone rate t;
      state = record {
        under = v.stack;
        gone = none;
        current = a;
        low = v.many;
        high = refl;
        start = v.size;
        few = omega arith;
        lies = v.lies;
        comes = refl;
      };
    }

module _ {m : ℕ} {ws : List ℕ} {goal : List Group} {rest order : List ℕ} {groups : ℕ → Summary} {cur : Summary} {below from ahead over : ℕ} where
  pub uncover : {prev : Summary} → prev ≡ groups (below - 1) → Scan m ws goal rest order groups cur below from ahead over → 0 < below
      → Top m ws goal rest order groups cur below from ahead over prev
  uncover {prev} is v h = go v.state.under v.state
    where
      go : {bs : List Group} → Near ws groups bs → State m ws goal rest order groups cur below from ahead over bs v.os v.g
          → Top m ws goal rest order groups cur below from ahead over prev
      go none s = absurd (omega (arith, s.low))
      go (more p bs n t w) s =
          let e : below - 1 ≡ length bs = omega (arith, s.low) in
          record { p = p; bs = bs; os = v.os; g = v.g; state = s; under = w; top = rw (is, e) t }

  module _ {bs os : List Group} {g : Group} (s : State m ws goal rest order groups cur below from ahead over bs os g) where
    abbrev front : List ℕ
    front = take ahead (behind os)

    abbrev back : List ℕ
    back = drop ahead (behind os)

    front_size : length front ≡ ahead
    front_size = length-take-le ahead (behind os) s.few

    part_size : length (front ++ g.txs) ≡ ahead + cur.len
    part_size = omega (arith, length-append front g.txs, front_size, s.current.len)

    pub state_size : length order ≡ length (flat bs) + (length g.txs + length (behind os)) + length rest
    state_size =
        ap length s.lies ∙ length-append (flat bs) ((front ++ g.txs) ++ (back ++ rest))
        ∙ omega (
          arith,
          length-append (front ++ g.txs) (back ++ rest),
          length-append back rest,
          length-drop ahead (behind os),
          part_size,
          s.current.len,
          s.few,
        )

    -- the members ahead go behind the current group's: all that were stepped over stand behind it
    pub brought_lies : brought order from ahead cur.len ≡ flat bs ++ (g.txs ++ (behind os ++ rest))
    unfolding brought
    brought_lies =
        let k = ahead + cur.len in
        let mid : take k (drop from order) ≡ front ++ g.txs =
        ap (λ (l : List ℕ). take k (drop from l)) s.lies ∙ mid_at (flat bs) (front ++ g.txs) (back ++ rest) from k (sym s.start) part_size
        in
        let turned : drop ahead (take k (drop from order)) ++ take ahead (take k (drop from order)) ≡ g.txs ++ front =
        ap (λ (l : List ℕ). drop ahead l ++ take ahead l) mid
        ∙ ap₂ ◌++◌ (drop_at front g.txs ahead front_size) (take_at front g.txs ahead front_size)
        in
        ap₂ (λ (l new : List ℕ). take from l ++ (new ++ drop k (drop from l))) s.lies turned
        ∙ put_at_lem (flat bs) (front ++ g.txs) (back ++ rest) (g.txs ++ front) from k (sym s.start) part_size
        ∙ ap (λ (l : List ℕ). flat bs ++ l)
        (append_assoc g.txs front (back ++ rest)
        ∙ ap (λ (l : List ℕ). g.txs ++ l) (sym (append_assoc front back rest) ∙ ap (λ (l : List ℕ). l ++ rest) (take-append-drop ahead (behind os))))

  pub scan_room : Scan m ws goal rest order groups cur below from ahead over → Room order cur below from ahead over
  scan_room v =
      let s = v.state in
      record {
        fit = omega (arith, state_size s, s.start, s.few, s.current.len);
        few = omega (arith, state_size s, few_flat s.under, few_flat s.gone, length_behind v.os, s.low, s.high, s.current.some);
      }

  pub rest_empty : Scan m ws goal rest order groups cur below from ahead over → below ≡ 0 → Rest m ws goal rest order groups cur below from ahead over
  unfolding settle
  rest_empty v e = record { bs = v.bs; os = v.os; g = v.g; state = v.state; settled = go v.bs (omega (arith, v.state.low)) }
    where
      go : (bs : List Group) → length bs ≡ 0 → settle (mem_at ws) v.g bs ≡ v.g ∷ bs
      go [] n = refl
      go (b ∷ bs) n = absurd (omega arith)

  module _ {prev : Summary} (u : Top m ws goal rest order groups cur below from ahead over prev) where
    -- the group on top stands in the list before the members ahead
    pub top_len : prev.len ≤ from
    unfolding flat
    top_len = omega (arith, u.top.len, u.state.start, length-append (flat u.bs) u.p.txs)

    -- the code's two tests are those of the definition
    is_above_lem : higher u.g.rate u.p.rate ≡ higher cur.rate prev.rate
    is_above_lem = sym (ap₂ higher u.state.current.rate u.top.rate)

    is_dependent : depends_on (mem_at ws) u.g u.p ≡ overlap cur.deps prev.set
    is_dependent = sym (overlap_depends u.state.current u.top)

    settle_merge : higher cur.rate prev.rate ≡ true → overlap cur.deps prev.set ≡ true
        → settle (mem_at ws) u.g (u.p ∷ u.bs) ≡ settle (mem_at ws) (absorb u.p u.g) u.bs
    unfolding settle
    settle_merge h d = rw (is_above_lem ∙ h, is_dependent ∙ d)

    settle_step : higher cur.rate prev.rate ≡ true → overlap cur.deps prev.set ≡ false
        → settle (mem_at ws) u.g (u.p ∷ u.bs) ≡ u.p ∷ settle (mem_at ws) u.g u.bs
    unfolding settle
    settle_step h d = rw (is_above_lem ∙ h, is_dependent ∙ d)

    settle_stop : higher cur.rate prev.rate ≡ false → settle (mem_at ws) u.g (u.p ∷ u.bs) ≡ u.g ∷ u.p ∷ u.bs
    unfolding settle
    settle_stop h = rw (is_above_lem ∙ h)

    pub rest_top : higher cur.rate prev.rate ≡ false → Rest m ws goal rest order groups cur below from ahead over
    rest_top h = record { bs = u.p ∷ u.bs; os = u.os; g = u.g; state = u.state; settled = settle_stop h }

    -- the current group moves up to the one before it, and the two are one
    pub scan_merge : {both : Summary} → higher cur.rate prev.rate ≡ true → overlap cur.deps prev.set ≡ true → Joined prev cur both
        → Scan m ws goal rest (brought order from ahead cur.len) groups both (below - 1) (from - prev.len) 0 over
    unfolding flat
    scan_merge h d j =
        let s = u.state in
        record {
          bs = u.bs;
          os = u.os;
          g = absorb u.p u.g;
          state = record {
            under = u.under;
            gone = s.gone;
            current = joined_stands j u.top s.current;
            low = omega (arith, s.low);
            high = s.high;
            start = omega (arith, u.top.len, s.start, length-append (flat u.bs) u.p.txs);
            few = omega arith;
            lies = brought_lies s ∙ append_assoc (flat u.bs) u.p.txs (u.g.txs ++ (behind u.os ++ rest))
                ∙ ap (λ (l : List ℕ). flat u.bs ++ l) (sym (append_assoc u.p.txs u.g.txs (behind u.os ++ rest)));
            comes = ap (reverse_aux u.os) (sym (settle_merge h d)) ∙ s.comes;
          };
        }

    -- the current group leaves the one before it as it is
    pub scan_step : higher cur.rate prev.rate ≡ true → overlap cur.deps prev.set ≡ false → {new : ℕ → Summary}
        → Stored groups new (m - 1 - over) prev → below + over < m
        → Scan m ws goal rest order new cur (below - 1) (from - prev.len) (ahead + prev.len) (over + 1)
    unfolding flat behind
    scan_step h d e r =
        let s = u.state in
        let size : ahead + prev.len ≡ length u.p.txs + ahead = omega (arith, u.top.len) in
        let long = length-append u.p.txs (behind u.os) in
        let over-front : take (ahead + prev.len) (u.p.txs ++ behind u.os) ≡ u.p.txs ++ front s =
        ap (λ (n : ℕ). take n (u.p.txs ++ behind u.os)) size ∙ take-append-add u.p.txs (behind u.os) ahead
        in
        let over-back : drop (ahead + prev.len) (u.p.txs ++ behind u.os) ≡ back s =
        ap (λ (n : ℕ). drop n (u.p.txs ++ behind u.os)) size ∙ drop-append-add u.p.txs (behind u.os) ahead
        in
        record {
          bs = u.bs;
          os = u.p ∷ u.os;
          g = u.g;
          state = record {
            under = stack_kept e (λ n i z. omega (arith, s.low)) u.under;
            gone = stack_push e s.gone (ap (λ (n : ℕ). m - 1 - n) s.high) (λ n i z. omega (arith, s.high)) u.top;
            current = s.current;
            low = omega (arith, s.low);
            high = omega (arith, s.high);
            start = omega (arith, u.top.len, s.start, length-append (flat u.bs) u.p.txs);
            few = omega (arith, s.few);
            lies = s.lies ∙ append_assoc (flat u.bs) u.p.txs ((front s ++ u.g.txs) ++ (back s ++ rest))
                ∙ ap (λ (l : List ℕ). flat u.bs ++ l)
                (sym (append_assoc u.p.txs (front s ++ u.g.txs) (back s ++ rest))
                ∙ ap (λ (l : List ℕ). l ++ (back s ++ rest)) (sym (append_assoc u.p.txs (front s) u.g.txs))
                ∙ ap₂ (λ (l m : List ℕ). (l ++ u.g.txs) ++ (m ++ rest)) (sym over-front) (sym over-back));
            comes = ap (reverse_aux u.os) (sym (settle_step h d)) ∙ s.comes;
          };
        }

-- ---- after the scan

-- the groups stepped over wait at the end of the array: copied to where those under them end, they stand on top, the last one first
put_back : {m : ℕ} {ws : List ℕ} {old new : ℕ → Summary} {os bs : List Group} → Far m ws old os → Near ws new bs → length os ≤ m
    → ((i : ℕ) → i < length os → new (length bs + i) ≡ old (m - length os + i)) → Near ws new (reverse_aux os bs)
put_back none u h e = u
put_back {m} {old = old} {new} {bs = bs} (more p os n t w) u h e =
    let first : new (length bs) ≡ old (m - 1 - length os) = ap new (omega arith) ∙ e 0 (omega arith) ∙ ap old (omega arith) in
    put_back w (more p bs n (rw first t) u) (omega arith) (λ i l. ap new (omega arith) ∙ e (i + 1) (omega arith) ∙ ap old (omega arith))

length_back : (os bs : List Group) → length (reverse_aux os bs) ≡ length bs + length os
length_back [] bs = omega arith
length_back (o ∷ os) bs = omega (arith, length_back os (o ∷ bs))

module _ {m : ℕ} {ws : List ℕ} {goal : List Group} {rest order : List ℕ} {groups : ℕ → Summary} {cur : Summary} {below from ahead over : ℕ}
    (v : Rest m ws goal rest order groups cur below from ahead over) where
  comes_to : reverse_aux v.os (v.g ∷ v.bs) ≡ goal
  comes_to = ap (reverse_aux v.os) (sym v.settled) ∙ v.state.comes

  pub placed : {mid new : ℕ → Summary} → Stored groups mid below cur → ((i : ℕ) → i < below + 1 → new i ≡ mid i)
      → ((i : ℕ) → i < over → new (below + 1 + i) ≡ mid (m - over + i)) → below + over < m
      → (Near ws new goal) × (below + 1 + over ≡ length goal)
  placed {mid} {new} e low high r =
      let s = v.state in
      let under : Near ws mid (v.g ∷ v.bs) = stack_push e s.under s.low (λ n i z. omega arith) s.current in
      let gone : Far m ws mid v.os = stack_kept e (λ n i z. omega (arith, s.high)) s.gone in (
        rw comes_to at
            (put_back gone (stack_same (λ n l. low n (omega (arith, s.low))) under) (omega (arith, s.high))
            (λ i l. ap new (omega (arith, s.low)) ∙ high i (omega (arith, s.high)) ∙ ap mid (omega (arith, s.high)))),
        omega (arith, length_back v.os (v.g ∷ v.bs), ap length comes_to, s.low, s.high),
      )

  pub placed_lies : brought order from ahead cur.len ≡ flat goal ++ rest
  unfolding flat
  placed_lies =
      let txs = v.g.txs in
      let gone = behind v.os in
      brought_lies v.state
      ∙ sym (append_assoc (flat v.bs) txs (gone ++ rest))
      ∙ sym (append_assoc (flat v.bs ++ txs) gone rest)
      ∙ ap (λ (l : List ℕ). l ++ rest) (sym (flat_back v.os (v.g ∷ v.bs)) ∙ ap flat comes_to)

-- ---- a member, from the head of the loop to its end

module _ {m : ℕ} {rate : ℕ → FeeFrac} {ws order₀ order : List ℕ} {groups : ℕ → Summary} {count k : ℕ}
    (v : Outer m rate ws order₀ order groups count k) (h : k < length order₀) where
  abbrev gs : List Group
  gs = groups_after rate (mem_at ws) [] (take k order₀)

  next_is : get_or order k 0 ≡ get_or order₀ k 0
  next_is =
      ap (λ (l : List ℕ). get_or l k 0) (v.held.lies ∙ ap (λ (l : List ℕ). flat gs ++ l) (drop-cons order₀ k 0 h))
      ∙ get_or_at (flat gs) (get_or order₀ k 0) (drop (suc k) order₀) 0 k (sym v.held.size)

  pub outer_next : Held ws gs (get_or order k 0 ∷ drop (k + 1) order₀) order groups count k
  outer_next =
      record {
        stack = v.held.stack;
        many = v.held.many;
        size = v.held.size;
        lies = rw (add-one, next_is) (v.held.lies ∙ ap (λ (l : List ℕ). flat gs ++ l) (drop-cons order₀ k 0 h));
      }

  pub outer_again : {order' : List ℕ} {groups' : ℕ → Summary} {count' : ℕ}
      → (Near ws groups' (settle (mem_at ws) (alone rate (get_or order k 0)) gs))
      × (count' ≡ length (settle (mem_at ws) (alone rate (get_or order k 0)) gs))
      → order' ≡ flat (settle (mem_at ws) (alone rate (get_or order k 0)) gs) ++ drop (k + 1) order₀
      → length order' ≡ length order → Outer m rate ws order₀ order' groups' count' (k + 1)
  outer_again {order'} {groups'} {count'} b e same =
      let goal = settle (mem_at ws) (alone rate (get_or order k 0)) gs in
      let is : groups_after rate (mem_at ws) [] (take (k + 1) order₀) ≡ goal =
      rw (add-one, take-suc order₀ k 0 h, after_snoc, next_is)
      in
      record {
        held = rw is (record {
          stack = b.0;
          many = b.1;
          size = omega (arith, v.same, ap length e, length-append (flat goal) (drop (k + 1) order₀), length-drop (k + 1) order₀);
          lies = e;
        });
        within = omega arith;
        same = same ∙ v.same;
        small = omega (arith, v.small);
      }

-- all members are in their groups
pub outer_done : {m : ℕ} {rate : ℕ → FeeFrac} {ws order₀ order : List ℕ} {groups : ℕ → Summary} {count k : ℕ}
    → Outer m rate ws order₀ order groups count k → length order₀ ≤ k → order ≡ one_pass rate (mem_at ws) order₀
unfolding one_pass
outer_done {m} {rate} {ws} {order₀} {k = k} v h =
    v.held.lies
    ∙ ap₂ (λ (l m : List ℕ). flat (groups_after rate (mem_at ws) [] l) ++ m) (take_all k order₀ h) (drop_of_length-le order₀ h)
    ∙ append-nil (flat (groups_after rate (mem_at ws) [] order₀))

module _ {m : ℕ} {rate : ℕ → FeeFrac} {ws order₀ order : List ℕ} {groups : ℕ → Summary} {count k : ℕ} where
  -- the member is a group of its own, on top of the others
  pub inner_start : {cur : Summary} → Outer m rate ws order₀ order groups count k → k < length order₀ → Stands ws cur (alone rate (get_or order k 0))
      → Inner m rate ws order groups count k (get_or order k 0) order groups cur count k 0 0
  inner_start v h a =
      record {
        same = refl;
        small = v.small;
        room = scan_room {m = m} (scan_start rate (outer_next v h) a);
        scan = λ gs rest g. scan_start rate g a;
      }

module _ {m : ℕ} {rate : ℕ → FeeFrac} {ws order₀ : List ℕ} {groups₀ : ℕ → Summary} {count k t : ℕ} {order : List ℕ}
    {groups : ℕ → Summary} {cur : Summary}
    {below from ahead over : ℕ} {gs : List Group} {rest : List ℕ}
    (v : Inner m rate ws order₀ groups₀ count k t order groups cur below from ahead over) (held : Held ws gs (t ∷ rest) order₀ groups₀ count k)
    (some : 0 < below) {prev : Summary} (is : prev ≡ groups (below - 1)) where
  pub inner_len : prev.len ≤ from
  inner_len = top_len (uncover is (v.scan gs rest held) some)

  pub inner_merge : {new : List ℕ} {both : Summary} → new ≡ brought order from ahead cur.len
      → higher cur.rate prev.rate ≡ true → overlap cur.deps prev.set ≡ true → Joined prev cur both
      → Inner m rate ws order₀ groups₀ count k t new groups both (below - 1) (from - prev.len) 0 over
  inner_merge e h o j =
      let long = length_brought from ahead cur.len order in
      rw e
      (record {
        same = long ∙ v.same;
        small = omega (arith, v.small);
        room = scan_room (scan_merge (uncover is (v.scan gs rest held) some) h o j);
        scan = λ gs rest held. scan_merge (uncover is (v.scan gs rest held) some) h o j;
      })

  pub inner_step : {new : ℕ → Summary} → higher cur.rate prev.rate ≡ true → overlap cur.deps prev.set ≡ false
      → Stored groups new (m - 1 - over) prev
      → Inner m rate ws order₀ groups₀ count k t order new cur (below - 1) (from - prev.len) (ahead + prev.len) (over + 1)
  inner_step h o e =
      let apart : below + over < m = omega (arith, v.room.few, v.small) in
      record {
        same = v.same;
        small = v.small;
        room = scan_room (scan_step (uncover is (v.scan gs rest held) some) h o e apart);
        scan = λ gs rest held. scan_step (uncover is (v.scan gs rest held) some) h o e apart;
      }

-- why the scan ends, and at what index: no group is left, or the one before is not lower
pub data Stopped (groups : ℕ → Summary) (cur : Summary) (below : ℕ) : ℕ → Type 0 where
  at_bottom : below ≡ 0 → Stopped groups cur below 0
  at_top : (prev : Summary) → prev ≡ groups (below - 1) → 0 < below → higher cur.rate prev.rate ≡ false → Stopped groups cur below below

pub stopped_at : {groups : ℕ → Summary} {cur : Summary} {below at : ℕ} → Stopped groups cur below at → at ≡ below
stopped_at (at_bottom e) = sym e
stopped_at (at_top p i h e) = refl

module _ {m : ℕ} {rate : ℕ → FeeFrac} {ws order₀ : List ℕ} {groups₀ : ℕ → Summary} {count k t : ℕ} {order : List ℕ}
    {groups : ℕ → Summary} {cur : Summary}
    {below from ahead over at : ℕ} {gs : List Group} {rest : List ℕ}
    (v : Inner m rate ws order₀ groups₀ count k t order groups cur below from ahead over) (held : Held ws gs (t ∷ rest) order₀ groups₀ count k)
    (stop : Stopped groups cur below at) where
  inner_rest : Rest m ws (settle (mem_at ws) (alone rate t) gs) rest order groups cur below from ahead over
  inner_rest = go stop
    where
      go : {at : ℕ} → Stopped groups cur below at → Rest m ws (settle (mem_at ws) (alone rate t) gs) rest order groups cur below from ahead over
      go (at_bottom e) = rest_empty (v.scan gs rest held) e
      go (at_top p i h e) = rest_top (uncover i (v.scan gs rest held) h) e

  pub inner_placed : {mid new : ℕ → Summary} → Stored groups mid at cur → ((i : ℕ) → i < at + 1 → new i ≡ mid i)
      → ((i : ℕ) → i < over → new (at + 1 + i) ≡ mid (m - over + i))
      → (Near ws new (settle (mem_at ws) (alone rate t) gs)) × (at + 1 + over ≡ length (settle (mem_at ws) (alone rate t) gs))
  inner_placed {mid} {new} e low high =
      let is = stopped_at stop in
      rw is (placed inner_rest (rw is at e) (rw is at low) (rw is at high) (omega (arith, v.room.few, v.small)))

  pub inner_lies : brought order from ahead cur.len ≡ flat (settle (mem_at ws) (alone rate t) gs) ++ rest
  inner_lies = placed_lies inner_rest

  pub inner_same : length (brought order from ahead cur.len) ≡ length order₀
  inner_same = length_brought from ahead cur.len order ∙ v.same
