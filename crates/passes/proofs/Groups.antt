-- What a summary says of a group, and an array of summaries as a stack of groups from either end, the last group on top. Assumes nothing.
use mathlib.Core.Path.{◌≡◌, sym, ap, ap₂, ◌∙◌}
use mathlib.Core.Bool.{Bool, true, false, ◌&&◌, or-false, or_comm, and-or_distrib_left, ◌||◌}
use mathlib.Core.List.{List, [], ◌∷◌}
use Prim.Native.Nat.{ℕ, ◌-◌, ◌<◌}
use native.Mathlib.Omega.{arith}
use lib.Dec.{eqb}
use lib.ListN.{length, get_or, set, length-append}
use lib.Seq.{get_or-set_same, get_or-set_other}
use borrow.Author.Tests.{lt-ltb}
use Rattle.feefrac.specs.declared.FeeFrac.{FeeFrac}
use Rattle.feefrac.specs.Rate.{zero_rate, sum}
use Rattle.txset.specs.declared.TxSet.{TxSet}
use Rattle.lists.specs.Lists.{any_of, elem}
use Rattle.txset.specs.Sets.{positions, is_position, mem, overlap, set_at, mem_at}
use Rattle.lists.proofs.Bools.{clash, false_together, is_false}
use Rattle.txset.proofs.Sets.{mem_position, mem_disjoint, disjoint_mem}
use Rattle.passes.specs.declared.pass.Group.{Group as Summary}
use Rattle.passes.specs.Summary.{Single, Joined}
use Rattle.passes.specs.Pass.{Group, absorb, depends_on}
use Rattle.lists.proofs.Lists.{any_append, elem_append, any_none, none_any}

-- s is the summary of g
pub record Stands (ws : List ℕ) (s : Summary) (g : Group) : Type 0 where
  pub some : 0 < length g.txs
  pub len : s.len ≡ length g.txs
  pub rate : s.rate ≡ g.rate
  pub set : (i : ℕ) → mem s.set i ≡ (is_position i && elem i g.txs)
  pub deps : (i : ℕ) → mem s.deps i ≡ any_of (λ t. mem_at ws t i) g.txs

pub single_stands : {ws : List ℕ} {t : ℕ} {on : TxSet} {r q : FeeFrac} {s : Summary} → Single t on r s → on ≡ set_at ws t → r ≡ q
    → Stands ws s (record { txs = t ∷ []; rate = q })
unfolding elem any_of
single_stands {ws} {t} v e f =
    record {
      some = omega arith;
      len = v.len;
      rate = v.rate ∙ f;
      set = λ i. v.set i ∙ ap (λ (b : Bool). is_position i && b) (sym (or-false (eqb i t)));
      deps = λ i. ap (λ (x : TxSet). mem x i) (v.deps ∙ e) ∙ sym (or-false (mem_at ws t i));
    }

pub joined_stands : {ws : List ℕ} {prev cur s : Summary} {p g : Group} → Joined prev cur s → Stands ws prev p → Stands ws cur g
    → Stands ws s (absorb p g)
joined_stands {ws} {prev} {cur} {s} {p} {g} v a b =
    let n = length-append p.txs g.txs in
    record {
      some = omega (arith, a.some);
      len = omega (arith, v.len, a.len, b.len);
      rate = v.rate ∙ ap₂ sum b.rate a.rate;
      set = λ i.
          v.set i ∙ ap₂ ◌||◌ (b.set i) (a.set i) ∙ sym (and-or_distrib_left (is_position i) (elem i g.txs) (elem i p.txs))
          ∙ ap (λ (x : Bool). is_position i && x) (or_comm (elem i g.txs) (elem i p.txs) ∙ sym (elem_append i p.txs g.txs));
      deps = λ i.
          let on : ℕ → Bool = λ t. mem_at ws t i in
          v.deps i ∙ ap₂ ◌||◌ (b.deps i) (a.deps i) ∙ or_comm (any_of on g.txs) (any_of on p.txs) ∙ sym (any_append on p.txs g.txs);
    }

-- what cur depends on meets prev's members exactly if cur depends on prev
module _ {ws : List ℕ} {cur prev : Summary} {g p : Group} (a : Stands ws cur g) (b : Stands ws prev p) where
  -- no overlap: none of cur's members depends on one of prev's
  apart : overlap cur.deps prev.set ≡ false → (t : ℕ) → elem t g.txs ≡ true → (i : ℕ) → elem i p.txs ≡ true → mem_at ws t i ≡ false
  apart n t e i d =
      is_false (mem_at ws t i) (λ z.
      let in-set : mem prev.set i ≡ true = b.set i ∙ ap₂ ◌&&◌ (lt-ltb i positions (mem_position (set_at ws t) i z)) d in
      any_none (λ u. mem_at ws u i) g.txs
      (sym (a.deps i) ∙ is_false (mem cur.deps i) (λ y. clash in-set (disjoint_mem cur.deps prev.set n i y))) t e)

  -- no dependence: what cur depends on is not among prev's members
  unmet : depends_on (mem_at ws) g p ≡ false → (i : ℕ) → mem cur.deps i ≡ true → mem prev.set i ≡ false
  unfolding depends_on
  unmet n i m =
      is_false (mem prev.set i) (λ z.
      let is-position = lt-ltb i positions (mem_position prev.set i z) in
      let d : elem i p.txs ≡ true = sym (ap (λ (x : Bool). x && elem i p.txs) is-position) ∙ sym (b.set i) ∙ z in
      let none : (t : ℕ) → elem t g.txs ≡ true → any_of (mem_at ws t) p.txs ≡ false = any_none (λ t. any_of (mem_at ws t) p.txs) g.txs n in
      clash m (a.deps i ∙ none_any (λ t. mem_at ws t i) g.txs (λ t e. any_none (mem_at ws t) p.txs (none t e) i d)))

  pub overlap_depends : overlap cur.deps prev.set ≡ depends_on (mem_at ws) g p
  unfolding depends_on
  overlap_depends =
      false_together (overlap cur.deps prev.set) (any_of (λ t. any_of (mem_at ws t) p.txs) g.txs)
      (λ n. none_any (λ t. any_of (mem_at ws t) p.txs) g.txs (λ t e. none_any (mem_at ws t) p.txs (apart n t e)))
      (λ n. mem_disjoint cur.deps prev.set (unmet n))

-- the i-th of an array of summaries
abbrev pub nth : List Summary → ℕ → Summary
nth xs i = get_or xs i (record { len = 0; set = record { word = 0 }; deps = record { word = 0 }; rate = zero_rate })

-- an array with s at the place k, and all else as it was
pub record Stored (old new : ℕ → Summary) (k : ℕ) (s : Summary) : Type 0 where
  pub here : new k ≡ s
  pub there : (i : ℕ) → (i ≡ k → ⊥) → new i ≡ old i

pub stored : (xs : List Summary) (k : ℕ) (s : Summary) → k < length xs → Stored (nth xs) (nth (set xs k s)) k s
stored xs k s h = record { here = get_or-set_same xs k s _ h; there = λ i n. get_or-set_other xs k i s _ n }

-- summaries of an array stand for these groups: the bottom one's at `place 0`, the next one's at `place 1`, and so on up to the first
pub data Stack (place : ℕ → ℕ) (ws : List ℕ) (xs : ℕ → Summary) : List Group → Type 0 where
  none : Stack place ws xs []
  more : (g : Group) (gs : List Group) → 0 < length g.txs → Stands ws (xs (place (length gs))) g → Stack place ws xs gs
      → Stack place ws xs (g ∷ gs)

-- from the array's start upwards
abbrev pub Near : List ℕ → (ℕ → Summary) → List Group → Type 0
Near = Stack (λ n. n)

-- from the last of m places downwards
abbrev pub Far : ℕ → List ℕ → (ℕ → Summary) → List Group → Type 0
Far m = Stack (λ n. m - 1 - n)

-- what is as it was at its places leaves a stack as it is
pub stack_same : {place : ℕ → ℕ} {ws : List ℕ} {old new : ℕ → Summary} {gs : List Group} → ((n : ℕ) → n < length gs → new (place n) ≡ old (place n))
    → Stack place ws old gs → Stack place ws new gs
stack_same h none = none
stack_same h (more g gs n t v) = more g gs n (rw (h (length gs) (omega arith)) t) (stack_same (λ i l. h i (omega arith)) v)

module _ {place : ℕ → ℕ} {ws : List ℕ} {old new : ℕ → Summary} {k : ℕ} {s : Summary} (e : Stored old new k s) where
  -- so does a store at none of them
  pub stack_kept : {gs : List Group} → ((n : ℕ) → n < length gs → place n ≡ k → ⊥) → Stack place ws old gs → Stack place ws new gs
  stack_kept h = stack_same (λ n l. e.there (place n) (h n l))

  -- a store at the place after them is a push
  pub stack_push : {gs : List Group} {g : Group} → Stack place ws old gs → k ≡ place (length gs)
      → ((n : ℕ) → n < length gs → place n ≡ place (length gs) → ⊥) → Stands ws s g → Stack place ws new (g ∷ gs)
  stack_push {gs} {g} v h o a = more g gs a.some (rw (sym h, e.here) a) (stack_kept (λ n i z. o n i (z ∙ h)) v)
