-- Theorems for readers of specs/Graph.antt: the computed closure is the inductive one, ancestors are ordered where no one is above itself,
-- an ancestor has fewer ancestors, and there is one graph for the same parents. Assumes nothing.
use mathlib.Core.Path.{◌≡◌, sym, ap, ◌∙◌, subst}
use mathlib.Core.Bool.{Bool, true, false, ◌||◌}
use mathlib.Core.Logic.{⊎_elim}
use mathlib.Core.List.{List}
use Prim.Native.Nat.{ℕ, ◌<◌}
use native.Mathlib.Omega.{arith}
use lib.Dec.{eqb, ltb}
use lib.ListN.{length, take}
use lib.Seq.{take_all}
use borrow.Author.Tests.{lt-ltb, ltb-true}
use Rattle.lists.specs.Below.{count_from}
use Rattle.lists.proofs.Bools.{and_both}
use Rattle.lists.proofs.Below.{count_ext}
use Rattle.txset.specs.Sets.{positions}
use Rattle.ways.proofs.Ways.{reach_is, is_reach, way_from, way_to}
use Rattle.ways.proofs.Cycles as cycles
use Rattle.txset.proofs.Words.{Fits}
use Rattle.txset.proofs.Theorems.{sets_ext}
use Rattle.depgraph.specs.declared.DepGraph.{DepGraph}
use Rattle.depgraph.specs.Closed.{Room, Closed, placed}
use Rattle.depgraph.specs.Graph.{is_parent, Above, is_above, is_ancestor, is_cyclic}
use Rattle.depgraph.proofs.Parents.{among}

-- the computed closure is the inductive one
pub above_is : (ps : List ℕ) (i a : ℕ) → is_above ps i a ≡ true → Above ps i a
above_is ps = reach_is (is_parent ps) (length ps)

pub is_above_lem : (ps : List ℕ) {i a : ℕ} → Above ps i a → is_above ps i a ≡ true
is_above_lem ps u = is_reach (among ps) u

-- a cycle is a member above itself
pub cyclic_is : (ps : List ℕ) → is_cyclic ps ≡ true → (i : ℕ) × (i < length ps) × Above ps i i
cyclic_is ps = cycles.cyclic_is (is_parent ps) (length ps)

pub is_cyclic_lem : (ps : List ℕ) (i : ℕ) → Above ps i i → is_cyclic ps ≡ true
is_cyclic_lem ps i u = cycles.is_cyclic_lem (among ps) u

-- ---- ancestors: the member itself, and who is above it

-- an ancestor's parts: i is a member, and a is it or is above it
parts : (ps : List ℕ) (i a : ℕ) → is_ancestor ps i a ≡ true → (i < length ps) × (cycles.onward (is_parent ps) (length ps) i a ≡ true)
unfolding is_ancestor
parts ps i a h =
    let b = and_both (ltb i (length ps)) (eqb i a || is_above ps i a) h in
    (ltb-true i (length ps) b.0, b.1)

whole : (ps : List ℕ) (i a : ℕ) → i < length ps → cycles.onward (is_parent ps) (length ps) i a ≡ is_ancestor ps i a
unfolding is_ancestor
whole ps i a l = rw (lt-ltb i (length ps) l)

pub above_ancestor : (ps : List ℕ) (i a : ℕ) → Above ps i a → is_ancestor ps i a ≡ true
above_ancestor ps i a u = sym (whole ps i a (way_from (among ps) u)) ∙ cycles.onward_way (among ps) u

pub ancestor_refl : (ps : List ℕ) (i : ℕ) → i < length ps → is_ancestor ps i i ≡ true
ancestor_refl ps i l = sym (whole ps i i l) ∙ cycles.onward_self (is_parent ps) (length ps) i

pub ancestor_trans : (ps : List ℕ) (i p a : ℕ) → is_ancestor ps i p ≡ true → is_ancestor ps p a ≡ true → is_ancestor ps i a ≡ true
ancestor_trans ps i p a u v = sym (whole ps i a (parts ps i p u).0) ∙ cycles.onward_trans (among ps) i p a (parts ps i p u).1 (parts ps p a v).1

-- without a cycle no two members are ancestors of each other
pub ancestor_antisym : (ps : List ℕ) (i a : ℕ) → is_cyclic ps ≡ false → is_ancestor ps i a ≡ true → is_ancestor ps a i ≡ true → i ≡ a
ancestor_antisym ps i a acyclic u v = cycles.onward_antisym (among ps) acyclic i a (parts ps i a u).1 (parts ps a i v).1

-- without a cycle an ancestor has fewer ancestors
pub fewer : (ps : List ℕ) (i a : ℕ) → is_cyclic ps ≡ false → is_ancestor ps i a ≡ true → (i ≡ a → ⊥)
    → count_from (is_ancestor ps a) (length ps) 0 < count_from (is_ancestor ps i) (length ps) 0
fewer ps i a acyclic u n =
    ⊎_elim
    (λ e. absurd (n e))
    (λ (w : Above ps i a).
    omega (arith, cycles.fewer (among ps) acyclic w, all i (way_from (among ps) w), all a (way_to (among ps) w)))
    (cycles.onward_either (is_parent ps) (length ps) i a (parts ps i a u).1)
  where
    all : (i : ℕ) → i < length ps → count_from (cycles.onward (is_parent ps) (length ps) i) (length ps) 0 ≡ count_from (is_ancestor ps i) (length ps) 0
    all i l = count_ext (cycles.onward (is_parent ps) (length ps) i) (is_ancestor ps i) (length ps) 0 (λ a _ _. whole ps i a l)

-- ---- where each member has a place, the graph is that of all of them

pub graph_whole : {ps up₀ down₀ up down : List ℕ} {g : DepGraph} → Room (length ps) up₀ down₀
    → Closed (placed ps up₀ down₀) up down g → Closed ps up down g
graph_whole {ps} {up₀} {down₀} {up} {down} {g} r c =
    let all : placed ps up₀ down₀ ≡ ps =
    ap (λ (l : List ℕ). take (length down₀) (take (length up₀) l)) (take_all positions ps r.few)
    ∙ ap (take (length down₀)) (take_all (length up₀) ps r.ups)
    ∙ take_all (length down₀) ps r.downs in
    subst (λ (l : List ℕ). Closed l up down g) all c

-- ---- one graph for the same parents

-- the tables of a graph, as a machine has them: words below 2^64, as many as were lent
pub record Tables (u d : ℕ) (up down : List ℕ) : Type 0 where
  pub ups_long : length up ≡ u
  pub downs_long : length down ≡ d
  pub ups_fit : Fits up
  pub downs_fit : Fits down

-- what is closed for the same parents is the same, the tables and the graph: `Closed` allows one outcome only
pub graph_ext : (ps : List ℕ) {u d : ℕ} {up down up' down' : List ℕ} (g h : DepGraph) → Tables u d up down → Tables u d up' down'
    → Closed ps up down g → Closed ps up' down' h → (up ≡ up') × (down ≡ down') × (g ≡ h)
graph_ext ps {up = up} {down} {up'} {down'} g h s t c e = (
  sets_ext up up' (s.ups_long ∙ sym t.ups_long) s.ups_fit t.ups_fit (λ i a. c.ancestors i a ∙ sym (e.ancestors i a)),
  sets_ext down down' (s.downs_long ∙ sym t.downs_long) s.downs_fit t.downs_fit (λ i a. c.descendants i a ∙ sym (e.descendants i a)),
  ap {B = DepGraph} (λ (b : Bool). record { cyclic = b }) (c.cyclic ∙ sym e.cyclic),
)
