-- A cluster of one member, or of none, has no cycle and one order. Assumes nothing.
use Prim.Native.Nat.{ℕ, ◌≤◌, ◌<◌}
use native.Mathlib.Omega.{arith}
use mathlib.Core.Path.{◌≡◌, refl, ap}
use mathlib.Core.Bool.{true, false, not}
use mathlib.Core.List.{List, [], ◌∷◌}
use lib.ListN.{length, set}
use lib.Dec.{eqb, ltb}
use lib.IntN.{ℤ}
use borrow.Author.Tests.{eq-eqb, not-true}
use Rattle.lists.specs.Lists.{any_of, elem, overwrite}
use Rattle.txset.specs.Sets.{mem, set_at}
use Rattle.lists.proofs.Bools.{clash, and_both, is_false}
use Rattle.lists.proofs.Lists.{length_nil}
use Rattle.ways.specs.Ways.{step, further}
use Rattle.depgraph.specs.Graph.{is_parent, Above, is_cyclic}
use Rattle.depgraph.proofs.Parents.{among}
use Rattle.depgraph.proofs.Theorems.{cyclic_is}
use Rattle.chunking.specs.Chunks.{swallow, chunks_after, lengths_of, chunk_lengths}
use Rattle.linearize.specs.Linearize.{linear_order}
use Rattle.linearize.specs.Cases.{cluster_chunks}
use Rattle.linearize.proofs.Theorems.{linear_below, linear_length}

-- no member is its own parent
not_own : (ps : List ℕ) (i p : ℕ) → is_parent ps i p ≡ true → p ≡ i → ⊥
unfolding is_parent
not_own ps i p h e =
    let parts = and_both _ (mem (set_at ps i) p) h in
    clash (eq-eqb p i e) (not-true _ (and_both (ltb p (length ps)) (not (eqb p i)) parts.0).1)

few_above : (ps : List ℕ) (i a : ℕ) → length ps ≤ 1 → Above ps i a → ⊥
few_above ps i a h (step e) = not_own ps i a e (omega (arith, (among ps).from i a e, (among ps).to i a e))
few_above ps i a h (further {p = p} e u) = not_own ps i p e (omega (arith, (among ps).from i p e, (among ps).to i p e))

pub few_acyclic : (ps : List ℕ) → length ps ≤ 1 → is_cyclic ps ≡ false
few_acyclic ps h = is_false (is_cyclic ps) (λ e. let c = cyclic_is ps e in absurd (few_above ps c.0 c.0 h c.2))

-- a list of one element, 0 at most
one_zero : (l : List ℕ) → length l ≡ 1 → ((i : ℕ) → elem i l ≡ true → i < 1) → l ≡ 0 ∷ []
unfolding elem any_of
one_zero [] e f = absurd (omega arith)
one_zero (x ∷ []) e f = let z : x ≡ 0 = omega (arith, f x (rw (eq-eqb x x refl))) in ap (λ (y : ℕ). y ∷ []) z
one_zero (x ∷ y ∷ l) e f = absurd (omega arith)

module _ (fs : List ℤ) (ss ps : List ℕ) (as_long : length ps ≡ length fs) where
  pub none_order : length fs ≡ 0 → linear_order fs ss ps ≡ []
  none_order h =
      let n = linear_length fs ss ps as_long (few_acyclic ps (omega arith)) in
      length_nil (linear_order fs ss ps) (omega arith)

  pub alone_order : length fs ≡ 1 → linear_order fs ss ps ≡ 0 ∷ []
  alone_order h =
      let n = linear_length fs ss ps as_long (few_acyclic ps (omega arith)) in
      one_zero (linear_order fs ss ps) (omega arith) (λ i m. omega (arith, linear_below fs ss ps i m))

-- "one member: order 0, chunks 1", whatever its fee, its size and its parents
pub alone_chunks : (f : ℤ) (s p : ℕ) → cluster_chunks (f ∷ []) (s ∷ []) (p ∷ []) ≡ 1 ∷ []
unfolding chunk_lengths lengths_of chunks_after swallow
alone_chunks f s p = rw (alone_order (f ∷ []) (s ∷ []) (p ∷ []) refl refl)

-- the room with such an order at its start
pub none_room : (o room : List ℕ) → o ≡ [] → room ≡ overwrite o room
none_room o room e = rw e

pub alone_room : (o room : List ℕ) → o ≡ 0 ∷ [] → 1 ≤ length room → set room 0 0 ≡ overwrite o room
alone_room o [] e h = absurd (omega arith)
alone_room o (x ∷ room) e h = rw e
