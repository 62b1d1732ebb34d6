-- Laws of specs/Graph.antt: parents and members are numbers below the count of members. Assumes nothing.
use mathlib.Core.Path.{◌≡◌}
use mathlib.Core.Bool.{true, not, ◌&&◌}
use mathlib.Core.Logic.{⊎_elim}
use mathlib.Core.List.{List}
use Prim.Native.Nat.{ℕ}
use lib.Dec.{eqb, ltb}
use lib.ListN.{length}
use borrow.Author.Tests.{lt-ltb, ltb-true}
use Rattle.lists.proofs.Bools.{clash, and_both, asked}
use Rattle.lists.proofs.Numbers.{lt_or_ge}
use Rattle.ways.specs.Ways.{Bounded}
use Rattle.txset.specs.Sets.{mem, set_at}
use Rattle.txset.proofs.Sets.{at_past}
use Rattle.depgraph.specs.Graph.{is_parent}

-- only members have parents, and only members are parents
pub among : (ps : List ℕ) → Bounded (is_parent ps) (length ps)
unfolding is_parent
among ps =
    record {
      from = λ i p h. ⊎_elim (λ l. l) (λ l. clash (parts i p h).1 (at_past ps i p l)) (lt_or_ge i (length ps));
      to = λ i p h. ltb-true p (length ps) (and_both (ltb p (length ps)) (not (eqb p i)) (parts i p h).0).0;
    }
  where
    parts : (i p : ℕ) → is_parent ps i p ≡ true → ((ltb p (length ps) && not (eqb p i)) ≡ true) × (mem (set_at ps i) p ≡ true)
    parts i p h = and_both (ltb p (length ps) && not (eqb p i)) (mem (set_at ps i) p) h

-- so whether one is a member need not be asked of who has a parent
pub parent_asked : (ps : List ℕ) (i p : ℕ) → (ltb i (length ps) && is_parent ps i p) ≡ is_parent ps i p
parent_asked ps i p = asked (ltb i (length ps)) (is_parent ps i p) (λ h. lt-ltb i (length ps) ((among ps).from i p h))
