-- Feerates that fall: none is higher than one before it, and none has the size zero, so that `higher` chains. Assumes nothing.
use Rattle.std.proofs.Common.{Some}
use Prim.Native.Nat.{ℕ, ◌+◌, ◌-◌, ◌≤◌, ◌<◌}
use native.Mathlib.Omega.{arith}
use mathlib.Core.Path.{◌≡◌, sym, ◌∙◌}
use mathlib.Core.Bool.{true, false, ◌&&◌, ◌||◌}
use mathlib.Core.Logic.{⊎_elim}
use lib.Dec.{eqb}
use borrow.Author.Count.{below_more}
use borrow.Author.Tests.{eqb-true, eqb-false}
use Rattle.lists.proofs.Bools.{clash, cases, or_either, and_right}
use Rattle.feefrac.specs.declared.FeeFrac.{FeeFrac}
use Rattle.feefrac.specs.Rate.{higher}
use Rattle.feefrac.proofs.Higher.{above_least, least_above, least_least, higher_one}
use Rattle.txset.specs.declared.TxSet.{TxSet}
use Rattle.txset.specs.Sets.{is_position, mem}
use Rattle.output_order.specs.declared.Fall.{Fall}
use Rattle.output_order.specs.Steps.{Drops, Falling, Fallen, FallsFrom, FallsOn}

-- of none there is nothing to say
pub drops_none : (rate : ℕ → FeeFrac) (r : ℕ) (drops : TxSet) → ((i : ℕ) → mem drops i ≡ false) → Drops rate r drops
drops_none rate r drops none = record { falls = λ i d j m a b c. clash m (none d) }

pub falling_start : (rate : ℕ → FeeFrac) (last : FeeFrac) (drops : TxSet) → last ≡ rate 0 → (last.size ≡ 0 → ⊥) → ((i : ℕ) → mem drops i ≡ false)
    → Falling rate last 1 drops
falling_start rate last drops e n none =
    record {
      some = omega arith;
      is = e;
      sized = λ i l. let z : i ≡ 0 = omega arith in rw (z, ← e) (omega arith);
      falls = λ i j a b. absurd (omega arith);
      within = λ d m. clash m (none d);
      below = λ i d j m a b c. clash m (none d);
    }

module _ {rate : ℕ → FeeFrac} {last : FeeFrac} {k : ℕ} {drops : TxSet} (h : Falling rate last k drops) where
  pub falling_done : {r : ℕ} → r ≤ k → Drops rate r drops
  falling_done l = record { falls = λ i d j m a b c. h.below i d j m a b (omega arith) }

  -- one more, not higher than the last
  module _ {next : FeeFrac} (e : next ≡ rate k) (n : next.size ≡ 0 → ⊥) (low : higher next last ≡ false) where
    big : 0 < (rate k).size
    big = rw (← e) (omega arith)

    not_up : higher (rate k) (rate (k - 1)) ≡ false
    not_up = rw (← e, ← h.is) low

    -- before the last, or the last
    earlier : (P : ℕ → Type 0) → ((i : ℕ) → i < k - 1 → P i) → P (k - 1) → (i : ℕ) → i < k → P i
    earlier P p q i l =
        cases (eqb i (k - 1)) (λ z. rw (eqb-true i (k - 1) z) q) (λ z. p i (let w = eqb-false i (k - 1) z in omega (arith, h.some)))

    falls_more : (i j : ℕ) → i < j → j < k + 1 → higher (rate j) (rate i) ≡ false
    falls_more i j a b =
        below_more (λ j. i < j → higher (rate j) (rate i) ≡ false) k (λ j c d. h.falls i j d c)
        (λ d.
        earlier (λ i. higher (rate k) (rate i) ≡ false)
        (λ i c.
        least_least (rate i) (rate (k - 1)) (rate k) (h.falls i (k - 1) c (omega (arith, h.some))) not_up (h.sized (k - 1) (omega (arith, h.some))))
        not_up i d)
        j b a

    sized_more : (i : ℕ) → i < k + 1 → 0 < (rate i).size
    sized_more = below_more (λ i. 0 < (rate i).size) k h.sized big

    -- one that was below all before it still is
    old : (i d j : ℕ) → mem drops d ≡ true → i < d → d ≤ j → j < k + 1 → higher (rate i) (rate j) ≡ true
    old i d j m a b c =
        below_more (λ j. d ≤ j → higher (rate i) (rate j) ≡ true) k (λ j f g. h.below i d j m a g f)
        (λ g.
        above_least (rate i) (rate (k - 1)) (rate k)
        (h.below i d (k - 1) m a (omega (arith, h.within d m)) (omega (arith, h.some)))
        not_up
        big)
        j c b

    pub falling_stays : Falling rate next (k + 1) drops
    falling_stays =
        record {
          some = omega arith;
          is = let z : k + 1 - 1 ≡ k = omega arith in rw z e;
          sized = sized_more;
          falls = falls_more;
          within = λ d m. omega (arith, h.within d m);
          below = old;
        }

    -- one that is below the last is below all
    pub falling_drops : higher last next ≡ true → (more : TxSet) → ((i : ℕ) → mem more i ≡ (mem drops i || (is_position i && eqb i k)))
        → Falling rate next (k + 1) more
    falling_drops up more is =
        record {
          some = omega arith;
          is = let z : k + 1 - 1 ≡ k = omega arith in rw z e;
          sized = sized_more;
          falls = falls_more;
          within = λ d m. either d m (λ x. omega (arith, h.within d x)) (λ x. omega arith);
          below = λ i d j m a b c. either d m (λ x. old i d j x a b c) (λ x. let z : j ≡ k = omega arith in rw z (fresh i (omega arith)));
        }
      where
        either : {A : Type 0} (d : ℕ) → mem more d ≡ true → (mem drops d ≡ true → A) → (d ≡ k → A) → A
        either d m x y =
            ⊎_elim x (λ z. y (eqb-true d k (and_right (is_position d) (eqb d k) z))) (or_either (mem drops d) (is_position d && eqb d k) (sym (is d) ∙ m))

        down : higher (rate (k - 1)) (rate k) ≡ true
        down = rw (← e, ← h.is) up

        fresh : (i : ℕ) → i < k → higher (rate i) (rate k) ≡ true
        fresh i l =
            earlier (λ i. higher (rate i) (rate k) ≡ true)
            (λ i c.
            least_above (rate i) (rate (k - 1)) (rate k) (h.falls i (k - 1) c (omega (arith, h.some))) down (h.sized i (omega arith)))
            down i l

-- ---- what is known, and that it may be nothing

-- of one alone
pub falls_from : (first : FeeFrac) (drops : TxSet) → (first.size ≡ 0 → ⊥) → ((i : ℕ) → mem drops i ≡ false)
    → FallsFrom first (Some (record { last = first; drops = drops }))
falls_from first drops n none = record { known = λ rate e. falling_start rate first drops e n none }

-- of as many as were asked for, where the rates are these
pub fallen_done : {rate : ℕ → FeeFrac} {f : Fall} {k r : ℕ} (put : ℕ → FeeFrac) → Fallen rate (Some f) k → r ≤ k → ((i : ℕ) → i < r → put i ≡ rate i)
    → Drops put r f.drops
fallen_done put h l same =
    let d = falling_done h l in record { falls = λ i d' j m a b c. rw (same i (omega arith), same j c) (d.falls i d' j m a b c) }

module _ (f : Fall) (next : FeeFrac) (k : ℕ) (n : next.size ≡ 0 → ⊥) where
  -- one more that is lower
  pub falls_below : higher f.last next ≡ true → (more : TxSet) → ((i : ℕ) → mem more i ≡ (mem f.drops i || (is_position i && eqb i k)))
      → FallsOn (Some f) next k (Some (record { last = next; drops = more }))
  falls_below up more is = record { known = λ rate e h. falling_drops h e n (higher_one f.last next up) up more is }

  -- one more that is not
  pub falls_level : higher next f.last ≡ false → FallsOn (Some f) next k (Some (record { last = next; drops = f.drops }))
  falls_level low = record { known = λ rate e h. falling_stays h e n low }
