-- The numbers below n that some number of a set is, or has a way to, along any relation that is bounded by n. Assumes nothing.
use mathlib.Core.Path.{◌≡◌, refl, sym, ap, ap₂, ◌∙◌, subst}
use mathlib.Core.Bool.{Bool, true, false, ◌&&◌, ◌||◌}
use mathlib.Core.Logic.{⊎_elim}
use Prim.Native.Nat.{ℕ, ◌<◌}
use native.Mathlib.Omega.{arith}
use lib.Dec.{eqb}
use borrow.Author.Tests.{eqb-true, eq-eqb}
use Rattle.lists.specs.Below.{any_from, first_from}
use Rattle.lists.proofs.Bools.{clash, and_both, true_together}
use Rattle.lists.proofs.Below.{any_at, first_has, first_below}
use Rattle.ways.specs.Ways.{Way, step, further, reach, Bounded}
use Rattle.ways.proofs.Ways.{way_stays, way_to}
use Rattle.ways.proofs.Cycles.{onward, onward_self, onward_way, onward_either, onward_trans}

abbrev pub reached : (ℕ → ℕ → Bool) → ℕ → (ℕ → Bool) → ℕ → Bool
reached r n f b = any_from (λ a. f a && onward r n a b) n 0

-- one of the set that is b, or has a way there
pub record From (r : ℕ → ℕ → Bool) (n : ℕ) (f : ℕ → Bool) (b : ℕ) : Type 0 where
  pub seed : ℕ
  pub below : seed < n
  pub chosen : f seed ≡ true
  pub on : onward r n seed b ≡ true

pub reached_from : (r : ℕ → ℕ → Bool) (n : ℕ) (f : ℕ → Bool) (b : ℕ) → reached r n f b ≡ true → From r n f b
reached_from r n f b h =
    let g : ℕ → Bool = λ a. f a && onward r n a b in
    let s = first_from g n 0 in
    let both = and_both (f s) (onward r n s b) (first_has g n 0 h) in
    record { seed = s; below = omega (arith, first_below g n 0 h); chosen = both.0; on = both.1 }

pub from_reached : (r : ℕ → ℕ → Bool) (n : ℕ) (f : ℕ → Bool) (b : ℕ) → From r n f b → reached r n f b ≡ true
from_reached r n f b u =
    any_at (λ a. f a && onward r n a b) n 0 u.seed (omega arith) (omega (arith, u.below)) (ap₂ ◌&&◌ u.chosen u.on)

-- the set itself
pub reached_seed : (r : ℕ → ℕ → Bool) (n : ℕ) (f : ℕ → Bool) (b : ℕ) → b < n → f b ≡ true → reached r n f b ≡ true
reached_seed r n f b l h = from_reached r n f b (record { seed = b; below = l; chosen = h; on = onward_self r n b })

-- a set that no step leaves has what one of its numbers has a way to
pub onward_closed : (r : ℕ → ℕ → Bool) (n : ℕ) (c : ℕ → Bool) → ((i j : ℕ) → c i ≡ true → r i j ≡ true → c j ≡ true)
    → (i a : ℕ) → onward r n i a ≡ true → c i ≡ true → c a ≡ true
onward_closed r n c on i a h m = ⊎_elim (λ e. ap c (sym e) ∙ m) (λ u. way_stays c on u m) (onward_either r n i a h)

pub reached_closed : (r : ℕ → ℕ → Bool) (n : ℕ) (f c : ℕ → Bool) → ((i : ℕ) → i < n → f i ≡ true → c i ≡ true)
    → ((i j : ℕ) → c i ≡ true → r i j ≡ true → c j ≡ true) → (b : ℕ) → reached r n f b ≡ true → c b ≡ true
reached_closed r n f c start on b h =
    let u = reached_from r n f b h in
    onward_closed r n c on u.seed b u.on (start u.seed u.below u.chosen)

module _ {r : ℕ → ℕ → Bool} {n : ℕ} (bound : Bounded r n) where
  pub reached_on : (f : ℕ → Bool) (a b : ℕ) → reached r n f a ≡ true → r a b ≡ true → reached r n f b ≡ true
  reached_on f a b h e =
      let u = reached_from r n f a h in
      from_reached r n f b
      (record {
        seed = u.seed;
        below = u.below;
        chosen = u.chosen;
        on = onward_trans bound u.seed a b u.on (onward_way bound (step e));
      })

  pub onward_below : (a b : ℕ) → a < n → onward r n a b ≡ true → b < n
  onward_below a b l h = ⊎_elim (λ e. subst (λ (x : ℕ). x < n) e l) (λ u. way_to bound u) (onward_either r n a b h)

  pub reached_below : (f : ℕ → Bool) (b : ℕ) → reached r n f b ≡ true → b < n
  reached_below f b h = let u = reached_from r n f b h in onward_below u.seed b u.below u.on

-- the set of one number
pub reached_one : (r : ℕ → ℕ → Bool) (n : ℕ) (f : ℕ → Bool) (a : ℕ) → a < n → ((i : ℕ) → f i ≡ eqb i a) → (b : ℕ) → reached r n f b ≡ onward r n a b
reached_one r n f a l one b =
    true_together (reached r n f b) (onward r n a b)
    (λ h.
    let u = reached_from r n f b h in
    let z : u.seed ≡ a = eqb-true u.seed a (sym (one u.seed) ∙ u.chosen) in
    ap (λ (x : ℕ). onward r n x b) (sym z) ∙ u.on)
    (λ e. from_reached r n f b (record { seed = a; below = l; chosen = one a ∙ eq-eqb a a refl; on = e }))

-- a number with no step has a way to itself alone
pub onward_lone : (r : ℕ → ℕ → Bool) (n a : ℕ) → ((j : ℕ) → r a j ≡ false) → (b : ℕ) → onward r n a b ≡ eqb a b
onward_lone r n a lone b =
    true_together (onward r n a b) (eqb a b)
    (λ h. ⊎_elim (λ e. eq-eqb a b e) (λ u. absurd (away u)) (onward_either r n a b h))
    (λ e. ap (λ (c : Bool). c || reach r n a b) e)
  where
    away : {b : ℕ} → Way r a b → ⊥
    away {b} (step e) = clash e (lone b)
    away (further {p = p} e u) = clash e (lone p)
