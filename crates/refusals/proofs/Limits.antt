-- What the range check says of each fee. Assumes nothing.
use mathlib.Core.Path.{◌≡◌, refl}
use mathlib.Core.Bool.{Bool, true, false, cond, and-eq-true_iff}
use mathlib.Core.List.{List, [], ◌∷◌}
use Prim.Native.Nat.{ℕ, zero, suc, ◌≤◌}
use native.Mathlib.Nat.{not-suc-le-zero, le_of_suc-le-suc}
use native.Mathlib.Omega.{arith}
use lib.ListN.{length}
use lib.IntN.{ℤ, pos, negsuc, nat_abs}
use lib.Signed.{le_z}
use borrow.Author.Tests.{leb-true, ltb-false}
use Rattle.feefrac.proofs.Exact.{fee_limit, Within}
use Rattle.refusals.specs.Refusals.{in_range, first_outside, any_outside}

range_abs : (f : ℤ) → in_range f ≡ true → nat_abs f ≤ fee_limit
unfolding in_range
range_abs (pos n) e = leb-true n fee_limit ((and-eq-true_iff (le_z (negsuc 4199999999999999) (pos n)) (le_z (pos n) (pos fee_limit))).0 e).1
range_abs (negsuc n) e =
    let h = leb-true n 4199999999999999 ((and-eq-true_iff (le_z (negsuc 4199999999999999) (negsuc n)) (le_z (negsuc n) (pos fee_limit))).0 e).0 in
    omega arith

-- the first is in range, and the check goes on
passed : (b : Bool) (n m : ℕ) → suc n ≤ cond b (suc m) 0 → (b ≡ true) × (n ≤ m)
passed true n m h = (refl, le_of_suc-le-suc h)
passed false n m h = absurd (not-suc-le-zero h)

first_within : (fs : List ℤ) → length fs ≤ first_outside fs → Within fs
unfolding first_outside
first_within [] h i l = absurd (not-suc-le-zero l)
first_within (f ∷ fs) h zero l = range_abs f (passed (in_range f) (length fs) (first_outside fs) h).0
first_within (f ∷ fs) h (suc i) l = first_within fs (passed (in_range f) (length fs) (first_outside fs) h).1 i (le_of_suc-le-suc l)

-- where no fee is outside its range, each is within the limit, either sign
pub inside_within : (fs : List ℤ) → any_outside fs ≡ false → Within fs
unfolding any_outside
inside_within fs e = first_within fs (ltb-false (first_outside fs) (length fs) e)
