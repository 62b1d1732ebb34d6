-- Laws of the range check. Assumes nothing.
use Prim.Native.Nat.{ℕ, suc, ◌+◌, ◌≤◌, ◌<◌}
use native.Mathlib.Numerals.{add-one}
use native.Mathlib.Omega.{arith}
use mathlib.Core.Path.{◌≡◌, refl, sym, ap, ◌∙◌}
use mathlib.Core.Bool.{true, false, not}
use mathlib.Core.List.{List}
use lib.ListN.{length, drop, get_or, drop_of_length-le}
use lib.Seq.{drop-cons}
use lib.Dec.{ltb, leb}
use lib.IntN.{ℤ, pos, negsuc}
use lib.Signed.{le_z, lt_z}
use mir.Syntax.{w64}
use mir.Val.{SFits, to_z, of_z}
use mir.ValLaws.{to_z-of_z}
use borrow.Author.Tests.{ltb-true, ltb-false, le-ltb, lt-leb, le-leb}
use Rattle.std.specs.Prelude.{Option, is_some}
use Rattle.lists.specs.Below.{some_below}
use Rattle.lists.proofs.Bools.{cases}
use Rattle.lists.proofs.Found.{found_below, none_past}
use Rattle.refusals.specs.Refusals.{in_range, first_outside, any_outside}

-- ---- the range of a fee

leb_not : (a b : ℕ) → leb b a ≡ not (ltb a b)
leb_not a b = cases (ltb a b) (λ e. rw e (lt-leb b a (ltb-true a b e))) (λ e. rw e (le-leb b a (ltb-false a b e)))

le_z_not : (a b : ℤ) → le_z b a ≡ not (lt_z a b)
le_z_not (pos a) (pos b) = leb_not a b
le_z_not (pos a) (negsuc b) = refl
le_z_not (negsuc a) (pos b) = refl
le_z_not (negsuc a) (negsuc b) = leb_not b a

-- (an i64 parameter is read by its bits)
module _ (f : ℤ) (h : SFits w64 f) where
  pub range_low : lt_z (to_z w64 (of_z w64 f)) (negsuc 4199999999999999) ≡ true → false ≡ in_range f
  unfolding in_range
  range_low e = rw (le_z_not f (negsuc 4199999999999999), rw (to_z-of_z w64 f h) at e)

  pub range_rest : lt_z (to_z w64 (of_z w64 f)) (negsuc 4199999999999999) ≡ false → le_z (to_z w64 (of_z w64 f)) (pos 4200000000000000) ≡ in_range f
  unfolding in_range
  range_rest e = rw (le_z_not f (negsuc 4199999999999999), rw (to_z-of_z w64 f h) at e, to_z-of_z w64 f h)

-- ---- the lowest position outside

-- the first i fees are in range
pub record Passed (fs : List ℤ) (i : ℕ) : Type 0 where
  pub within : i ≤ length fs
  pub first : first_outside fs ≡ i + first_outside (drop i fs)

pub passed_none : (fs : List ℤ) → Passed fs 0
passed_none fs = record { within = omega arith; first = omega arith }

module _ {fs : List ℤ} {i : ℕ} (p : Passed fs i) where
  pub passed_more : i < length fs → in_range (get_or fs i (pos 0)) ≡ true → Passed fs (i + 1)
  unfolding first_outside
  passed_more h e = record {
    within = omega arith;
    first =
        let s : first_outside (drop i fs) ≡ suc (first_outside (drop (i + 1) fs)) = rw (add-one, drop-cons fs i (pos 0), e) in
        omega (arith, p.first);
  }

  pub passed_stop : i < length fs → in_range (get_or fs i (pos 0)) ≡ false → i ≡ first_outside fs
  unfolding first_outside
  passed_stop h e =
      let s : first_outside (drop i fs) ≡ 0 = rw (drop-cons fs i (pos 0), e) in
      omega (arith, p.first)

  pub passed_all : length fs ≤ i → i ≡ first_outside fs
  unfolding first_outside
  passed_all h =
      let s : first_outside (drop i fs) ≡ 0 = rw (drop_of_length-le fs h) in
      omega (arith, p.first)

-- a fee is outside its range exactly where one was found
pub outside_found : (fs : List ℤ) {at : Option ℕ} → at ≡ some_below (length fs) (first_outside fs) → any_outside fs ≡ is_some at
unfolding any_outside
outside_found fs e =
    let n = length fs in
    let i = first_outside fs in
    rw e (cases (ltb i n)
    (λ t. t ∙ ap is_some (sym (found_below n i (ltb-true i n t))))
    (λ f. f ∙ ap is_some (sym (none_past n i (ltb-false i n f)))))

pub outside_none : (fs : List ℤ) → length fs ≤ first_outside fs → any_outside fs ≡ false
unfolding any_outside
outside_none fs h = le-ltb (first_outside fs) (length fs) h
