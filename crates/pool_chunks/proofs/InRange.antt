-- The range of a delta as the code tests it, the walk over the occupied slots, and a fee with its delta. Assumes nothing.
use mathlib.Core.Path.{◌≡◌, sym, ap, ap₂, ◌∙◌}
use mathlib.Core.Bool.{Bool, true, false, not, ◌&&◌}
use mathlib.Core.List.{List, [], ◌∷◌}
use Prim.Native.Nat.{ℕ, suc, ◌+◌, ◌≤◌, ◌<◌, suc-le-suc}
use native.Mathlib.Omega.{arith}
use lib.Dec.{leb}
use lib.ListN.{length, get_or}
use lib.IntN.{ℤ, pos, negsuc, ◌+ℤ◌}
use lib.Signed.{le_z}
use mir.Syntax.{w64}
use mir.Val.{SFits, to_z, of_z}
use mir.ValLaws.{to_z-of_z}
use mir.Facts.{to_z_pos}
use borrow.Author.Tests.{leb-true, le-leb}
use Rattle.lists.proofs.Below.{any_at, at_none}
use Rattle.lists.proofs.Bools.{and_both}
use Rattle.feefrac.proofs.Signed.{up, down, Le, most_parts, sum, in_range_lem}
use Rattle.refusals.specs.Refusals.{in_range, first_outside, any_outside}
use Rattle.refusals.proofs.Laws.{outside_none}
use Rattle.weights.specs.Weights.{most, adjusted}
use Rattle.pool_table.specs.declared.Entry.{Entry}
use Rattle.pool_table.specs.Pool.{Pool, slot_count, slot_at, occupied}
use Rattle.pool_table.specs.Ranges.{entry_in_range}
use Rattle.pool_chunks.specs.Chunks.{fee_of, fees_of, size_of}
use Rattle.pool_chunks.specs.Sorted.{delta_in_range, bad_delta}
use Rattle.pool_chunks.specs.Steps.{Payable, AllPayable}

-- ---- the range

abbrev lowest : ℤ
lowest = negsuc 2099999999999999

abbrev highest : ℤ
highest = pos 2100000000000000

-- (an i64 parameter is read by its bits)
module _ (d : ℤ) (h : SFits w64 d) where
  abbrev read : ℤ
  read = to_z w64 (of_z w64 d)

  -- the lower end is tested first
  pub delta_then : le_z lowest read ≡ true → le_z read highest ≡ delta_in_range d
  unfolding delta_in_range
  delta_then e =
      let z = to_z-of_z w64 d h in
      ap (λ (x : ℤ). le_z x highest) z ∙ sym (ap (λ (b : Bool). b && le_z d highest) (sym (ap (le_z lowest) z) ∙ e))

  pub delta_else : le_z lowest read ≡ false → le_z lowest read ≡ delta_in_range d
  unfolding delta_in_range
  delta_else e =
      let z = to_z-of_z w64 d h in
      e ∙ sym (ap (λ (b : Bool). b && le_z d highest) (sym (ap (le_z lowest) z) ∙ e))

-- ---- the walk

-- slot s is occupied, and its delta is outside
abbrev is_bad : Pool → List ℤ → ℕ → Bool
is_bad p ds s = occupied p s && not (delta_in_range (get_or ds s (pos 0)))

-- none of the first s slots is so
pub record Fine (p : Pool) (ds : List ℤ) (s : ℕ) : Type 0 where
  pub within : s ≤ slot_count p
  pub none : (j : ℕ) → j < s → is_bad p ds j ≡ false

pub fine_bad : (p : Pool) (ds : List ℤ) {s : ℕ} → s < slot_count p → occupied p s ≡ true → delta_in_range (get_or ds s (pos 0)) ≡ false
    → true ≡ bad_delta p ds
unfolding bad_delta
fine_bad p ds {s} l o e = sym (any_at (is_bad p ds) (slot_count p) 0 s (omega arith) (omega arith) (rw (o, e)))

pub fine_done : {p : Pool} {ds : List ℤ} {s : ℕ} → Fine p ds s → slot_count p ≤ s → false ≡ bad_delta p ds
unfolding bad_delta
fine_done {p} {ds} h l = sym (at_none (is_bad p ds) (slot_count p) 0 (λ j a b. h.none j (omega arith)))

-- ---- a fee with its delta

-- a delta in its range, by its parts
delta_parts : (d : ℤ) → delta_in_range d ≡ true → (up d ≤ 2100000000000000) × (down d ≤ 2100000000000000)
unfolding delta_in_range
delta_parts d e =
    let b = and_both (le_z lowest d) (le_z d highest) e in
    let l = leb-true (up lowest + down d) (up d + down lowest) (sym (most_parts lowest d) ∙ b.0) in
    let h = leb-true (up d + down highest) (up highest + down d) (sym (most_parts d highest) ∙ b.1) in
    one_part d l h
  where
    one_part : (d : ℤ) → Le lowest d → Le d highest → (up d ≤ 2100000000000000) × (down d ≤ 2100000000000000)
    one_part (pos n) l h = (omega arith, omega arith)
    one_part (negsuc n) l h = (omega arith, omega arith)

module _ (n : ℕ) (d : ℤ) (few : n ≤ 2100000000000000) (e : delta_in_range d ≡ true) where
  pub fee_fits : SFits w64 (pos n)
  fee_fits = record { sfits = omega arith }

  -- the sum as it is, and as the code makes it
  sum_fits : SFits w64 (pos n +ℤ d)
  sum_fits =
      let z = pos n +ℤ d in
      let a = delta_parts d e in
      in_range_lem z (omega (arith, a.0, a.1, (sum (pos n) d).parts)) (omega (arith, a.0, a.1, (sum (pos n) d).parts))

  module _ (fits : SFits w64 d) where
    code_sum : to_z w64 n +ℤ to_z w64 (of_z w64 d) ≡ pos n +ℤ d
    code_sum = ap₂ ◌+ℤ◌ (to_z_pos w64 fee_fits.sfits) (to_z-of_z w64 d fits)

    pub code_fits : SFits w64 (to_z w64 n +ℤ to_z w64 (of_z w64 d))
    code_fits = rw code_sum sum_fits

    pub code_fee : to_z w64 (of_z w64 (to_z w64 n +ℤ to_z w64 (of_z w64 d))) ≡ pos n +ℤ d
    code_fee = to_z-of_z w64 _ code_fits ∙ code_sum

  -- it is in the range of a cluster's fees
  pub sum_inside : in_range (pos n +ℤ d) ≡ true
  unfolding in_range
  sum_inside =
      let z = pos n +ℤ d in
      let a = delta_parts d e in
      rw (
        most_parts (negsuc 4199999999999999) z,
        most_parts z (pos 4200000000000000),
        le-leb (0 + down z) (up z + 4200000000000000) (omega (arith, a.0, a.1, (sum (pos n) d).parts)),
        le-leb (up z + 0) (4200000000000000 + down z) (omega (arith, a.0, a.1, (sum (pos n) d).parts)),
      )

-- ---- an entry in its ranges

module _ (e : Entry) (h : entry_in_range e ≡ true) where
  pub fee_small : e.fee ≤ 2100000000000000
  unfolding entry_in_range
  fee_small = leb-true e.fee 2100000000000000 (and_both (leb e.fee 2100000000000000) _ h).0

  weight_small : e.weight.0 ≤ 4000000
  unfolding entry_in_range
  weight_small =
      leb-true e.weight.0 4000000
      (and_both (leb 1 e.weight.0) (leb e.weight.0 4000000) (and_both (leb e.fee 2100000000000000) _ h).1).1

module _ {p : Pool} {ds : List ℤ} {s : ℕ} (h : Payable p ds s) where
  -- what it counts for is within a word, and its fee in the range of a cluster's
  pub pay_fits : SFits w64 (fee_of p ds s)
  unfolding fee_of
  pay_fits = sum_fits (slot_at p s).entry.fee (get_or ds s (pos 0)) (fee_small (slot_at p s).entry h.entry) h.delta

  pub pay_inside : in_range (fee_of p ds s) ≡ true
  unfolding fee_of
  pay_inside = sum_inside (slot_at p s).entry.fee (get_or ds s (pos 0)) (fee_small (slot_at p s).entry h.entry) h.delta

  pub pay_size : size_of p s ≤ most
  unfolding size_of adjusted
  pay_size = omega (arith, weight_small (slot_at p s).entry h.entry)

-- no fee of such members is outside
inside_all : {p : Pool} {ds : List ℤ} (ms : List ℕ) → AllPayable p ds ms → length (fees_of p ds ms) ≤ first_outside (fees_of p ds ms)
unfolding first_outside
inside_all [] h = omega arith
inside_all (m ∷ ms) h = rw (pay_inside (h 0 (omega arith))) (suc-le-suc (inside_all ms (λ i l. h (suc i) (suc-le-suc l))))

pub all_inside : {p : Pool} {ds : List ℤ} (ms : List ℕ) → AllPayable p ds ms → any_outside (fees_of p ds ms) ≡ false
all_inside ms h = outside_none _ (inside_all ms h)
