use mathlib.Core.Path.{◌≡◌, sym, ap, ◌∙◌}
use mathlib.Core.List.{[], ◌∷◌}
use Prim.Native.Nat.{ℕ}
use native.Mathlib.Omega.{arith}
use lib.IntN.{pos}
use lib.ListN.{length, take}
use mir.Syntax.{w64}
use mir.Facts.{to_z-of_z}
use Rattle.std.specs.Prelude.{unsigned_abs}
use Rattle.feefrac.proofs.Signed.{Le, Lt, less, not_less, zero_fits}
use Rattle.texts.specs.Writing.{decimal}
use Rattle.texts.proofs.Append.{two, at_start, start_is, writes}
use Rattle.texts.proofs.Digits.{decimal_length}
use Rattle.texts.proofs.Numbers.{signed_up, signed_down}
use Rattle.texts.proofs.numerals.write_signed.Goals as goal
use Rattle.texts.proofs.numerals.write_signed.Goals.{After-write_decimal-end, Else-number-lt0, Then-number-lt0}

negative : (c : Then-number-lt0) → Lt c.args.number (pos 0)
negative c = less c.ranges.number zero_fits c.if-number-lt0.true

not_negative : (c : Else-number-lt0) → Le (pos 0) c.args.number
not_negative c = not_less c.ranges.number zero_fits c.if-number-lt0.false

-- the room of its own has the sign and the size
module _ (c : After-write_decimal-end) where
  abbrev size : ℕ
  size = c.unsigned_abs-size.result

  own : (take c.write_decimal-end.result c.write_decimal-end.new.out ≡ 45 ∷ decimal size) × (c.write_decimal-end.result ≡ length (45 ∷ decimal size))
  own =
      let e = c.write_decimal-end.ensures in
      let s = c.write_bytes-sign.ensures in
      let all = two (45 ∷ []) (decimal size) (writes (s.value, s.out_after)) (writes (e.value, e.out_after)) in
      let w = all (record { fits = omega (arith, decimal_length size) }) in
      (start_is w, (at_start w).0)

pub slice_bounds-text-end : goal.slice_bounds-text-end
slice_bounds-text-end c =
    let d = (goal.at.slice_bounds-text-end c).After-write_decimal-end in
    omega (arith, (own d).1, decimal_length (size d))

pub slice_bounds-write_bytes-end-then-number-lt0-2 : goal.slice_bounds-write_bytes-end-then-number-lt0-2
slice_bounds-write_bytes-end-then-number-lt0-2 c =
    let text = own (goal.at.slice_bounds-write_bytes-end-then-number-lt0-2 c).After-write_decimal-end in
    text.1 ∙ sym (ap length text.0)

pub returns-then-number-lt0 : goal.returns-then-number-lt0
returns-then-number-lt0 c =
    let n = negative (goal.at.returns-then-number-lt0 c).Then-number-lt0 in
    let is = (own (goal.at.returns-then-number-lt0 c).After-write_decimal-end).0 in
    let w = c.write_bytes.ensures in
    let size = c.unsigned_abs-size.ensures.value ∙ ap unsigned_abs (to_z-of_z {w = w64} c.ranges.number) in
    record { value = rw (signed_down _ n) (rw (is, size) at w.value); out_after = rw (signed_down _ n) (rw (is, size) at w.out_after) }

pub returns : goal.returns
returns c =
    let n = not_negative (goal.at.returns c).Else-number-lt0 in
    let size = c.unsigned_abs-size.ensures.value ∙ ap unsigned_abs (to_z-of_z {w = w64} c.ranges.number) in
    let w = c.write_decimal.ensures in
    record { value = rw (signed_up _ n) (rw size at w.value); out_after = rw (signed_up _ n) (rw size at w.out_after) }
