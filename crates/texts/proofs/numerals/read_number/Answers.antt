use mathlib.Core.Path.{◌≡◌, sym, ◌∙◌}
use Prim.Native.Nat.{◌+◌, ◌-◌, ◌*◌}
use native.Mathlib.Omega.{arith}
use lib.ListN.{get_or}
use Rattle.texts.proofs.Decimals.{no_digits, extra_zero, one_byte, no_zero, start, done, no_digit, overflows, turn}
use Rattle.texts.proofs.numerals.read_number.Goals as goal
use Rattle.texts.proofs.numerals.read_number.Goals.{then-text-gt1+else-text-eq48, else-text-gt1}

pub returns-then-text-eq48 : goal.returns-then-text-eq48
returns-then-text-eq48 c = sym (extra_zero c.args.text.now (omega arith) c.if-text-eq48.true)

pub returns-then-text-eq0 : goal.returns-then-text-eq0
returns-then-text-eq0 c = sym (no_digits c.args.text.now c.if-text-eq0.true)

pub loop-b-init : goal.loop-b-init
loop-b-init c = let text = c.args.text.now in
    start text (elim c.if-text-gt1.branch [ then-text-gt1+else-text-eq48 w ↦ no_zero text c.if-text-eq0.false w.if-text-eq48.false | else-text-gt1 w ↦ one_byte text c.if-text-eq0.false (omega arith) ])

pub returns-then-not-is_ascii_digit : goal.returns-then-not-is_ascii_digit
returns-then-not-is_ascii_digit c =
    sym (no_digit c.loop-b.invariant c.loop-b-test.true (sym c.is_ascii_digit.ensures.value ∙ c.if-not-is_ascii_digit.true))

pub returns-in_err-checked_mul : goal.returns-in_err-checked_mul
returns-in_err-checked_mul c =
    rw c.from_residual.ensures (sym (overflows c.loop-b.invariant c.loop-b-test.true (omega (arith, c.in_err-checked_mul.ensures))))

pub returns-in_err-value : goal.returns-in_err-value
returns-in_err-value c =
    rw c.from_residual-in_err-value.ensures
    (sym (overflows c.loop-b.invariant c.loop-b-test.true
    (omega (arith, c.in_err-value.ensures, c.in_ok-checked_mul.ensures, c.from.ensures))))

pub loop-b-preserved : goal.loop-b-preserved
loop-b-preserved c =
    let digit = sym c.is_ascii_digit.ensures.value ∙ c.if-not-is_ascii_digit.false in
    let sum : c.in_ok-value.value ≡ 10 * c.loop-b.value + (get_or c.args.text.now c.loop-b.b-index 0 - 48) =
    omega (arith, c.in_ok-value.ensures, c.in_ok-checked_mul.ensures, c.from.ensures) in
    rw sum (turn c.loop-b.invariant c.loop-b-test.true digit (omega (arith, c.in_ok-value.ensures)))

pub returns : goal.returns
returns c = sym (done c.loop-b.invariant c.loop-b-test.false)
