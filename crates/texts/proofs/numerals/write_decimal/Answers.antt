use mathlib.Core.Path.{◌≡◌, sym, ◌∙◌}
use lib.ListN.{take}
use Rattle.texts.specs.Writing.{decimal}
use Rattle.texts.proofs.Digits.{decimal_digits}
use Rattle.texts.proofs.numerals.write_decimal.Goals as goal
use Rattle.texts.proofs.numerals.write_decimal.Goals.{After-decimal-k}

-- the digits written are the number's
are : (c : After-decimal-k) → take c.decimal-k.result c.decimal-k.new.out ≡ decimal c.args.number
are c =
    let e = c.decimal-k.ensures in
    e.digits ∙ sym (decimal_digits c.args.number c.decimal-k.result c.ranges.number.fits e.len)

pub returns : goal.returns
returns c =
    let d = are (goal.at.returns c).After-decimal-k in
    let w = c.write_bytes.ensures in
    record { value = rw (← d) w.value; out_after = rw (← d) w.out_after }
