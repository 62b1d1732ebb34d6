use native.Mathlib.Omega.{arith}
use Rattle.texts.specs.Writing.{decimal}
use Rattle.texts.proofs.Digits.{decimal_length}
use Rattle.texts.proofs.Append.{at_start}
use Rattle.texts.proofs.Numbers.{item_length}
use Rattle.texts.proofs.numerals.item_len.Goals as goal

pub returns : goal.returns
returns c = let args = c.args in
    (at_start (c.write_item.ensures (record { fits = omega (arith, item_length decimal 20 decimal_length args.k args.number) }))).0
