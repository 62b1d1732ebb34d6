use Prim.Native.Nat.{◌+◌, ◌-◌}
use native.Mathlib.Omega.{arith}
use Rattle.texts.proofs.HexText.{value_low, value_decimal, value_between, value_letter, value_high, no_value, some_value}
use Rattle.texts.proofs.hex.value.Goals as goal

pub returns-in-97-to-102 : goal.returns-in-97-to-102
returns-in-97-to-102 c =
    some_value c.args.digit (c.args.digit - 97 + 10) (omega (arith, value_letter c.args.digit (omega arith) (omega arith))) (omega arith)

pub returns-in-48-to-57 : goal.returns-in-48-to-57
returns-in-48-to-57 c = some_value c.args.digit (c.args.digit - 48) (value_decimal c.args.digit (omega arith) (omega arith)) (omega arith)

pub returns-in_default : goal.returns-in_default
returns-in_default c = no_value c.args.digit (value_low c.args.digit (omega arith))

pub returns-in_default-2 : goal.returns-in_default-2
returns-in_default-2 c = no_value c.args.digit (value_between c.args.digit (omega arith) (omega arith))

pub returns-in_default-3 : goal.returns-in_default-3
returns-in_default-3 c = no_value c.args.digit (value_high c.args.digit (omega arith))
