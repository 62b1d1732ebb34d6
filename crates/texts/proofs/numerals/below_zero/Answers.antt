use mathlib.Core.Path.{sym, ap}
use Prim.Native.Nat.{ℕ}
use Rattle.std.proofs.Common.{Some}
use Rattle.texts.specs.Numerals.{negative}
use Rattle.texts.proofs.Decimals.{negative_of}
use Rattle.texts.proofs.numerals.below_zero.Goals as goal

pub returns-then-size-eq0 : goal.returns-then-size-eq0
returns-then-size-eq0 c = sym (ap (λ (n : ℕ). negative (Some n)) c.if-size-eq0.true)

pub returns : goal.returns
returns c = negative_of c.args.size c.checked_sub_unsigned.result c.if-size-eq0.false c.checked_sub_unsigned.ensures
