use mathlib.Core.List.{[], ◌∷◌}
use Rattle.texts.specs.Writing.{decimal, item}
use Rattle.texts.proofs.Append.{two, writes}
use Rattle.texts.proofs.Numbers.{later_item}
use Rattle.texts.proofs.numerals.write_item.Goals as goal

pub returns-then-k-eq0 : goal.returns-then-k-eq0
unfolding item
returns-then-k-eq0 c =
    let w = c.write_decimal.ensures in
    rw c.if-k-eq0.true (writes (w.value, w.out_after))

pub returns : goal.returns
returns c =
    let comma = c.write_bytes-next.ensures in
    let number = c.write_decimal-2.ensures in
    rw (later_item decimal c.args.k c.args.number c.if-k-eq0.false)
    (two (44 ∷ []) (decimal c.args.number) (writes (comma.value, comma.out_after)) (writes (number.value, number.out_after)))
