use native.Mathlib.Omega.{arith}
use lib.Count.{count_trailing_zeros}
use lib.ListN.{get_or}
use borrow.Author.Tests.{ne_eqb}
use Rattle.txset.proofs.Bits.{trailing_is, trailing_lt}
use Rattle.slotsets.proofs.Words.{none_more, lowest_none, lowest_at}
use Rattle.slotsets.proofs.lowest.Goals as goal

pub returns-then-w-ne0 : goal.returns-then-w-ne0
returns-then-w-ne0 c =
    let ws = c.args.set.now in
    let j = c.loop-j.j in
    let w = get_or ws j 0 in
    lowest_at ws j (count_trailing_zeros 64 w) (omega arith) (trailing_lt 64 w (c.type_inv.set j).fits (ne_eqb w 0 c.if-w-ne0.true)) (trailing_is 64 w)
    c.loop-j.invariant

pub loop-j-preserved : goal.loop-j-preserved
loop-j-preserved c = none_more c.args.set.now c.loop-j.j c.if-w-ne0.false c.loop-j.invariant

pub returns : goal.returns
returns c = lowest_none c.args.set.now c.loop-j.j (omega arith) c.loop-j.invariant
