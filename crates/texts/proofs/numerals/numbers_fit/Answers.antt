use mathlib.Core.Path.{sym}
use native.Mathlib.Omega.{arith}
use Rattle.texts.proofs.Numbers.{measure_start, too_many, measured, all_fit}
use Rattle.texts.proofs.numerals.numbers_fit.Goals as goal

pub returns-then-left-len : goal.returns-then-left-len
returns-then-left-len c = let turn = c.before.before.before in
    sym (too_many turn.loop-k.invariant turn.loop-k-test.true (omega (arith, c.item_len-len.ensures)))

pub loop-k-preserved : goal.loop-k-preserved
loop-k-preserved c = let turn = c.before.before.before in
    rw c.item_len-len.ensures (measured turn.loop-k.invariant turn.loop-k-test.true (omega (arith, c.item_len-len.ensures)))

pub loop-k-init : goal.loop-k-init
loop-k-init c = measure_start (omega arith)

pub returns : goal.returns
returns c = sym (all_fit c.loop-k.invariant c.loop-k-test.false)
