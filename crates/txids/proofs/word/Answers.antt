use native.Mathlib.Omega.{arith}
use Rattle.txids.proofs.Numbers.{reading_start, reading_fits, reading_turn, reading_done}
use Rattle.txids.proofs.word.Goals as goal

pub loop-b-init : goal.loop-b-init
loop-b-init c = reading_start c.args.bytes.now _ c.saturating_add.ensures c.min-from.ensures c.min-end.ensures (omega arith)

pub overflow_mul-n : goal.overflow_mul-n
overflow_mul-n c = record { fits = omega (arith, reading_fits c.loop-b.invariant 0 c.loop-b-test.true (omega arith)) }

pub overflow_add-n : goal.overflow_add-n
overflow_add-n c = rw c.from.ensures (record { fits = reading_fits c.loop-b.invariant _ c.loop-b-test.true (omega arith) })

pub loop-b-preserved : goal.loop-b-preserved
loop-b-preserved c = rw c.from.ensures (reading_turn c.loop-b.invariant c.loop-b-test.true (omega arith))

pub returns : goal.returns
returns c = reading_done c.loop-b.invariant (omega arith)
