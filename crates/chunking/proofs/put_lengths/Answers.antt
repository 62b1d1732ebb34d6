use native.Mathlib.Omega.{arith}
use mathlib.Core.Path.{◌≡◌}
use lib.ListN.{length}
use lib.Seq.{take-length}
use Rattle.chunking.proofs.Laws.{copy_turn}
use Rattle.chunking.proofs.put_lengths.Goals as goal

pub loop-i-preserved : goal.loop-i-preserved
loop-i-preserved c = rw c.loop-i.invariant (copy_turn _ _ _ c.loop-i-test.true (omega (arith, c.requires, c.loop-i-test.true)))

pub returns : goal.returns
returns c =
    let e : c.loop-i.i ≡ length c.args.chunks.now = omega (arith, c.loop-i-test.false, c.loop-i.auto.i-end) in
    rw (take-length c.args.chunks.now) at (rw e at c.loop-i.invariant)
