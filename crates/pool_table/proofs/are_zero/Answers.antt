use mathlib.Core.Path.{refl}
use lib.ListN.{get_or}
use Rattle.pool_table.proofs.Zeroed.{zeroed_more, zeroed_all}
use native.Mathlib.Omega.{arith}
use Rattle.pool_table.proofs.are_zero.Goals as goal

pub loop-word-preserved : goal.loop-word-preserved
loop-word-preserved c =
    let l = c.loop-word in
    zeroed_more c.args.words.now l.word-index l.digits (get_or c.args.words.now l.word-index 0) c.loop-word-test.true refl l.invariant

pub returns : goal.returns
returns c = zeroed_all c.args.words.now c.loop-word.word-index c.loop-word.digits (omega arith) c.loop-word.invariant
