-- What is left of the list, taken in on top of the sum so far, is the sum of all.
use native.Mathlib.Numerals.{add-one}
use lib.ListN.{drop_of_length-le}
use lib.Seq.{drop-cons}
use Rattle.feeset.specs.Total.{total_from}
use Rattle.feeset.proofs.list_feerate.Goals as goal

pub loop-t-preserved : goal.loop-t-preserved
unfolding total_from
loop-t-preserved c =
    let next = drop-cons c.args.list.now c.loop-t.t-index 0 c.loop-t-test.true in
    rw (c.add-sum.ensures, c.at.ensures, add-one) (rw next at c.loop-t.invariant)

pub returns : goal.returns
unfolding total_from
returns c = rw (drop_of_length-le _ c.loop-t-test.false) at c.loop-t.invariant
