use mathlib.Core.Path.{sym, ◌∙◌}
use native.Mathlib.Omega.{arith}
use Rattle.pool_reader.proofs.Reading.{none_gathered, one_fits, no_txid, gathered, all_gathered}
use Rattle.pool_reader.proofs.words.read_txids.Goals as goal

pub returns-in_err-at : goal.returns-in_err-at
returns-in_err-at c =
    rw c.from_residual.ensures (no_txid c.loop-at.invariant (omega (arith, c.loop-at-test.true)) c.in_err-at.ensures)

pub loop-at-preserved : goal.loop-at-preserved
loop-at-preserved c = gathered c.loop-at.invariant (omega (arith, c.loop-at-test.true)) c.in_ok-at.ensures

pub loop-at-init : goal.loop-at-init
loop-at-init c = none_gathered _ _ _ c.requires.place c.requires.out_len

pub read_txid-requires : goal.read_txid-requires
read_txid-requires c = record {
  place = c.loop-at.invariant.place;
  at_in_bounds = one_fits c.loop-at.invariant (omega (arith, c.loop-at-test.true));
}

pub overflow_add-len : goal.overflow_add-len
overflow_add-len c = omega (arith, one_fits c.loop-at.invariant (omega (arith, c.loop-at-test.true)), c.loop-at.invariant.kept)

pub loop-at-smaller : goal.loop-at-smaller
loop-at-smaller c =
    let t = c.in_ok-at.ensures in
    let some = c.loop-at-test.true in
    omega (arith, t.far)

pub shape_of-out : goal.shape_of-out
shape_of-out c = let i = c.loop-at.invariant in i.kept ∙ sym i.room

pub returns : goal.returns
returns c = all_gathered c.loop-at.invariant c.loop-at-test.false
