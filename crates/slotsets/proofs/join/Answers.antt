use native.Mathlib.Omega.{arith}
use Rattle.slotsets.proofs.Words.{upto_done, joined_past, joined_turn}
use Rattle.slotsets.proofs.join.Goals as goal

pub loop-j-preserved : goal.loop-j-preserved
loop-j-preserved c = joined_turn c.args.more.now c.loop-j.invariant (omega arith)

pub returns : goal.returns
returns c = record {
  set_len_unchanged = c.loop-j.invariant.long;
  by_index = upto_done c.loop-j.invariant (joined_past c.args.set.now c.args.more.now c.loop-j.j (omega arith));
}
