use mathlib.Core.Path.{sym, ◌∙◌}
use native.Mathlib.Omega.{arith}
use Rattle.txset.proofs.Words.{has_in_zeros}
use Rattle.slotsets.proofs.Words.{upto_turn, upto_done}
use Rattle.pool_clusters.proofs.Words.{meet_word, meet_past}
use Rattle.pool_clusters.proofs.chosen.Goals as goal

pub loop-j-preserved : goal.loop-j-preserved
loop-j-preserved c = upto_turn c.loop-j.invariant _ (omega arith) (meet_word c.args.all.now c.args.seeds.now c.loop-j.j)

pub returns : goal.returns
returns c =
    upto_done c.loop-j.invariant
    (λ i l. meet_past c.args.all.now c.args.seeds.now i (omega arith) ∙ sym (has_in_zeros 16 i))
