use mathlib.Core.Path.{refl, sym}
use lib.Seq.{set_out}
use Rattle.txset.specs.Sets.{put_at}
use Rattle.txset.proofs.TxSet.put.Goals as goal

pub returns-then-i-sets : goal.returns-then-i-sets
unfolding put_at
returns-then-i-sets c = refl

pub returns-else-i-sets : goal.returns-else-i-sets
unfolding put_at
returns-else-i-sets c = sym (set_out c.args.sets.now c.args.i c.args.self.word c.if-i-sets.false)
