use mathlib.Core.Path.{sym}
use lib.Seq.{set_out}
use Rattle.feefrac.proofs.put_at.Goals as goal

pub returns-else-i-list : goal.returns-else-i-list
returns-else-i-list g c = sym (set_out c.args.list.now c.args.i _ c.if-i-list.false)
