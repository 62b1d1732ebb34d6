use mathlib.Core.Path.{ap}
use Rattle.pool_session.specs.declared.Memory.{Memory}
use Rattle.pool_run.proofs.Steps.{at_start}
use Rattle.pool_run.proofs.Desk.new.Goals as goal

pub returns : goal.returns
returns c = rw c.nothing.ensures (at_start _ _ (ap (λ (m : Memory). m.slots) c.new.ensures))
