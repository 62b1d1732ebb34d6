use mathlib.Core.Bool.{Bool, not}
use mathlib.Core.Path.{ap}
use lib.Dec.{eqb}
use Rattle.weights.specs.declared.RawWeight.{RawWeight}
use Rattle.pool_table.specs.Pool.{is_occupied}
use Rattle.pool_table.proofs.is_occupied.Goals as goal

pub returns : goal.returns
unfolding is_occupied
returns c = ap {B = Bool} (λ (w : RawWeight). not (eqb w.0 0)) c.weight.ensures
