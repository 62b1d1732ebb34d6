use mathlib.Core.Path.{◌≡◌}
use Rattle.pool_run.specs.Stops.{Behind}
use Rattle.pool_run.proofs.Desk.read_all.Given as goal

-- each whole line of the input so far is answered, and each turn was a read
abbrev pub invariant-loop : goal.invariant-loop
invariant-loop l = (l.input.reads ≡ l.counter) × Behind l.input.bytes l.self
