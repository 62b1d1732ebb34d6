-- Why the program stops, and where it stands then. Assumes nothing.
use Rattle.std.specs.Prelude.{ℕ, ◌≡◌, true, false, List, length}
use Rattle.pool_session.specs.Program.{last_number, responses}
use Rattle.pool_run.specs.declared.reads.Input.{Input}
use Rattle.pool_run.specs.declared.reads.End.{End}
use Rattle.pool_run.specs.declared.reads.Failure.{Failure}
use Rattle.pool_run.specs.declared.Desk.{Desk}
use Rattle.pool_run.specs.declared.Stop.{Stop}
use Rattle.pool_run.specs.declared.Last.{Last}
use Rattle.pool_run.specs.declared.Stop.TheVariants as stop
use Rattle.pool_run.specs.declared.writes.Printed.{Printed}
use Rattle.pool_run.specs.Reads.{held}
use Rattle.pool_run.specs.Standing.{Stands}

-- the input has so many bytes, and what was printed as many as its responses have
pub record Whole (read : ℕ) (p : Printed) : Type 0 where
  pub input : List ℕ
  pub many : read ≡ held (length input)
  pub takes : p.is_open ≡ true
  pub bytes : p.bytes ≡ held (length (responses input))

-- so many bytes were read, and the program stands behind them
pub record Behind (read : ℕ) (d : Desk) : Type 0 where
  pub input : List ℕ
  pub many : read ≡ held (length input)
  pub stands : Stands input d

-- the input ended, and all of it is answered; a read failed; a write failed; or there were as many reads as can be counted
pub data Stopped : Stop → Desk → Type 0 where
  ended : {e : End} {d : Desk} → Whole e.bytes d.printed → Stopped (stop.Ended e) d
  failed : {f : Failure} {d : Desk} → Behind f.bytes d → Stopped (stop.Failed f) d
  closed : {d : Desk} → d.printed.is_open ≡ false → Stopped stop.Closed d
  tired : {i : Input} {d : Desk} → i.reads ≡ last_number → Behind i.bytes d → Stopped (stop.Tired i) d

pub record Finished (r : Last) : Type 0 where
  pub stopped : Stopped r.stop r.desk
