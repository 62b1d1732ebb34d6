-- What is known of a read and of a stop, by their cases. Assumes nothing.
use Prim.Native.Nat.{ℕ, ◌+◌, ◌≤◌, ◌<◌}
use native.Mathlib.Omega.{arith}
use mathlib.Core.Path.{◌≡◌, subst}
use mathlib.Core.List.{List}
use lib.ListN.{length}
use Rattle.cluster_run.specs.declared.reads.Got.{Got}
use Rattle.cluster_run.specs.declared.reads.Got.TheVariants as got
use Rattle.cluster_run.specs.declared.reads.End.{End}
use Rattle.cluster_run.specs.declared.reads.Failure.{Failure}
use Rattle.cluster_run.specs.declared.Stop.{Stop}
use Rattle.cluster_run.specs.declared.Stop.TheVariants as stop
use Rattle.std.proofs.Common.{Some}
use Rattle.cluster_run.specs.Stops.{Gave, Stopped, text_read}

-- so many were read, or none, or the read failed
pub gave_bytes : (from most : ℕ) {n : ℕ} {g : Got} → Gave from most g → g ≡ got.Bytes n → (0 < n) × (from + n ≤ most)
gave_bytes from most h e = subst (Gave from most) e h

pub gave_end : (from most : ℕ) {end : End} {g : Got} → Gave from most g → g ≡ got.Ended end → end.at ≡ from
gave_end from most h e = subst (Gave from most) e h

pub gave_failure : (from most : ℕ) {failure : Failure} {g : Got} → Gave from most g → g ≡ got.Failed failure → failure.at ≡ from
gave_failure from most h e = subst (Gave from most) e h

-- the bytes that the answer goes by lie within the room
pub stop_within : (room : List ℕ) (s : Stop) {n : ℕ} → Stopped room s → text_read s ≡ Some n → n ≤ length room
stop_within room (stop.Ended e) {n} h q = let p : e.at ≡ n = cc in omega arith
stop_within room (stop.Full m) {n} h q = let p : m ≡ n = cc in omega arith
stop_within room (stop.Decided m) {n} h q = let p : m ≡ n = cc in omega arith
stop_within room (stop.Failed f) h q = let z : ◌≡◌ {A = ℕ} 0 1 = cc in absurd (omega arith)
