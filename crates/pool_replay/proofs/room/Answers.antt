use mathlib.Core.Path.{sym}
use Prim.Native.Nat.{ℕ}
use lib.ListN.{length-replicate}
use Rattle.pool_replay.proofs.room.Goals as goal

-- a list of so many zeros is so long; `search` would count them one by one
pub returns : goal.returns
returns c = sym (length-replicate {A = ℕ} 262144 0)
