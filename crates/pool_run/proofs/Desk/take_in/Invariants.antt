use mathlib.Core.List.{List, ◌++◌}
use Prim.Native.Nat.{ℕ}
use lib.ListN.{take}
use Rattle.pool_run.specs.Standing.{Stands}
use Rattle.pool_run.proofs.Desk.take_in.Given as goal

-- the bytes passed are taken in
abbrev pub invariant-loop-byte : goal.invariant-loop-byte
invariant-loop-byte l = (input : List ℕ) → Stands input l.initial.self → Stands (input ++ take l.byte-index l.chunk) l.self
