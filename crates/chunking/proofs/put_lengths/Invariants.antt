use Rattle.std.proofs.Common.{◌≡◌, ◌++◌, map, take, drop}
use Rattle.chunking.specs.declared.Chunk.{Chunk}
use Rattle.chunking.proofs.put_lengths.Given as goal

abbrev pub invariant-loop-i : goal.invariant-loop-i
invariant-loop-i l = l.room ≡ map (λ (c : Chunk). c.len) (take l.i l.chunks) ++ drop l.i l.initial.room
