use Prim.Native.Nat.{◌+◌}
use Rattle.txids.proofs.Numbers.{Reading}
use Rattle.txids.proofs.word.Given as goal

abbrev pub invariant-loop-b : goal.invariant-loop-b
invariant-loop-b l = Reading l.bytes l.b-items (l.at + l.skip) l.n l.b-index
