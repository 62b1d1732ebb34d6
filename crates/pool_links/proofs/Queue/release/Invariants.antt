use Prim.Native.Nat.{ℕ, ◌*◌}
use Rattle.pool_table.specs.Words.{pool_of}
use Rattle.pool_links.specs.Steps.{children_to, Walking}
use Rattle.pool_links.proofs.Gaps.{Ahead}
use Rattle.pool_links.proofs.Queue.release.Given as goal

-- the children in the words before x were met, and what is left are the filled words from there on
abbrev pub invariant-loop-j : goal.invariant-loop-j
invariant-loop-j l = (x : ℕ) × Ahead l.words x l.j-iterator.rest × Walking (pool_of l.table) l.at l.a (children_to (pool_of l.table) l.a (64 * x)) l.self.needs l.self.slots l.self.end
