use native.Mathlib.Omega.{arith}
use Rattle.pool_calls.proofs.Leaving.{walk_start, walk_turn, walk_end}
use Rattle.pool_calls.proofs.unlink_all.Goals as goal

pub loop-s-init : goal.loop-s-init
loop-s-init c = walk_start _ _

pub loop-s-preserved : goal.loop-s-preserved
loop-s-preserved c = walk_turn _ c.loop-s.s _ c.loop-s.table _ (omega arith) c.loop-s.invariant c.unlink.ensures

pub shape_of-table : goal.shape_of-table
shape_of-table c = c.loop-s.invariant.long

pub returns : goal.returns
returns c = walk_end _ c.loop-s.s _ _ (omega arith) c.loop-s.invariant
