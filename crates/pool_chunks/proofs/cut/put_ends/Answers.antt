use borrow.Author.Rules.{rules}
use Rattle.pool_chunks.proofs.Writing.{ending_start, ending_fits, ending_within, ending_turn, ending_done}
use Rattle.pool_chunks.proofs.cut.put_ends.Goals as goal

pub loop-k-init : goal.loop-k-init
loop-k-init c = ending_start c.requires.lens_in_bounds

pub overflow_add-end : goal.overflow_add-end
overflow_add-end c = let h = ending_fits c.loop-k.invariant c.loop-k-test.true in let w = c.requires.lens_bound in search rules

pub bounds-ends-k : goal.bounds-ends-k
bounds-ends-k c = ending_within c.loop-k.invariant c.loop-k-test.true

pub loop-k-preserved : goal.loop-k-preserved
loop-k-preserved c = ending_turn c.loop-k.invariant c.loop-k-test.true

pub returns : goal.returns
returns c = ending_done c.loop-k.invariant c.loop-k-test.false
