use native.Mathlib.Omega.{arith}
use borrow.Author.Tests.{ne_eqb}
use Rattle.pool_session.specs.Memory.{words_for}
use Rattle.pool_session.proofs.words_for.Goals as goal

pub returns-then-n-eq0 : goal.returns-then-n-eq0
unfolding words_for
returns-then-n-eq0 c = record { value = rw c.if-n-eq0.true; few = omega arith }

pub returns : goal.returns
unfolding words_for
returns c = record { value = rw (ne_eqb c.args.n 0 c.if-n-eq0.false); few = omega arith }
