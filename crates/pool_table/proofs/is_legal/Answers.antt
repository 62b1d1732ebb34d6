use native.Mathlib.Omega.{arith}
use Rattle.pool_table.proofs.Rows.{legal_whole, legal_not}
use Rattle.pool_table.proofs.is_legal.Goals as goal

pub returns-then-n-lt1 : goal.returns-then-n-lt1
returns-then-n-lt1 c = legal_not c.args.table.now c.slots-n.result c.slots-n.ensures (λ a b. omega (arith, c.then-n-lt1.either))

pub returns : goal.returns
returns c = legal_whole c.args.table.now c.slots-n.result c.slots-n.ensures c.if-n-lt1.false (omega arith)
