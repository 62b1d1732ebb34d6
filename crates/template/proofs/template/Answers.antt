-- `template`: the arrays are made for the slots that the table has. Assumes nothing.
use native.Mathlib.Omega.{arith}
use Rattle.template.proofs.Answers.{slots_few}
use Rattle.template.proofs.template.Goals as goal

pub in_arrays-requires-2 : goal.in_arrays-requires-2
in_arrays-requires-2 c = record { wide = slots_few c.args.table.now; few = omega arith }
