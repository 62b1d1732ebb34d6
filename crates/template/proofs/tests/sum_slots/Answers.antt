use mathlib.Core.Path.{ap}
use native.Mathlib.Omega.{arith}
use Rattle.pool_table.specs.declared.Entry.{Entry}
use Rattle.pool_table.specs.Words.{pool_of}
use Rattle.template.proofs.Asking.{sum_start, sum_fits, sum_turn, sum_done}
use Rattle.template.proofs.tests.sum_slots.Goals as goal

pub loop-s-init : goal.loop-s-init
loop-s-init c = sum_start (pool_of c.args.table.now) c.args.slots.now

pub overflow_add-weight : goal.overflow_add-weight
overflow_add-weight c =
    omega (
      arith,
      sum_fits c.loop-s.invariant c.requires.table_value c.requires.occupied.0 c.requires.occupied.1 c.loop-s-test.true,
      ap (λ (e : Entry). e.weight.0) c.at-entry.ensures,
    )

pub loop-s-preserved : goal.loop-s-preserved
loop-s-preserved c = rw (c.saturating_add-cost.ensures, c.at-entry.ensures) (sum_turn c.loop-s.invariant c.loop-s-test.true)

pub returns : goal.returns
returns c = sum_done c.loop-s.invariant c.loop-s-test.false
