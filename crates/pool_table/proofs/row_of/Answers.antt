use mathlib.Core.Path.{refl, sym, ◌∙◌}
use native.Mathlib.Omega.{arith}
use lib.Dec.{lit<}
use Rattle.pool_table.proofs.Rows.{row_within}
use Rattle.pool_table.proofs.row_of.Goals as goal

pub overflow_mul-result : goal.overflow_mul-result
overflow_mul-result c = omega (arith, row_within c.args.table.now c.args.s 0 (omega arith) (lit< tt))

pub overflow_add-result : goal.overflow_add-result
overflow_add-result c = omega (arith, row_within c.args.table.now c.args.s 0 (omega arith) (lit< tt))

pub returns : goal.returns
returns c =
    record {
      legal = sym c.is_legal.ensures ∙ c.if-not-is_legal.false;
      there = omega arith;
      start = refl;
      within = omega (arith, row_within c.args.table.now c.args.s 38 (omega arith) (lit< tt));
    }
