use mathlib.Core.Path.{◌≡◌}
use lib.ListN.{length}
use Rattle.pool_table.specs.Words.{pool_of}
use Rattle.pool_chunks.specs.Sorted.{arrays}
use Rattle.template.proofs.Going.{Going}
use Rattle.template.proofs.fill.Given as goal

abbrev pub invariant-loop-c : goal.invariant-loop-c
invariant-loop-c l = Going (pool_of l.table) l.marks l.terms (arrays l.count l.listed l.starts l.fees l.sizes l.order l.members l.firsts l.ups) l.c-index l.used l.taken l.picked
    × (length l.picked ≡ length l.initial.picked)
