use mathlib.Core.Path.{sym, ◌∙◌}
use native.Mathlib.Omega.{arith}
use Rattle.pool_add.proofs.Links.{linked_start, linked_skip, linked_more, linked_done}
use Rattle.pool_add.proofs.link_parents.Goals as goal
use Rattle.pool_add.proofs.link_parents.Goals.{then-contains, else-contains}

pub loop-s-init : goal.loop-s-init
loop-s-init c = linked_start _ _ _

pub loop-s-preserved : goal.loop-s-preserved
loop-s-preserved c = let inv = c.loop-s.invariant in
    let s = c.loop-s.s in
    elim c.if-contains.branch [
      | then-contains w ↦ rw w.table-is (linked_more _ _ s inv (sym c.contains.ensures ∙ w.if-contains.true) w.link.ensures w.link-then-contains.ensures)
      | else-contains w ↦ rw w.table-is (linked_skip _ _ s inv (sym c.contains.ensures ∙ w.if-contains.false))
    ]

pub shape_of-table : goal.shape_of-table
shape_of-table c = c.loop-s.invariant.long

pub returns : goal.returns
returns c = linked_done _ _ c.loop-s.s c.loop-s.invariant (omega arith)
