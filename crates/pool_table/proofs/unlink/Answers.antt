use Rattle.pool_table.specs.Changes.{unlinked}
use Rattle.pool_table.proofs.Changes.{row_none, unlinked_both}
use Rattle.pool_table.proofs.unlink.Goals as goal

pub returns-in_default : goal.returns-in_default
returns-in_default c = row_none c.args.table.now c.args.s (unlinked c.args.b) c.in_default.ensures

pub returns : goal.returns
returns c =
    let a = c.args in
    let p = c.remove in
    let q = c.remove-2 in
    unlinked_both a.table.now p.new.set a.s c.in-Some.ensures a.b p.ensures.set_len_unchanged q.new.set p.ensures.by_index
    (λ j. (c.slice_known-2-1.given j).fits) q.ensures.set_len_unchanged q.ensures.by_index
    (λ j. (c.type_inv.table j).fits)
