use Rattle.pool_table.specs.Changes.{with_link}
use Rattle.pool_table.proofs.Changes.{row_none, linked}
use Rattle.pool_table.proofs.link.Goals as goal

pub returns-in_default : goal.returns-in_default
returns-in_default c = row_none c.args.table.now c.args.s (with_link c.args.side c.args.b) c.in_default.ensures

pub returns : goal.returns
returns c =
    let a = c.args in
    let i = c.insert in
    linked a.table.now i.new.set a.s c.in-Some.ensures a.side a.b c.offset.result
    c.offset.ensures i.ensures.set_len_unchanged i.ensures.by_index (λ j. (c.type_inv.table j).fits)
