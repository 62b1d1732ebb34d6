use Rattle.pool_table.specs.Words.{entry_words}
use Rattle.pool_table.specs.Changes.{with_entry}
use Rattle.pool_table.proofs.Changes.{row_none, entered}
use Rattle.pool_table.proofs.put_entry.Goals as goal

pub returns-in_default : goal.returns-in_default
returns-in_default c = row_none c.args.table.now c.args.s (with_entry c.args.e) c.in_default.ensures

pub returns : goal.returns
unfolding entry_words
returns c =
    entered c.args.table.now c.copy_from_slice.new.self c.args.s c.in-Some.ensures c.args.e c.copy_from_slice.ensures.after
