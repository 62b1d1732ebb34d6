-- `in_arrays`: its arrays are long enough. Assumes nothing.
use lib.ListN.{length-replicate}
use Rattle.template.proofs.Answers.{nine_wide}
use Rattle.template.proofs.in_arrays.Goals as goal

pub select_block_template-requires : goal.select_block_template-requires
select_block_template-requires g c = simp length-replicate (nine_wide c.args.table.now g.row.N c.requires.wide)

pub returns : goal.returns
returns g c = c.select_block_template.ensures
