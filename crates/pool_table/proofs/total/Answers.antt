use Rattle.pool_table.specs.Words.{pool_of}
use Rattle.pool_table.proofs.total.Goals as goal

pub returns : goal.returns
unfolding pool_of
returns c = c.header_word.ensures
