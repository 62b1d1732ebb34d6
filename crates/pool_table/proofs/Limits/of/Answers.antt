use Rattle.pool_table.specs.Words.{pool_of, limits_in}
use Rattle.pool_table.proofs.Limits.of.Goals as goal

pub returns : goal.returns
unfolding pool_of limits_in
returns c = cc (c.header_word.ensures, c.header_word-2.ensures, c.header_word-3.ensures)
