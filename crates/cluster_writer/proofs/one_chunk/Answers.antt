use mathlib.Core.Path.{◌∙◌}
use mir.Syntax.{w64}
use mir.Facts.{to_z-of_z}
use borrow.Author.Rules.{sfits_of}
use Rattle.texts.specs.Writing.{decimal, signed, text_line}
use Rattle.texts.proofs.Append.{two, writes}
use Rattle.cluster_writer.specs.Writing.{chunk_key, chunk_lines, rate_key, shown_rate}
use Rattle.cluster_writer.proofs.one_chunk.Goals as goal

pub returns : goal.returns
unfolding chunk_lines
returns c =
    let line = c.write_line-at.ensures in
    let is = to_z-of_z {w = w64} (sfits_of c.shown_rate.type_inv) ∙ c.shown_rate.ensures in
    two (text_line chunk_key (decimal c.args.len)) (text_line rate_key (signed (shown_rate c.args.rate))) (writes (line.value, line.out_after))
    (rw is at c.rate_line.ensures)
