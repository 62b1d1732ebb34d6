use mathlib.Core.Path.{◌∙◌}
use Rattle.texts.proofs.Append.{writes}
use Rattle.pool_writer.proofs.Texts.{bytes_are}
use Rattle.pool_writer.proofs.write_word.Goals as goal

pub returns : goal.returns
returns c =
    let hex = c.write_hex.ensures in
    let is = c.to_be_bytes.ensures ∙ bytes_are 8 c.args.word in
    writes (rw is at hex.value, rw is at hex.out_after)
