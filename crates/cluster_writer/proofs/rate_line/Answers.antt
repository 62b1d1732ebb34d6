use mir.Syntax.{w64}
use mir.Facts.{to_z-of_z}
use mathlib.Core.List.{[], ◌∷◌}
use Rattle.texts.specs.Writing.{signed}
use Rattle.texts.proofs.Append.{three, writes}
use Rattle.cluster_writer.specs.Writing.{rate_key}
use Rattle.cluster_writer.proofs.rate_line.Goals as goal

pub returns : goal.returns
returns c =
    let key = c.write_bytes-at.ensures in
    let value = c.write_signed-at.ensures in
    let newline = c.write_bytes.ensures in
    let is = to_z-of_z {w = w64} c.ranges.rate in
    three rate_key (signed c.args.rate) (10 ∷ []) (writes (key.value, key.out_after)) (writes (rw is at value.value, rw is at value.out_after))
    (writes (newline.value, newline.out_after))
