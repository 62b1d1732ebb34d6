use mathlib.Core.List.{[], ◌∷◌}
use Rattle.texts.specs.Writing.{commas}
use Rattle.texts.proofs.Append.{three, writes}
use Rattle.cluster_writer.specs.Writing.{order_key}
use Rattle.cluster_writer.proofs.order_line.Goals as goal

pub returns : goal.returns
returns c =
    let key = c.write_bytes-at.ensures in
    let value = c.write_numbers-at.ensures in
    let newline = c.write_bytes.ensures in
    three order_key (commas c.args.order.now) (10 ∷ []) (writes (key.value, key.out_after)) (writes (value.value, value.out_after))
    (writes (newline.value, newline.out_after))
