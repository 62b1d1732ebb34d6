use mathlib.Core.List.{[], ◌∷◌}
use native.Mathlib.Omega.{arith}
use Rattle.texts.specs.Writing.{commas, joined}
use Rattle.texts.proofs.Append.{two, three, at_start, writes}
use Rattle.pool_writer.specs.Texts.{slot_text}
use Rattle.pool_writer.specs.Answers.{selected_name, txids_name, selected_text}
use Rattle.pool_writer.proofs.Texts.{selected_length}
use Rattle.pool_writer.proofs.both_lines.Goals as goal

pub returns : goal.returns
unfolding selected_text
returns c =
    let first = c.write_bytes-at.ensures in
    let slots = c.write_numbers-at.ensures in
    let second = c.write_bytes-at-2.ensures in
    let newline = c.write_bytes.ensures in
    let all =
    two selected_name _ (writes (first.value, first.out_after))
    (two (commas c.args.slots.now) _ (writes (slots.value, slots.out_after))
    (three txids_name (joined (slot_text c.args.table.now) c.args.slots.now) (10 ∷ []) (writes (second.value, second.out_after))
    c.write_txids-at.ensures (writes (newline.value, newline.out_after)))) in
    let r =
    at_start (all (record { fits = omega (arith, c.requires.out_len, selected_length c.args.table.now c.args.slots.now c.requires.slots_len_bound) })) in
    record { value = r.0; out_after = r.1 }
