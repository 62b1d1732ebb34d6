use mathlib.Core.List.{[], ◌∷◌}
use native.Mathlib.Omega.{arith}
use Rattle.texts.specs.Writing.{decimal}
use Rattle.texts.proofs.Append.{two, at_start, writes}
use Rattle.pool_writer.specs.Answers.{number_text}
use Rattle.pool_writer.proofs.Texts.{number_length}
use Rattle.pool_writer.proofs.write_number.Goals as goal

pub returns : goal.returns
unfolding number_text
returns c =
    let digits = c.write_decimal-at.ensures in
    let newline = c.write_bytes.ensures in
    let r =
    at_start (two (decimal c.args.number) (10 ∷ []) (writes (digits.value, digits.out_after)) (writes (newline.value, newline.out_after))
    (record { fits = omega (arith, number_length c.args.number) })) in
    record { value = r.0; out_after = r.1 }
