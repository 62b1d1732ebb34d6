use native.Mathlib.Omega.{arith}
use Rattle.texts.proofs.Append.{at_start, writes}
use Rattle.pool_writer.specs.Answers.{line_name, malformed_text}
use Rattle.pool_writer.proofs.Texts.{line_length}
use Rattle.pool_writer.proofs.write_malformed.Goals as goal

pub returns : goal.returns
unfolding malformed_text
returns c =
    let w = c.write_line.ensures in
    let r = at_start (writes (w.value, w.out_after) (record { fits = omega (arith, line_length line_name c.args.line (omega arith)) })) in
    record { value = r.0; out_after = r.1 }
