use native.Mathlib.Omega.{arith}
use Rattle.texts.proofs.Append.{at_start, writes}
use Rattle.cluster_writer.specs.Writing.{refusal_text}
use Rattle.cluster_writer.proofs.Texts.{refusal_length}
use Rattle.cluster_writer.proofs.write_refusal.Goals as goal

pub returns : goal.returns
unfolding refusal_text
returns c =
    let w = c.write_line.ensures in
    let r = at_start (writes (w.value, w.out_after) (record { fits = omega (arith, refusal_length c.args.number) })) in
    record { value = r.0; out_after = r.1 }
