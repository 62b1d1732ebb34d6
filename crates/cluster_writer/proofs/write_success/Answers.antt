use native.Mathlib.Omega.{arith}
use Rattle.texts.specs.Writing.{text_line, commas}
use Rattle.texts.proofs.Append.{three, writes}
use Rattle.cluster_writer.specs.Writing.{order_key, refusal_text, success_text}
use Rattle.cluster_writer.proofs.Texts.{success_length, many_members, many_chunks, few_both, refused, answered}
use Rattle.cluster_writer.proofs.write_success.Goals as goal

pub returns-then-order-gt-POSITIONS : goal.returns-then-order-gt-POSITIONS
returns-then-order-gt-POSITIONS c =
    let r =
    refused c.args.fees.now c.args.sizes.now c.args.order.now c.args.lens.now c.args.out.now
    (many_members c.args.order.now c.args.lens.now c.if-order-gt-POSITIONS.true) in
    record { value = r.0; out_after = r.1 }

pub returns-then-lens-gt-POSITIONS : goal.returns-then-lens-gt-POSITIONS
returns-then-lens-gt-POSITIONS c =
    let r =
    refused c.args.fees.now c.args.sizes.now c.args.order.now c.args.lens.now c.args.out.now
    (many_chunks c.args.order.now c.args.lens.now c.if-order-gt-POSITIONS.false c.if-lens-gt-POSITIONS.true) in
    record { value = r.0; out_after = r.1 }

pub returns : goal.returns
unfolding refusal_text success_text
returns c =
    let members = c.if-order-gt-POSITIONS.false in
    let chunks = c.if-lens-gt-POSITIONS.false in
    let fits = success_length c.args.fees.now c.args.sizes.now c.args.order.now c.args.lens.now members chunks in
    let order = text_line order_key (commas c.args.order.now) in
    let answer = c.write_line-at.ensures in
    let all = three (refusal_text 0) order _ (writes (answer.value, answer.out_after)) c.order_line-at.ensures c.chunk_lines.ensures in
    let r =
    answered c.args.fees.now c.args.sizes.now c.args.order.now c.args.lens.now (few_both c.args.order.now c.args.lens.now members chunks)
    (all (record { fits = omega (arith, fits) })) in
    record { value = r.0; out_after = r.1 }
