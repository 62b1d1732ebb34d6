use native.Mathlib.Omega.{arith}
use borrow.Author.Tests.{eq-eqb, ne_eqb}
use Rattle.texts.specs.Writing.{decimal, text_line}
use Rattle.texts.proofs.Append.{three, at_start, writes}
use Rattle.pool_writer.specs.Answers.{entries_name, weight_name, totals_text}
use Rattle.pool_writer.proofs.Texts.{totals_length}
use Rattle.pool_writer.proofs.write_totals.Goals as goal

pub returns-then-answer-ne0 : goal.returns-then-answer-ne0
unfolding totals_text
returns-then-answer-ne0 c =
    let e = ne_eqb c.args.reply.answer 0 c.if-answer-ne0.true in
    let w = c.write_number.ensures in
    record { value = rw e w.value; out_after = rw e w.out_after }

pub returns : goal.returns
unfolding totals_text
returns c =
    let reply = c.args.reply in
    let e = eq-eqb reply.answer 0 c.if-answer-ne0.false in
    let name = c.write_bytes-at.ensures in
    let digits = c.write_decimal-at.ensures in
    let line = c.write_line.ensures in
    let r =
    at_start (three entries_name (decimal reply.entries) (text_line weight_name (decimal reply.weight)) (writes (name.value, name.out_after))
    (writes (digits.value, digits.out_after)) (writes (line.value, line.out_after))
    (record { fits = omega (arith, totals_length reply.entries reply.weight) })) in
    record { value = rw e r.0; out_after = rw e r.1 }
