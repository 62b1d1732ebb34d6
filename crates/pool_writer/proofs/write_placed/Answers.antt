use native.Mathlib.Omega.{arith}
use borrow.Author.Tests.{eq-eqb, ne_eqb}
use Rattle.texts.proofs.Append.{at_start, writes}
use Rattle.pool_writer.specs.Answers.{slot_name, placed_text}
use Rattle.pool_writer.proofs.Texts.{line_length}
use Rattle.pool_writer.proofs.write_placed.Goals as goal

pub returns-then-answer-ne0 : goal.returns-then-answer-ne0
unfolding placed_text
returns-then-answer-ne0 c =
    let e = ne_eqb c.args.reply.answer 0 c.if-answer-ne0.true in
    let w = c.write_number.ensures in
    record { value = rw e w.value; out_after = rw e w.out_after }

pub returns : goal.returns
unfolding placed_text
returns c =
    let reply = c.args.reply in
    let e = eq-eqb reply.answer 0 c.if-answer-ne0.false in
    let w = c.write_line.ensures in
    let r = at_start (writes (w.value, w.out_after) (record { fits = omega (arith, line_length slot_name reply.slot (omega arith)) })) in
    record { value = rw e r.0; out_after = rw e r.1 }
