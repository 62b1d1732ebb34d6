use mathlib.Core.Path.{◌≡◌, refl, sym, ap, ◌∙◌}
use native.Mathlib.Omega.{arith}
use borrow.Author.Rules.{rules}
use lib.ListN.{length}
use lib.Seq.{length-take-le}
use Rattle.refusals.specs.declared.Reply.{Reply}
use Rattle.refusals.specs.Refusals.{success}
use Rattle.slotsets.specs.SlotSets.{capacity}
use Rattle.refusals.proofs.Outcomes.{no_success}
use Rattle.pool_reader.specs.Requests.{template}
use Rattle.pool_writer.specs.Answers.{number_text}
use Rattle.pool_session.specs.Answers.{with_terms}
use Rattle.pool_session.specs.Memory.{lends, session_in}
use Rattle.pool_session.proofs.Steps.{tells, leaves_all, Picked, picked, told_refused, told_selected}
use Rattle.pool_session.proofs.Memory.template.Goals as goal
use Rattle.pool_session.proofs.Memory.template.Goals.{In-Ok}

pub returns-in-Err : goal.returns-in-Err
returns-in-Err c =
    let m = c.args.self.now in
    let s = session_in m.slots (lends m c.args.out.now) in
    let is = ap (λ (r : Reply). r.answer) (rw c.words_for-words.ensures.value at c.in-Err.ensures.value) in
    let w = c.write_number.ensures in
    λ k. leaves_all m c.args.out.now k c.requires (template c.args.terms) refl
    (tells c.args.out.now (ap number_text (c.number.ensures ∙ is) ∙ sym (told_refused s c.args.terms (λ z. no_success c.in-Err.refusal (is ∙ z))))
    (w.value, w.out_after))

-- the slots that it wrote
chosen : (c : In-Ok)
    → Picked (session_in c.args.self.now.slots (lends c.args.self.now c.args.out.now)).table
    (with_terms (session_in c.args.self.now.slots (lends c.args.self.now c.args.out.now)) c.args.terms)
    c.in-Ok.count c.template-outcome.new.room
chosen c =
    let long : length c.template-outcome.new.room ≡ capacity = search rules in
    let r = c.in-Ok.ensures in
    let are = c.words_for-words.ensures.value in
    picked _ _ (success c.in-Ok.count) (rw are at r.value) c.template-outcome.new.room (rw are at r.room_after) long refl

pub returns-in-Ok : goal.returns-in-Ok
returns-in-Ok c =
    let m = c.args.self.now in
    let s = session_in m.slots (lends m c.args.out.now) in
    let are = c.words_for-words.ensures.value in
    let is = ap (λ (r : Reply). r.answer) (rw are at c.in-Ok.ensures.value) in
    let some = (chosen (goal.at.returns-in-Ok c).In-Ok).are in
    let w = c.write_selected.ensures in
    λ k. leaves_all m c.args.out.now k c.requires (template c.args.terms) refl
    (tells c.args.out.now (sym (told_selected s c.args.terms (sym is))) (rw (are, some) at w.value, rw (are, some) at w.out_after))

pub slice_bounds-room-end : goal.slice_bounds-room-end
slice_bounds-room-end c =
    let long : length c.template-outcome.new.room ≡ capacity = search rules in
    omega (arith, (chosen (goal.at.slice_bounds-room-end c).In-Ok).few, long)

pub slice_bounds-write_selected-end-in-Ok : goal.slice_bounds-write_selected-end-in-Ok
slice_bounds-write_selected-end-in-Ok c =
    let long : length c.template-outcome.new.room ≡ capacity = search rules in
    sym (length-take-le c.in-Ok.count c.template-outcome.new.room
    (omega (arith, (chosen (goal.at.slice_bounds-write_selected-end-in-Ok c).In-Ok).few, long)))
