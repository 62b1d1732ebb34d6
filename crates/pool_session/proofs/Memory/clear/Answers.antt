use mathlib.Core.Path.{◌≡◌, sym, ◌∙◌}
use native.Mathlib.Omega.{arith}
use lib.IntN.{pos}
use lib.ListN.{take}
use Rattle.refusals.proofs.Outcomes.{no_success}
use Rattle.pool_rules.specs.Calls.{clear_answer}
use Rattle.pool_session.specs.Memory.{words_for}
use Rattle.pool_session.proofs.Arrays.{wipes_all, wipes_nothing}
use Rattle.pool_session.proofs.Steps.{put_back, cleared}
use Rattle.pool_session.proofs.Memory.clear.Goals as goal

pub returns-in-Ok : goal.returns-in-Ok
returns-in-Ok c =
    let m = c.args.self.now in
    let r = c.in-Ok.ensures in
    let are = c.words_for-words.ensures in
    let z = sym (rw are.value at r.value) in
    let after = rw are.value at r.table_after in
    let w = c.write_number.ensures in
    λ k. rw c.wipe_all.ensures (cleared m c.args.out.now k c.requires (record {
      words = put_back c.words_for-words.result c.clear.new.table m.words (omega (arith, are.few, c.requires.memory)) c.clear.auto.table after;
      deltas = wipes_all m.slots m.deltas (omega (arith, c.requires.few, c.requires.deltas)) _ (pos 0) z;
      marks = wipes_all m.slots m.marks (omega (arith, c.requires.few, c.requires.marks)) _ 0 z;
      says = (rw z w.value, rw z w.out_after);
    }))

pub returns-in-Err : goal.returns-in-Err
returns-in-Err c =
    let m = c.args.self.now in
    let r = c.in-Err.ensures in
    let are = c.words_for-words.ensures in
    let answer = c.number.ensures ∙ rw are.value at r.value in
    let after = rw are.value at r.table_after in
    let n : clear_answer (take (words_for m.slots) m.words) ≡ 0 → ⊥ = λ e. no_success c.in-Err.refusal (rw are.value at r.value ∙ e) in
    let w = c.write_number-in-Err.ensures in
    λ k. cleared m c.args.out.now k c.requires (record {
      words = put_back c.words_for-words.result c.clear.new.table m.words (omega (arith, are.few, c.requires.memory)) c.clear.auto.table after;
      deltas = wipes_nothing m.slots m.deltas (omega (arith, c.requires.few, c.requires.deltas)) _ (pos 0) n;
      marks = wipes_nothing m.slots m.marks (omega (arith, c.requires.few, c.requires.marks)) _ 0 n;
      says = (rw answer at w.value, rw answer at w.out_after);
    })
