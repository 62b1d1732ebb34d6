use mathlib.Core.Path.{ap, ◌∙◌}
use native.Mathlib.Omega.{arith}
use Prim.Native.Nat.{ℕ}
use lib.ListN.{take}
use Rattle.texts.proofs.Places.{take_min}
use Rattle.pool_rules.specs.Calls.{entry_of}
use Rattle.pool_writer.specs.Answers.{placed_text}
use Rattle.pool_session.proofs.Steps.{put_back, tells, added}
use Rattle.pool_session.proofs.Memory.add.Goals as goal

pub returns : goal.returns
returns c =
    let m = c.args.self.now in
    let a = c.args.adding in
    let entry = entry_of c.args.txid a.fee a.weight a.cost in
    let r = c.add-taken.ensures in
    let are = c.words_for-words.ensures in
    let listed = ap (λ (k : ℕ). take k c.args.parents.now) c.min-listed.ensures ∙ take_min a.listed c.args.parents.now in
    let reply = rw (are.value, listed) at r.value in
    let after = rw (are.value, listed) at r.table_after in
    let w = c.write_placed.ensures in
    λ k. rw c.wipe.ensures (added m c.args.out.now k c.requires entry (take a.listed c.args.parents.now) (record {
      words = put_back c.words_for-words.result c.add-taken.new.table m.words (omega (arith, are.few, c.requires.memory)) c.add-taken.auto.table after;
      deltas = rw reply;
      marks = rw reply;
      says = tells c.args.out.now (ap placed_text (c.from.ensures ∙ reply)) (w.value, w.out_after);
    }))
