use native.Mathlib.Omega.{arith}
use mathlib.Core.Path.{ap, ◌∙◌}
use Rattle.pool_writer.specs.Answers.{placed_text}
use Rattle.txids.specs.Txids.{txid_at}
use Rattle.pool_session.proofs.Steps.{put_back, tells, removed}
use Rattle.pool_session.proofs.Memory.remove.Goals as goal

pub returns : goal.returns
returns c =
    let m = c.args.self.now in
    let r = c.remove-freed.ensures in
    let are = c.words_for-words.ensures in
    let reply = rw are.value at r.value in
    let after = rw are.value at r.table_after in
    let w = c.write_placed.ensures in
    λ k. rw c.wipe.ensures (removed m c.args.out.now k c.requires (txid_at c.args.txid 0) (record {
      words = put_back c.words_for-words.result c.remove-freed.new.table m.words (omega (arith, are.few, c.requires.memory)) c.remove-freed.auto.table after;
      deltas = rw reply;
      marks = rw reply;
      says = tells c.args.out.now (ap placed_text (c.from.ensures ∙ reply)) (w.value, w.out_after);
    }))
