use mathlib.Core.Path.{◌≡◌}
use native.Mathlib.Omega.{arith}
use borrow.Author.Rules.{rules}
use lib.ListN.{length}
use Rattle.pool_run.specs.Standing.{kept_length}
use Rattle.pool_run.proofs.Lines.{byte_kept, byte_dropped}
use Rattle.pool_run.proofs.Steps.{byte_taken}
use Rattle.pool_run.proofs.Desk.take_byte.Goals as goal

pub returns-then-self-ge-KEPT : goal.returns-then-self-ge-KEPT
returns-then-self-ge-KEPT c = λ input st still. byte_taken st c.args.byte c.if-byte-eq10.false (byte_dropped st.gathered c.args.byte c.if-self-ge-KEPT.true)

pub returns : goal.returns
returns c =
    let long : length c.args.self.now.line ≡ kept_length = search rules in
    λ input st still.
    byte_taken st c.args.byte c.if-byte-eq10.false (byte_kept st.gathered c.args.byte c.if-self-ge-KEPT.false (omega (arith, long, c.if-self-ge-KEPT.false)))
