use Prim.Native.Nat.{◌≤◌}
use mathlib.Core.Path.{◌∙◌}
use native.Mathlib.Omega.{arith}
use mir.Facts.{to_z-of_z}
use mir.Syntax.{w64}
use mir.Val.{SFits}
use borrow.Author.Rules.{rules}
use lib.ListN.{length}
use lib.Seq.{length-take-le}
use Rattle.pool_session.proofs.Steps.{put_back, delta_set}
use Rattle.pool_session.proofs.Memory.put_delta.Goals as goal

pub returns : goal.returns
returns c =
    let m = c.args.self.now in
    let fits : m.slots ≤ length m.deltas = omega (arith, c.requires.few, c.requires.deltas) in
    let whole : SFits w64 c.args.delta.sats = search rules in
    let put = c.put-put.ensures in
    let answer = c.answer.ensures ∙ rw (length-take-le m.slots m.deltas fits) at put.value in
    let w = c.write_number.ensures in
    λ k. delta_set m c.args.out.now k c.requires c.args.delta.slot c.args.delta.sats
    (put_back m.slots c.put-put.new.settings m.deltas fits c.put-put.auto.settings (rw (to_z-of_z whole) at put.settings_after))
    (rw answer at w.value, rw answer at w.out_after)
