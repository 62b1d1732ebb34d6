use Prim.Native.Nat.{◌≤◌}
use mathlib.Core.Path.{◌∙◌}
use native.Mathlib.Omega.{arith}
use lib.ListN.{length}
use lib.Seq.{length-take-le}
use Rattle.pool_session.specs.Session.{mark_of}
use Rattle.pool_session.proofs.Steps.{put_back, mark_set}
use Rattle.pool_session.proofs.Memory.put_mark.Goals as goal

pub returns : goal.returns
unfolding mark_of
returns c =
    let m = c.args.self.now in
    let fits : m.slots ≤ length m.marks = omega (arith, c.requires.few, c.requires.marks) in
    let put = c.put-put.ensures in
    let answer = c.answer.ensures ∙ rw (length-take-le m.slots m.marks fits) at put.value in
    let w = c.write_number.ensures in
    λ k. mark_set m c.args.out.now k c.requires c.args.marking.slot c.args.marking.mark
    (put_back m.slots c.put-put.new.settings m.marks fits c.put-put.auto.settings (rw c.from-mark.ensures at put.settings_after))
    (rw answer at w.value, rw answer at w.out_after)
