use mathlib.Core.Path.{◌≡◌}
use Prim.Native.Nat.{◌+◌, ◌-◌}
use native.Mathlib.Omega.{arith}
use Rattle.passes.specs.Moves.{brought}
use Rattle.passes.proofs.pass.rotate.Goals as goal

pub returns : goal.returns
unfolding brought
returns c =
    let args = c.args in
    let part = args.ahead + args.len in
    let e : args.from + part - args.from ≡ part = omega arith in
    rw (c.turn.ensures, e)
