use Prim.Native.Nat.{ℕ}
use mathlib.Core.Path.{◌≡◌, ap, ◌∙◌}
use native.Mathlib.Omega.{arith}
use Rattle.passes.specs.Moves.{brought}
use Rattle.passes.proofs.Parts.{brought_none}
use Rattle.passes.proofs.pass.Way.bring.Goals as goal

pub returns-else-self-gt0 : goal.returns-else-self-gt0
returns-else-self-gt0 c =
    let args = c.args in
    let none : 0 ≡ args.self.ahead = omega (arith, c.if-self-gt0.false) in
    brought_none args.self.from args.len args.order.now ∙ ap (λ (n : ℕ). brought args.order.now args.self.from n args.len) none
