use mathlib.Core.Path.{refl}
use Rattle.passes.proofs.Parts.{rotated}
use Rattle.passes.proofs.pass.turn.Goals as goal

pub returns : goal.returns
returns c = rotated c.args.list.now _ _ _ c.args.ahead _ c.requires c.reverse.ensures.after refl c.reverse-2.ensures.after c.reverse-3.ensures.after
