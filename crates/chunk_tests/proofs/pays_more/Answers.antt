-- `pays_more`: by the rates, and where neither is higher by the fees. Assumes nothing.
use mathlib.Core.Path.{sym, ap₂, ◌∙◌}
use mathlib.Core.Bool.{Bool, not, ◌&&◌, ◌||◌}
use lib.Signed.{lt_z}
use mir.Syntax.{w64}
use mir.Val.{SFits}
use mir.Facts.{to_z-of_z}
use borrow.Author.Rules.{rules}
use Rattle.chunk_tests.proofs.Pays.{pays_asked}
use Rattle.chunk_tests.proofs.pays_more.Goals as goal

pub returns : goal.returns
returns c = let a = c.args.a in
    let b = c.args.b in
    let fa : SFits w64 a.fee = search rules in
    let fb : SFits w64 b.fee = search rules in
    rw (to_z-of_z fa, to_z-of_z fb)
    (ap₂ (λ (x y : Bool). x || (not y && lt_z b.fee a.fee)) c.higher_rate-above.ensures c.higher_rate-below.ensures
    ∙ sym (pays_asked a b))
