use mathlib.Core.Path.{ap, ◌∙◌}
use native.Mathlib.Omega.{arith}
use mathlib.Core.List.{reverse}
use borrow.Author.Rules.{rules}
use borrow.Author.Tests.{le-leb, lt-leb}
use Rattle.txset.specs.Sets.{positions}
use Rattle.passes.specs.Pass.{one_pass, back_pass}
use Rattle.passes.proofs.back_pass.Goals as goal

pub returns-then-order-gt-POSITIONS : goal.returns-then-order-gt-POSITIONS
returns-then-order-gt-POSITIONS c = rw (lt-leb _ positions c.if-order-gt-POSITIONS.true)

pub one_pass-requires : goal.one_pass-requires
one_pass-requires c =
    λ k h.
    (search rules, (record { may = λ t. tt; each = λ t r e. search rules }, omega (arith, c.reverse.ensures.len, c.if-order-gt-POSITIONS.false)))

pub returns : goal.returns
unfolding back_pass
returns c =
    rw (le-leb _ positions c.if-order-gt-POSITIONS.false)
    (c.reverse-2.ensures.after ∙ ap reverse (c.one_pass.ensures ∙ ap (one_pass _ _) c.reverse.ensures.after))
