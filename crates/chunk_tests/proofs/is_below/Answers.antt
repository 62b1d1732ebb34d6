-- `is_below`: nothing is below 0; below any other minimum a negative fee is, and a fee that is not is compared by products. Assumes nothing.
use Prim.Native.Nat.{ℕ, ◌*◌}
use mathlib.Core.Path.{ap, ap₂, ◌∙◌}
use lib.Dec.{ltb}
use lib.IntN.{ℤ, nat_abs}
use mir.Syntax.{w64}
use mir.Val.{SFits}
use mir.Facts.{to_z-of_z}
use borrow.Author.Rules.{rules}
use Rattle.feefrac.proofs.Signed.{less, not_less, zero_fits, cast}
use Rattle.chunk_tests.proofs.Limits.{none_below, negative_below, fee_below}
use Rattle.chunk_tests.proofs.is_below.Goals as goal

pub returns-then-minimum-eq0 : goal.returns-then-minimum-eq0
returns-then-minimum-eq0 c = none_below _ c.args.rate c.if-minimum-eq0.true

pub returns-then-rate-lt0 : goal.returns-then-rate-lt0
returns-then-rate-lt0 c = let r = c.args.rate in
    let f : SFits w64 r.fee = search rules in
    negative_below _ r c.if-minimum-eq0.false (less f zero_fits c.if-rate-lt0.true)

pub overflow_cast-rate : goal.overflow_cast-rate
overflow_cast-rate c = let f : SFits w64 c.args.rate.fee = search rules in
    cast f (not_less f zero_fits c.if-rate-lt0.false)

pub returns : goal.returns
returns c = let r = c.args.rate in
    let f : SFits w64 r.fee = search rules in
    c.is_below.ensures
    ∙ ap₂ ltb
    (c.mul_wide-paid.ensures ∙ ap (λ (z : ℤ). nat_abs z * 1000) (to_z-of_z f))
    (c.mul_wide.ensures ∙ ap (λ (n : ℕ). c.args.minimum * n) c.virtual_size-size.ensures)
    ∙ fee_below c.args.minimum r c.if-minimum-eq0.false (not_less f zero_fits c.if-rate-lt0.false)
