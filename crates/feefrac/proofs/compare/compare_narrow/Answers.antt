use mathlib.Core.Path.{sym, ◌∙◌}
use Rattle.feefrac.proofs.Order.{rate_above, rate_below, rate_same, narrow_fits, narrow_higher}
use Rattle.feefrac.proofs.compare.compare_narrow.Goals as goal

pub overflow_mul-x : goal.overflow_mul-x
overflow_mul-x c = let s = c.before.before.before in narrow_fits s.requires.narrow s.requires.narrow_2

pub overflow_mul-y : goal.overflow_mul-y
overflow_mul-y c = let s = c.before.before.before.before.before.before in narrow_fits s.requires.narrow_2 s.requires.narrow

pub returns-then-y-x : goal.returns-then-y-x
returns-then-y-x c = let s = c.before.before.before.before.before.before.before in
    sym (rate_above s.args.a s.args.b (narrow_higher s.requires.narrow s.requires.narrow_2 ∙ c.if-y-x.true))

pub returns-then-x-y : goal.returns-then-x-y
returns-then-x-y c = let s = c.before.before.before.before.before.before.before.before in
    sym (rate_below s.args.a s.args.b (narrow_higher s.requires.narrow s.requires.narrow_2 ∙ c.if-y-x.false) (narrow_higher s.requires.narrow_2 s.requires.narrow ∙ c.if-x-y.true))

pub returns : goal.returns
returns c = let s = c.before.before.before.before.before.before.before.before in
    sym (rate_same s.args.a s.args.b (narrow_higher s.requires.narrow s.requires.narrow_2 ∙ c.if-y-x.false) (narrow_higher s.requires.narrow_2 s.requires.narrow ∙ c.if-x-y.false))
