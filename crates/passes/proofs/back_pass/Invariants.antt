use Rattle.feefrac.specs.Rate.{negated, rate_at}
use Rattle.passes.proofs.back_pass.Given as goal

-- the closure holds the fees and the sizes
abbrev pub ghost-one_pass : goal.ghost-one_pass
ghost-one_pass a t = negated (rate_at a.rate.0.now a.rate.1.now t)
