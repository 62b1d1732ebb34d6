use Rattle.passes.proofs.pass.in_array.Given as goal

abbrev pub ghost-settle_all : goal.ghost-settle_all
ghost-settle_all g a = g.rates
