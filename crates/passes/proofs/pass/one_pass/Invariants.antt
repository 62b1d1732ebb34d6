use Rattle.passes.proofs.pass.one_pass.Given as goal

abbrev pub ghost-in_array : goal.ghost-in_array
ghost-in_array g a = g.rates

abbrev pub ghost-in_array-2 : goal.ghost-in_array-2
ghost-in_array-2 g a = g.rates
