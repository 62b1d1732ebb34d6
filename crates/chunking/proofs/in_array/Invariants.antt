use Rattle.chunking.proofs.in_array.Given as goal

abbrev pub ghost-stack_chunks : goal.ghost-stack_chunks
ghost-stack_chunks g a = g.rs
