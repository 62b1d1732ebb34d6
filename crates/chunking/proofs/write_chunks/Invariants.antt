use Rattle.chunking.proofs.write_chunks.Given as goal

abbrev pub ghost-in_array : goal.ghost-in_array
ghost-in_array g a = g.rs

abbrev pub ghost-in_array-2 : goal.ghost-in_array-2
ghost-in_array-2 g a = g.rs
