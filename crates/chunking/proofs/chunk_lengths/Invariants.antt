use Rattle.chunking.specs.Chunks.{rates}
use Rattle.chunking.proofs.chunk_lengths.Given as goal

-- the closure holds the fees and the sizes
abbrev pub ghost-write_chunks : goal.ghost-write_chunks
ghost-write_chunks a = rates a.rate.0.now a.rate.1.now
