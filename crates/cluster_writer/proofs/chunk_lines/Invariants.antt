use Rattle.cluster_writer.proofs.Texts.{ChunksLeft}
use Rattle.cluster_writer.proofs.chunk_lines.Given as goal

abbrev pub invariant-loop-len : goal.invariant-loop-len
invariant-loop-len l = ChunksLeft l.fees l.sizes l.lens l.order l.len-index l.start l.at l.from l.out l.initial.out
