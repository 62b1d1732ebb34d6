use mathlib.Core.Path.{refl}
use native.Mathlib.Omega.{arith}
use borrow.Author.Rules.{rules}
use Rattle.texts.proofs.Append.{start}
use Rattle.cluster_writer.proofs.Texts.{chunk_wrote, chunks_done}
use Rattle.cluster_writer.proofs.chunk_lines.Goals as goal

pub loop-len-init : goal.loop-len-init
loop-len-init c = record { passed = search rules; within = search rules; long = refl; left = start }

pub loop-len-preserved : goal.loop-len-preserved
loop-len-preserved c =
    chunk_wrote c.loop-len.invariant c.loop-len-test.true (omega (arith, c.min-end.ensures, c.saturating_add.ensures)) c.list_feerate-rate.ensures c.one_chunk-at.auto.out c.one_chunk-at.ensures

pub shape_of-out : goal.shape_of-out
shape_of-out c = c.loop-len.invariant.long

pub returns : goal.returns
returns c = chunks_done c.loop-len.invariant c.loop-len-test.false
