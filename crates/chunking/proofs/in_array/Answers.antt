use native.Mathlib.Omega.{arith}
use lib.Seq.{length-take-le}
use Rattle.chunking.proofs.Laws.{stacked_lengths, stacked_count}
use Rattle.chunking.proofs.in_array.Goals as goal

pub whole_as_slice-stack_chunks : goal.whole_as_slice-stack_chunks
whole_as_slice-stack_chunks g c = omega (arith, c.requires.1.1.1.1)

pub shared_whole_as_front-put_lengths : goal.shared_whole_as_front-put_lengths
shared_whole_as_front-put_lengths g c =
    (omega (arith, c.stack_chunks-count.ensures.wide, c.stack_chunks-count.auto.stack), omega (arith, c.requires.1.1.1.1))

pub put_lengths-requires : goal.put_lengths-requires
put_lengths-requires g c =
    let done = c.stack_chunks-count.ensures in
    let all = c.requires.1.1.0 in
    omega (arith, length-take-le _ _ done.wide, done.few, all.many, c.requires.1.1.1.0)

pub returns : goal.returns
returns g c =
    let done = c.stack_chunks-count.ensures in
    let lens = stacked_lengths done in record {
      value = stacked_count done;
      room_after = rw (lens, length-take-le _ _ done.wide) at c.put_lengths.ensures;
    }
