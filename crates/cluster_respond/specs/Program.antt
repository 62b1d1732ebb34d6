-- Document 01, "The cluster program": from the bytes read to the bytes printed. Assumes nothing.
use Rattle.std.specs.Prelude.{ℕ, List, map, eqb, ℤ, cond}
use Rattle.feefrac.specs.Rate.{rate_at}
use Rattle.refusals.specs.Refusals.{answer_of}
use Rattle.chunking.specs.Chunks.{chunk_lengths}
use Rattle.linearize.specs.Linearize.{refusals, linear_order}
use Rattle.cluster_reader.specs.Reading.{Read, refused, cluster, read}
use Rattle.cluster_writer.specs.Writing.{refusal_text, success_text}

-- what is printed for a cluster that was read: its order and chunks, or its refusal. (A room is lent that is as long as the members are
-- many, as the list of sizes is.)
unfoldable pub cluster_text : List ℤ → List ℕ → List ℕ → List ℕ
cluster_text fs ss ps =
    cond (eqb (answer_of (refusals fs ss ps ss)) 0)
    (success_text fs ss (linear_order fs ss ps) (chunk_lengths (map (rate_at fs ss) (linear_order fs ss ps))))
    (refusal_text (answer_of (refusals fs ss ps ss)))

abbrev pub text_of : Read → List ℕ
text_of (refused k) = refusal_text k
text_of (cluster fs ss ps) = cluster_text fs ss ps

unfoldable pub response : List ℕ → List ℕ
response xs = text_of (read xs)
