-- Every line of the table of specs/Cases.antt holds. Assumes nothing.
use mathlib.Core.Path.{◌≡◌, refl}
use mathlib.Core.Bool.{Bool, true, ◌&&◌}
use mathlib.Core.List.{Memᴰ}
use lib.Dec.{eqb}
use borrow.Author.Tests.{eqb-true}
use Rattle.feefrac.specs.Rate.{rate_at, sum, difference, negated, higher, rate_order, size_order, rank_order}
use Rattle.lists.specs.Below.{any_from, all_from, count_from, list_from}
use Rattle.lists.specs.Lists.{any_of, all_of, elem, same, highest_of}
use Rattle.txset.specs.Sets.{has, has_in, mem, set_at}
use Rattle.lists.proofs.Bools.{and_left, and_right}
use Rattle.lists.proofs.Lists.{each, same_is}
use Rattle.feeset.specs.Scan.{scan, best, ranks_above}
use Rattle.feeset.specs.Total.{total_from}
use Rattle.refusals.specs.Refusals.{answer_of, in_range, first_outside, any_outside}
use Rattle.ways.specs.Ways.{reach, is_cyclic}
use Rattle.depgraph.specs.Graph.{is_parent, is_ancestor}
use Rattle.chunking.specs.Chunks.{swallow, chunks_after, lengths_of, chunk_lengths, rates}
use Rattle.passes.specs.Pass.{depends_on, settle, groups_after, flat, one_pass, back_pass, forward_pass}
use Rattle.post_linearize.specs.PostLinearize.{post_linearize}
use Rattle.candidates.specs.Candidates.{given_back, ancestor_sum, remaining, candidate, remaining_ancestors, fewer_ancestors, append_ancestors, append_for, rounds, ancestor_order}
use Rattle.chunking.specs.Orders.{cut, chunks_of}
use Rattle.output_order.specs.Output.{chunk_rate, chunk_above, chunk_ready, member_ready, inside, put_out, next_chunk, chunks_out, output_order}
use Rattle.linearize.specs.Linearize.{refusals, linear_order}
use Rattle.linearize.specs.Cases.{Case, Says, cluster_chunks, orders, refuses, cuts, right, cases}

all_right : all_of right cases ≡ true
unfolding all_of cases right same answer_of refusals any_outside first_outside in_range is_cyclic is_ancestor reach is_parent mem has_in has set_at any_from all_from count_from list_from any_of elem highest_of linear_order ancestor_order rounds append_for append_ancestors fewer_ancestors remaining_ancestors candidate remaining ancestor_sum given_back scan best ranks_above total_from rate_at sum difference negated higher rate_order size_order rank_order post_linearize back_pass forward_pass one_pass flat groups_after settle depends_on output_order chunks_out next_chunk put_out inside member_ready chunk_ready chunk_above chunk_rate chunks_of cut chunk_lengths lengths_of chunks_after swallow rates
all_right = refl

-- the two parts of a test that holds
both : {a b : Bool} → (a && b) ≡ true → (a ≡ true) × (b ≡ true)
both {a} {b} e = (and_left a b e, and_right a b e)

says : (k : Case) → right k ≡ true → Says k
unfolding right
says (orders fs ss ps order chunks) e =
    let p : (eqb (answer_of (refusals fs ss ps ss)) 0 ≡ true) × ((same (linear_order fs ss ps) order && same (cluster_chunks fs ss ps) chunks) ≡ true) = both e in
    let q : (same (linear_order fs ss ps) order ≡ true) × (same (cluster_chunks fs ss ps) chunks ≡ true) = both p.1 in
    (eqb-true (answer_of (refusals fs ss ps ss)) 0 p.0, same_is (linear_order fs ss ps) order q.0, same_is (cluster_chunks fs ss ps) chunks q.1)
says (refuses fs ss ps n) e = eqb-true (answer_of (refusals fs ss ps ss)) n e
says (cuts fs ss chunks) e = same_is (chunk_lengths (rates fs ss)) chunks e

pub case_holds : (k : Case) → Memᴰ k cases → Says k
case_holds k m = says k (each right cases all_right m)
