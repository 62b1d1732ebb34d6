use mathlib.Core.Path.{sym, ap, ◌∙◌}
use mathlib.Core.Bool.{Bool, cond}
use Rattle.lists.proofs.Bools.{clash}
use Rattle.txset.specs.Sets.{has_in}
use Rattle.pool_table.specs.Words.{pool_of}
use Rattle.pool_table.specs.Links.{in_clusters}
use Rattle.pool_clusters.specs.Clusters.{union_of, no_union, clusters_of}
use Rattle.pool_table.proofs.Legal.{few_slots}
use Rattle.pool_clusters.proofs.Gathering.{never_more}
use Rattle.pool_clusters.proofs.clusters_of.Goals as goal

pub returns-then-not-is_legal : goal.returns-then-not-is_legal
unfolding clusters_of
returns-then-not-is_legal c = let args = c.args in
    let p = pool_of args.table.now in
    ap (λ (b : Bool). cond b (union_of p (in_clusters p (has_in args.seeds.now))) no_union) (sym (sym c.is_legal.ensures ∙ c.if-not-is_legal.true))

pub unreachable-requires : goal.unreachable-requires
unreachable-requires c =
    clash
    (never_more (pool_of c.args.table.now) _ (few_slots c.args.table.now (sym c.is_legal.ensures ∙ c.if-not-is_legal.false)))
    (rw c.of.ensures at c.in_default.ensures)

pub returns : goal.returns
unfolding clusters_of
returns c = let args = c.args in
    let p = pool_of args.table.now in
    let f = in_clusters p (has_in args.seeds.now) in
    (rw c.of.ensures at c.in-Some.ensures.union)
    ∙ ap (λ (b : Bool). cond b (union_of p f) no_union) (sym (sym c.is_legal.ensures ∙ c.if-not-is_legal.false))
