-- The walk over all slots: each is free, seen, alone, or has a cluster that is held against the limits. Assumes nothing.
use mathlib.Core.Path.{◌≡◌, sym, ap₂, ◌∙◌}
use mathlib.Core.Bool.{Bool, true, false, ◌&&◌}
use native.Mathlib.Omega.{arith}
use lib.ListN.{length}
use borrow.Author.Rules.{rules}
use Rattle.txset.proofs.Words.{has_in_zeros}
use Rattle.pool_table.specs.Words.{is_legal, pool_of}
use Rattle.pool_table.specs.Ranges.{limits_in_range}
use Rattle.pool_table.specs.Links.{in_cluster}
use Rattle.pool_table.specs.WellFormed.{is_within, clusters_within}
use Rattle.pool_clusters.proofs.Limits.{lone_within, walk_start, walk_within, walk_turn, walk_done, walk_fails}
use Rattle.pool_clusters.proofs.clusters_stand.Goals as goal
use Rattle.pool_clusters.proofs.clusters_stand.Goals.{After-alone_within, In-Some}

-- before the walk: a legal length, and limits in their ranges. So the answer is that of the clusters
answer : (b : In-Some) (x : Bool) → let p = pool_of b.args.table.now in clusters_within p ≡ x
    → x ≡ (is_legal (length b.args.table.now) && (limits_in_range p.limits && clusters_within p))
answer b x e = sym (ap₂ ◌&&◌ b.in-Some.ensures.legal (ap₂ ◌&&◌ b.in-Some.ensures.ranged e))

pub loop-a-init : goal.loop-a-init
loop-a-init c = walk_start _ _ (search rules) (has_in_zeros 16)

-- a slot alone is within the limits by its own weight
alone : (c : After-alone_within) → let p = pool_of c.args.table.now in is_within p (in_cluster p c.loop-a.a) ≡ c.alone_within.result
alone c =
    lone_within (pool_of c.args.table.now) c.loop-a.a (omega arith) (sym c.is_linked.ensures ∙ c.if-not-is_linked.true) c.in-Some.ensures.ranged
    ∙ sym c.alone_within.ensures

pub returns-then-not-alone_within : goal.returns-then-not-alone_within
returns-then-not-alone_within c =
    let at = goal.at.returns-then-not-alone_within c in
    answer at.In-Some false
    (walk_fails (pool_of c.args.table.now) c.loop-a.a (omega arith) (sym c.is_occupied.ensures ∙ c.if-not-is_occupied.false)
    (alone at.After-alone_within ∙ c.if-not-alone_within.true))

pub loop-a-preserved-then-not-is_linked : goal.loop-a-preserved-then-not-is_linked
loop-a-preserved-then-not-is_linked c =
    walk_within c.loop-a.invariant (omega arith)
    (alone (goal.at.loop-a-preserved-then-not-is_linked c).After-alone_within ∙ c.if-not-alone_within.false)

pub returns-in_default-limited_cluster : goal.returns-in_default-limited_cluster
returns-in_default-limited_cluster c =
    answer (goal.at.returns-in_default-limited_cluster c).In-Some false
    (walk_fails (pool_of c.args.table.now) c.loop-a.a (omega arith) (sym c.is_occupied.ensures ∙ c.if-not-is_occupied.false)
    (rw c.of-pool.ensures at c.in_default-limited_cluster.ensures))

pub loop-a-preserved : goal.loop-a-preserved
loop-a-preserved c =
    walk_turn c.loop-a.invariant (omega arith) (rw c.of-pool.ensures at c.in-Some-limited_cluster.ensures) c.join.new.set c.join.ensures.set_len_unchanged c.join.ensures.by_index

pub returns : goal.returns
returns c = answer (goal.at.returns c).In-Some true (walk_done c.loop-a.invariant (omega arith))
