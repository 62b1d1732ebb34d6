use mathlib.Core.Path.{◌≡◌, sym, ap, ap₂, ◌∙◌}
use Rattle.feefrac.specs.Rate.{rank_order, is_greater, rate_at}
use Rattle.txset.proofs.Walk.{Turn}
use Rattle.feeset.specs.Scan.{ranks_above}
use Rattle.output_order.specs.Rounds.{freed}
use Rattle.output_order.proofs.Choices.{found_stop, found_skip, found_first, found_yields, found_keeps, best_alone}
use Rattle.output_order.proofs.Ready.{freed_is, freed_alone}
use Rattle.output_order.proofs.Cluster.next_member.Goals as goal
use Rattle.output_order.proofs.Cluster.next_member.Goals.{After-is_gt, After-is_subset}

-- one that is left alone
pub returns-then-is_empty : goal.returns-then-is_empty
returns-then-is_empty c =
    let w : Turn c.args.left c.without_lowest-others.result c.lowest.result =
    record { left = c.requires.0; first = c.lowest.ensures; next = c.without_lowest-others.ensures } in
    let none = sym c.is_empty.ensures ∙ c.if-is_empty.true in
    best_alone _ _ w none (freed_alone c.requires.1 w none)

-- the subset test says whether the one taken is ready
tested : (c : After-is_subset) → freed c.args.self.now.ancestors.now c.args.self.now.all c.args.done c.in-Some.t ≡ c.is_subset.result
tested c = sym (c.is_subset.ensures ∙ freed_is _ _ _ _ _ c.others.ensures)

pub loop-t-preserved-then-not-is_subset : goal.loop-t-preserved-then-not-is_subset
loop-t-preserved-then-not-is_subset c = let at = goal.at.loop-t-preserved-then-not-is_subset c in
    found_skip c.loop-t.invariant _ c.in-Some.ensures.steps (tested at.After-is_subset ∙ c.if-not-is_subset.true)

pub loop-t-preserved-in_default : goal.loop-t-preserved-in_default
loop-t-preserved-in_default c = let at = goal.at.loop-t-preserved-in_default c in
    found_first c.loop-t.invariant _ c.in-Some.ensures.steps (tested at.After-is_subset ∙ c.if-not-is_subset.false) c.in_default.is

-- the one taken ranks above what is found exactly if the test says so
ranked : (c : After-is_gt)
    → ranks_above (rate_at c.args.self.now.fees.now c.args.self.now.sizes.now) c.in-Some.t c.in-Some-found.best ≡ c.is_gt.result
unfolding ranks_above
ranked c = sym (c.is_gt.ensures ∙ ap is_greater (c.rank-by_rank.ensures ∙ ap₂ rank_order c.rate.ensures c.rate-in-loop-t.ensures))

pub loop-t-preserved-then-is_gt : goal.loop-t-preserved-then-is_gt
loop-t-preserved-then-is_gt c = let at = goal.at.loop-t-preserved-then-is_gt c in
    found_yields c.loop-t.invariant _ c.in-Some.ensures.steps (tested at.After-is_subset ∙ c.if-not-is_subset.false)
    c.in-Some-found.is (ranked at.After-is_gt ∙ c.if-is_gt.true)

pub loop-t-preserved : goal.loop-t-preserved
loop-t-preserved c = let at = goal.at.loop-t-preserved c in
    found_keeps c.loop-t.invariant _ c.in-Some.ensures.steps (tested at.After-is_subset ∙ c.if-not-is_subset.false)
    c.in-Some-found.is (ranked at.After-is_gt ∙ c.if-is_gt.false)

pub returns : goal.returns
returns c = found_stop c.loop-t.invariant c.in-None.ensures.steps.0
