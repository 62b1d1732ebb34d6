use Rattle.run_cluster_texts.proofs.case.Goals as goal

pub slice_bounds-text-end : goal.slice_bounds-text-end
slice_bounds-text-end c = c.in-Some.ensures
