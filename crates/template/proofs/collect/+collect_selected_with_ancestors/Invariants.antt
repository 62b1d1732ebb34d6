-- The measure of the recursion is the slot's ancestor count. Assumes nothing.
use mathlib.Core.Path.{◌≡◌}
use lib.ListN.{length, take}
use Rattle.txset.specs.Sets.{members}
use Rattle.pool_table.specs.Words.{pool_of}
use Rattle.template_rules.proofs.Ancestors.{ancestors}
use Rattle.template.proofs.Collecting.{Climbing}
use Rattle.template.proofs.collect.+collect_selected_with_ancestors.Given as goal

abbrev pub decreases-collect_selected_with_ancestors : goal.decreases-collect_selected_with_ancestors
decreases-collect_selected_with_ancestors l = ancestors (pool_of l.table.now) l.s

abbrev pub invariant-loop-j : goal.invariant-loop-j
invariant-loop-j l =
    Climbing (pool_of l.table) l.members l.firsts l.ups l.s (take l.n l.initial.picked) (members l.j-iterator.rest) l.taken l.picked l.end
    × (length l.picked ≡ length l.initial.picked)
