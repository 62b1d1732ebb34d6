use mathlib.Core.Path.{◌≡◌}
use lib.ListN.{length}
use Rattle.lists.specs.Below.{count_from}
use Rattle.txset.specs.Sets.{mem, has_in, positions}
use Rattle.slotsets.specs.SlotSets.{capacity, set_words}
use Rattle.pool_members.specs.Steps.{Within}
use Rattle.pool_members.proofs.Ranks.{Ranking}
use Rattle.pool_members.proofs.parents.parents_at.Given as goal

abbrev pub invariant-loop-a : goal.invariant-loop-a
invariant-loop-a l = (length l.left ≡ set_words) × Within l.left l.places × Ranking positions l.places l.initial.left l.left (mem l.set)

abbrev pub decreases-loop-a : goal.decreases-loop-a
decreases-loop-a l = count_from (has_in l.left) capacity 0
