use mathlib.Core.Path.{sym, ap, ◌∙◌}
use native.Mathlib.Omega.{arith}
use lib.ListN.{length}
use Rattle.slotsets.proofs.SlotSets.{set_long}
use Rattle.pool_rules.proofs.Listed.{listed_start, listed_turn, listed_done}
use Rattle.pool_rules.proofs.listed_slots.Goals as goal

pub loop-j-init : goal.loop-j-init
loop-j-init c = listed_start _ _ _

pub slice_bounds-enter-end : goal.slice_bounds-enter-end
slice_bounds-enter-end c = sym (ap length c.loop-j.invariant ∙ set_long _)

pub enter-requires : goal.enter-requires
enter-requires c = ap length c.loop-j.invariant ∙ set_long _

pub loop-j-preserved : goal.loop-j-preserved
loop-j-preserved c =
    listed_turn _ _ _ c.loop-j.j _ _ _ c.loop-j.invariant c.at.ensures c.enter.ensures

pub returns : goal.returns
returns c = listed_done _ _ _ c.loop-j.j _ (omega arith) c.loop-j.invariant
