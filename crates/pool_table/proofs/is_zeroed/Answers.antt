use mathlib.Core.Path.{sym, ap, ◌∙◌}
use lib.Dec.{eqb}
use Rattle.lists.specs.Lists.{all_of}
use Rattle.pool_table.specs.Pool.{Slot}
use Rattle.pool_table.specs.Words.{slot_words}
use Rattle.pool_table.proofs.Rows.{slot_past, zeroed_free}
use Rattle.pool_table.proofs.is_zeroed.Goals as goal

pub returns-in_default : goal.returns-in_default
returns-in_default c = sym (ap (λ (x : Slot). all_of (eqb 0) (slot_words x)) (slot_past _ _ c.in_default.ensures) ∙ zeroed_free)
