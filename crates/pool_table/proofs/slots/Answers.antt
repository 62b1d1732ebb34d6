use mathlib.Core.Path.{sym, ap, ◌∙◌}
use Prim.Native.Nat.{ℕ, ◌/◌}
use Rattle.pool_table.specs.Words.{slots_in}
use Rattle.pool_table.proofs.Rows.{slot_count_lem}
use Rattle.pool_table.proofs.slots.Goals as goal

pub returns : goal.returns
unfolding slots_in
returns c = ap (λ (n : ℕ). n / 39) c.saturating_sub.ensures ∙ sym (slot_count_lem c.args.table.now)
