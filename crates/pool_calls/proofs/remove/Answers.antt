use mathlib.Core.Path.{ap, ◌∙◌}
use Prim.Native.Nat.{ℕ}
use Rattle.pool_table.specs.Words.{pool_of, table_of}
use Rattle.pool_rules.specs.Calls.{after_remove}
use Rattle.pool_rules.specs.Module8.{removed}
use Rattle.pool_calls.proofs.Forms.{takable, named_well, named_slot, named_below, named_keeps, named_writes}
use Rattle.pool_calls.proofs.remove.Goals as goal

pub returns-in_err-slot-clause-table_after : goal.returns-in_err-slot-clause-table_after
unfolding after_remove
returns-in_err-slot-clause-table_after c = named_keeps _ _ _ _ c.in_err-slot.ensures

pub take_out-requires : goal.take_out-requires
take_out-requires c = let e = c.in_ok-slot.ensures in
    takable _ _ (named_well _ _ _ e) (named_below _ _ _ e)

pub returns-clause-table_after : goal.returns-clause-table_after
unfolding after_remove
returns-clause-table_after c = let e = c.in_ok-slot.ensures in
    named_writes _ _ _ e _ _ (c.take_out.ensures ∙ ap (λ (s : ℕ). table_of (removed (pool_of c.args.table.now) s)) (named_slot _ _ _ e))
