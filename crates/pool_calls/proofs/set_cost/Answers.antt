use mathlib.Core.Path.{ap, ◌∙◌}
use Prim.Native.Nat.{ℕ}
use Rattle.txids.specs.Txids.{txid_at}
use Rattle.pool_table.specs.declared.Entry.{Entry}
use Rattle.pool_table.specs.Pool.{Pool}
use Rattle.pool_table.specs.Words.{pool_of}
use Rattle.pool_table.specs.Changes.{changed, with_entry, with_cost}
use Rattle.pool_rules.specs.Calls.{after_set_cost}
use Rattle.pool_rules.specs.Module8.{slot_of, cost_set}
use Rattle.pool_rules.proofs.Sound.{well_legal}
use Rattle.pool_rules.proofs.Tables.{becomes_as, becomes_table}
use Rattle.pool_calls.proofs.Forms.{named_well, named_slot, named_keeps, named_writes}
use Rattle.pool_calls.proofs.Leaving.{cost_put}
use Rattle.pool_calls.proofs.set_cost.Goals as goal

pub returns-in_err-slot-clause-table_after : goal.returns-in_err-slot-clause-table_after
unfolding after_set_cost
returns-in_err-slot-clause-table_after c = named_keeps _ _ _ _ c.in_err-slot.ensures

pub returns-clause-table_after : goal.returns-clause-table_after
unfolding after_set_cost
returns-clause-table_after c = let e = c.in_ok-slot.ensures in
    let t = c.args.table.now in
    let p = pool_of t in
    let s = c.in_ok-slot.slot in
    let cost = c.args.cost in
    named_writes _ _ _ e _ _
    (becomes_table {f = λ (q : Pool). cost_set q (slot_of p (txid_at c.args.txid 0)) cost} (well_legal t (named_well _ _ _ e))
    (becomes_as
    (ap (λ (e : Entry). changed s (with_entry (with_cost cost e)) p) c.at-entry.ensures ∙ cost_put s cost p
    ∙ ap (λ (s : ℕ). cost_set p s cost) (named_slot _ _ _ e))
    c.put_entry.ensures))
