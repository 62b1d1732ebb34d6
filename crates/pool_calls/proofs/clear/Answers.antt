use mathlib.Core.Path.{sym, ap, ◌∙◌}
use Rattle.pool_table.specs.declared.Limits.{Limits}
use Rattle.pool_table.specs.Pool.{slot_count}
use Rattle.pool_table.specs.Words.{pool_of, table_of}
use Rattle.pool_table.specs.Changes.{made}
use Rattle.pool_rules.specs.Module8.{cleared}
use Rattle.pool_rules.proofs.Sound.{well_legal}
use Rattle.pool_rules.proofs.Tables.{becomes_table}
use Rattle.pool_calls.proofs.Forms.{clear_refused, clear_done}
use Rattle.pool_calls.proofs.clear.Goals as goal

pub returns-then-not-is_well_formed : goal.returns-then-not-is_well_formed
returns-then-not-is_well_formed c = let r = clear_refused _ (sym c.is_well_formed.ensures ∙ c.if-not-is_well_formed.true) in
    record { value = r.0; table_after = r.1 }

pub returns : goal.returns
unfolding cleared
returns c = let t = c.args.table.now in
    let e = sym c.is_well_formed.ensures ∙ c.if-not-is_well_formed.false in
    let r = clear_done t _ e
    (becomes_table (well_legal t e) c.make_empty.ensures
    ∙ ap (λ (l : Limits). table_of (made l (slot_count (pool_of t)))) c.of-limits.ensures) in
    record { value = r.0; table_after = r.1 }
