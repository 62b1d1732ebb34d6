use mathlib.Core.Path.{◌≡◌, ap, ◌∙◌}
use Prim.Native.Nat.{ℕ, ◌-◌}
use native.Mathlib.Omega.{arith}
use Rattle.weights.specs.declared.RawWeight.{RawWeight}
use Rattle.pool_table.specs.Pool.{Pool, weight_at, free}
use Rattle.pool_table.specs.Words.{pool_of}
use Rattle.pool_table.specs.Changes.{changed, with_total}
use Rattle.pool_rules.specs.Module8.{removed}
use Rattle.pool_calls.specs.Steps.{unlinked_all}
use Rattle.pool_rules.proofs.Tables.{becomes_then, becomes_as, becomes_table}
use Rattle.pool_calls.proofs.Leaving.{taken_out}
use Rattle.pool_calls.proofs.take_out.Goals as goal

pub overflow_sub-left : goal.overflow_sub-left
overflow_sub-left c = omega (arith, c.requires.within, ap (λ (x : RawWeight). x.0) c.weight-weight.ensures, c.total.ensures)

pub returns : goal.returns
returns c = let args = c.args in
    let p = pool_of args.table.now in
    let rest : c.total.result - c.weight-weight.result.0 ≡ p.total - weight_at p args.slot =
    rw (c.total.ensures, ap (λ (x : RawWeight). x.0) c.weight-weight.ensures) in
    becomes_table {f = λ (q : Pool). removed q args.slot} c.requires.legal
    (becomes_as
    (ap (λ (n : ℕ). changed args.slot (λ x. free) (unlinked_all args.slot (with_total n p))) rest ∙ taken_out args.slot p)
    (becomes_then (becomes_then c.put_total.ensures c.unlink_all.ensures) c.free_slot.ensures))
