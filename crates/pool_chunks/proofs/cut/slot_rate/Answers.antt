use mathlib.Core.Path.{ap, ap₂, ◌∙◌}
use Prim.Native.Nat.{ℕ, ◌≤◌}
use lib.IntN.{ℤ, ◌+ℤ◌}
use lib.ListN.{get_or}
use lib.IntN.{pos}
use borrow.Author.Rules.{rules}
use Rattle.feefrac.specs.declared.FeeFrac.{FeeFrac}
use Rattle.weights.specs.declared.AdjustedWeight.{AdjustedWeight}
use Rattle.weights.specs.Weights.{adjusted}
use Rattle.pool_table.specs.declared.Entry.{Entry}
use Rattle.pool_table.specs.declared.Limits.{Limits}
use Rattle.pool_chunks.specs.Chunks.{fee_of, size_of}
use Rattle.pool_chunks.proofs.InRange.{fee_small, fee_fits, code_fits, code_fee}
use Rattle.pool_chunks.proofs.cut.slot_rate.Goals as goal
use Rattle.pool_chunks.proofs.cut.slot_rate.Goals.{After-at-entry}

abbrev rate : ℤ → ℕ → FeeFrac
rate f s = record { fee = f; size = s }

-- the fee that was read
read : (a : After-at-entry) → a.at-entry.result.fee ≤ 2100000000000000
read a = rw a.at-entry.ensures (fee_small _ a.requires.entry)

pub overflow_cast-fee : goal.overflow_cast-fee
overflow_cast-fee c = fee_fits c.at-entry.result.fee _ (read (goal.at.overflow_cast-fee c).After-at-entry) c.requires.delta

pub overflow_add-fee : goal.overflow_add-fee
overflow_add-fee c =
    code_fits c.at-entry.result.fee _ (read (goal.at.overflow_add-fee c).After-at-entry) c.requires.delta (search rules)

pub returns : goal.returns
unfolding fee_of size_of
returns c = let at = c.at-entry in
    ap₂ rate
    (code_fee at.result.fee _ (read (goal.at.returns c).After-at-entry) c.requires.delta (search rules)
    ∙ ap (λ (e : Entry). pos e.fee +ℤ get_or c.args.deltas.now c.args.s (pos 0)) at.ensures)
    (ap (λ (x : AdjustedWeight). x.0) c.sigops_adjusted_weight-size.ensures
    ∙ ap₂ (λ (e : Entry) (l : Limits). (adjusted e.weight e.cost l.bytes_per_sigop).0) at.ensures c.of-limits.ensures)
