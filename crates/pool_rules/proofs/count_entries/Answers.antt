use mathlib.Core.Path.{◌≡◌, sym, ap, ◌∙◌}
use Prim.Native.Nat.{ℕ}
use native.Mathlib.Omega.{arith}
use borrow.Author.Rules.{rules}
use Rattle.lists.specs.Below.{bit, count_from}
use Rattle.lists.proofs.Ranges.{count_le}
use Rattle.pool_table.specs.Pool.{slot_count, occupied, entries}
use Rattle.pool_table.specs.Words.{pool_of}
use Rattle.pool_rules.proofs.Finds.{count_more}
use Rattle.pool_rules.proofs.count_entries.Goals as goal
use Rattle.pool_rules.proofs.count_entries.Goals.{then-is_occupied, else-is_occupied}

pub loop-s-init : goal.loop-s-init
unfolding count_from
loop-s-init c = search rules

pub overflow_add-count : goal.overflow_add-count
overflow_add-count c =
    omega (arith, count_le (occupied (pool_of c.args.table.now)) c.loop-s.s 0)

pub loop-s-preserved : goal.loop-s-preserved
loop-s-preserved c =
    let f = occupied (pool_of c.args.table.now) in
    let s = c.loop-s.s in
    elim c.if-is_occupied.branch [
      | then-is_occupied w ↦ omega (arith, count_more f s, ap bit (sym c.is_occupied.ensures ∙ w.if-is_occupied.true))
      | else-is_occupied w ↦ omega (arith, count_more f s, ap bit (sym c.is_occupied.ensures ∙ w.if-is_occupied.false))
    ]

pub returns : goal.returns
unfolding entries
returns c = let p = pool_of c.args.table.now in
    let e : c.loop-s.s ≡ slot_count p = omega arith in
    c.loop-s.invariant ∙ ap (λ (k : ℕ). count_from (occupied p) k 0) e
