use mathlib.Core.Path.{◌≡◌, sym, ap, subst, ◌∙◌}
use mathlib.Core.Bool.{true, false, and-false}
use Prim.Native.Nat.{ℕ}
use native.Mathlib.Omega.{arith}
use lib.Dec.{eqb}
use lib.ListN.{length}
use Rattle.weights.specs.declared.RawWeight.{RawWeight}
use Rattle.pool_scan.specs.Rows.{row_stands}
use Rattle.pool_table.specs.Pool.{slot_count}
use Rattle.pool_table.specs.Words.{is_legal, pool_of}
use Rattle.pool_table.proofs.Legal.{few_slots}
use Rattle.pool_scan.proofs.Scan.{Scanned, scan_start, scan_turn, scan_bad, scan_done, weight_small}
use Rattle.pool_scan.proofs.rows_stand.Goals as goal

pub loop-s-init : goal.loop-s-init
loop-s-init c = scan_start _

pub returns-then-not-row_stands : goal.returns-then-not-row_stands
returns-then-not-row_stands c =
    let table = c.args.table.now in
    let bad : row_stands (pool_of table) c.loop-s.s ≡ false =
    sym c.row_stands.ensures ∙ c.if-not-row_stands.true in
    rw (scan_bad (pool_of table) c.loop-s.s (omega arith) bad) (sym (and-false (is_legal (length table))))

pub overflow_add-sum : goal.overflow_add-sum
overflow_add-sum c =
    let table = c.args.table.now in
    let s = c.loop-s.s in
    let stands : row_stands (pool_of table) s ≡ true =
    sym c.row_stands.ensures ∙ c.if-not-row_stands.false in
    omega (
      arith,
      c.loop-s.invariant.small,
      weight_small (pool_of table) s stands,
      ap (λ (w : RawWeight). w.0) c.weight-sum.ensures,
      few_slots table (sym c.is_legal.ensures ∙ c.if-not-is_legal.false),
    )

pub loop-s-preserved : goal.loop-s-preserved
loop-s-preserved c =
    scan_turn c.loop-s.invariant
    (sym c.row_stands.ensures ∙ c.if-not-row_stands.false)
    (ap (λ (w : RawWeight). w.0) c.weight-sum.ensures)

pub returns : goal.returns
returns c =
    let p = pool_of c.args.table.now in
    let n : c.loop-s.s ≡ slot_count p = omega arith in
    let legal : is_legal (length c.args.table.now) ≡ true =
    sym c.is_legal.ensures ∙ c.if-not-is_legal.false in
    rw (legal, scan_done p c.loop-s.sum (subst (λ (k : ℕ). Scanned p k c.loop-s.sum) n c.loop-s.invariant))
    (ap (λ (t : ℕ). eqb c.loop-s.sum t) c.total.ensures)
