use mathlib.Core.Path.{refl, sym, ◌∙◌}
use mathlib.Core.List.{[]}
use native.Mathlib.Omega.{arith}
use Rattle.pool_run.specs.Stops.{failed, closed, tired}
use Rattle.pool_run.proofs.Steps.{told}
use Rattle.pool_run.proofs.Stops.{one_turn, as_many, further}
use Rattle.pool_run.proofs.Desk.read_all.Goals as goal

pub loop-init : goal.loop-init
loop-init c = rw c.nothing-input.ensures (refl, record { input = []; many = refl; stands = c.requires })

pub read_chunk-requires : goal.read_chunk-requires
read_chunk-requires c = let behind = c.loop.invariant.1 in
    told behind.stands behind.many

-- a read failed
pub returns-in-Failed : goal.returns-in-Failed
returns-in-Failed c = failed (as_many c.loop.invariant.1 c.in-Failed.ensures)

-- the input has ended
pub finish-requires : goal.finish-requires
finish-requires c = let behind = c.loop.invariant.1 in
    told behind.stands (c.in-Ended.ensures ∙ behind.many)

pub take_in-requires : goal.take_in-requires
take_in-requires c = record { input = _; stands = c.loop.invariant.1.stands }

-- a write failed
pub returns-then-not-is_open : goal.returns-then-not-is_open
returns-then-not-is_open c = closed (sym c.is_open.ensures ∙ c.if-not-is_open.true)

pub loop-preserved : goal.loop-preserved
loop-preserved c =
    let gave = c.in-Bytes.ensures in
    let still = sym c.is_open.ensures ∙ c.if-not-is_open.false in (
      one_turn c.loop.counter c.loop.input.reads c.loop.invariant.0 c.loop-test.true gave.2,
      further c.loop.invariant.1 _ c.take_in.ensures still c.last-n.ensures (omega (arith, c.last-n.ensures, gave.1)) gave.3,
    )

pub returns : goal.returns
returns c = tired (omega (arith, c.loop.invariant.0, c.loop-test.false)) c.loop.invariant.1
