use mathlib.Core.Path.{sym, refl}
use native.Mathlib.Omega.{arith}
use Rattle.lists.proofs.Found.{below_some, below_none}
use Rattle.texts.proofs.HexText.{not_64, none_read, bad_high, bad_low, byte_read, all_read}
use Rattle.texts.proofs.hex.read_hex.Goals as goal

pub returns-then-text-ne64 : goal.returns-then-text-ne64
returns-then-text-ne64 c = rw (not_64 _ c.if-text-ne64.true)

pub loop-i-init : goal.loop-i-init
loop-i-init c = none_read _ _ c.if-text-ne64.false refl

pub returns-in_err-high : goal.returns-in_err-high
returns-in_err-high c =
    let bad = bad_high c.loop-i.invariant c.loop-i-test.true (below_none 16 _ (sym c.in_err-high.ensures)) in
    rw (c.from_residual.ensures, bad)

pub returns-in_err-low : goal.returns-in_err-low
returns-in_err-low c =
    let bad = bad_low c.loop-i.invariant c.loop-i-test.true (below_none 16 _ (sym c.in_err-low.ensures)) in
    rw (c.from_residual-in_err-low.ensures, bad)

pub loop-i-preserved : goal.loop-i-preserved
loop-i-preserved c =
    let high = below_some 16 _ _ (sym c.in_ok-high.ensures) in
    let low = below_some 16 _ _ (sym c.in_ok-low.ensures) in
    rw (← high.0, ← low.0) (byte_read c.loop-i.invariant c.loop-i-test.true (omega (arith, high)) (omega (arith, low)))

pub returns : goal.returns
returns c = let all = all_read c.loop-i.invariant c.loop-i-test.false in rw (all.0, all.1)
