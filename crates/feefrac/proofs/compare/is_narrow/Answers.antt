use mathlib.Core.Path.{◌≡◌}
use mathlib.Core.Bool.{true, false}
use Prim.Native.Nat.{ℕ}
use native.Mathlib.Omega.{arith}
use lib.IntN.{pos, negsuc}
use mir.Syntax.{w64}
use mir.Val.{SFits}
use mir.Facts.{sfits_lit}
use borrow.Author.Rules.{rules}
use borrow.Author.Tests.{ltb-true}
use Rattle.feefrac.proofs.Signed.{not_less, abs_within}
use Rattle.feefrac.proofs.compare.is_narrow.Goals as goal

never : {A : Type 0} → false ≡ true → A
never e = absurd (let z : ◌≡◌ {A = ℕ} 0 1 = cc in omega arith)

pub returns : goal.returns
returns c e = let fee = c.args.a.fee in
    let h : SFits w64 fee = search rules in
    record {
      fee =
          abs_within fee 34359738368
          (not_less (sfits_lit {z = pos 34359738368} tt) h c.if-fee-gt34359738368.false)
          (not_less h (sfits_lit {z = negsuc 34359738367} tt) c.if-fee-ltminus34359738368.false);
      size = ltb-true _ _ e;
    }

pub returns-then-fee-ltminus34359738368 : goal.returns-then-fee-ltminus34359738368
returns-then-fee-ltminus34359738368 c = never

pub returns-then-fee-gt34359738368 : goal.returns-then-fee-gt34359738368
returns-then-fee-gt34359738368 c = never
