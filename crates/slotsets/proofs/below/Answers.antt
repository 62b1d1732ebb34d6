use mathlib.Core.Bool.{Bool, ◌&&◌}
use mathlib.Core.List.{[]}
use mathlib.Core.Path.{sym, ap, ap₂, ◌∙◌}
use Prim.Native.Nat.{◌+◌, ◌*◌}
use native.Mathlib.Omega.{arith}
use lib.Dec.{ltb}
use borrow.Author.Tests.{lt-ltb, le-ltb}
use Rattle.lists.proofs.Numbers.{ltb_same}
use Rattle.txset.specs.Sets.{mem}
use Rattle.txset.proofs.Words.{has_in_low, has_in_zeros}
use Rattle.slotsets.specs.SlotSets.{capacity}
use Rattle.slotsets.proofs.Words.{upto_turn, upto_done}
use Rattle.slotsets.proofs.below.Goals as goal

pub loop-j-preserved : goal.loop-j-preserved
unfolding mem
loop-j-preserved c =
    let n = c.args.n in
    let j = c.loop-j.j in
    let w = c.full.result.word in
    upto_turn c.loop-j.invariant w c.loop-j-test.true
    (λ d l.
    sym (has_in_low w [] d l) ∙ c.full.ensures d
    ∙ ap₂ ◌&&◌ (lt-ltb d 64 l ∙ sym (lt-ltb (64 * j + d) capacity (omega arith)))
    (ltb_same d c.saturating_sub.result (64 * j + d) n (λ a. omega arith) (λ a. omega arith)))

pub returns : goal.returns
returns c = let n = c.args.n in
    upto_done c.loop-j.invariant (λ i l. ap (λ (b : Bool). b && ltb i n) (le-ltb i capacity (omega arith)) ∙ sym (has_in_zeros 16 i))
