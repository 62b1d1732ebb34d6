use mathlib.Core.Path.{◌≡◌, ap}
use mathlib.Core.Bool.{Bool, ◌||◌}
use Prim.Native.Nat.{◌<◌}
use native.Mathlib.Omega.{arith}
use Rattle.txset.specs.Sets.{positions}
use Rattle.depgraph.proofs.Closure.{own_start, own_put, own_turn}
use Rattle.depgraph.proofs.include_self.Goals as goal

pub loop-i-init : goal.loop-i-init
loop-i-init c = own_start _ _

pub loop-i-preserved : goal.loop-i-preserved
loop-i-preserved c =
    let below : c.loop-i.i < positions = omega (arith, c.requires.few) in
    own_turn
    c.loop-i.i
    c.loop-i-test.true
    c.requires
    c.at-above.ensures
    (ap (λ (b : Bool). c.loop-i.cyclic || b) c.contains-cyclic.ensures)
    (own_put c.insert.result below c.at-above.ensures c.insert.ensures c.put.ensures)
    (own_put c.insert-in-loop-i.result below c.at.ensures c.insert-in-loop-i.ensures c.put-in-loop-i.ensures)
    c.loop-i.invariant

pub returns : goal.returns
returns c = let e : c.loop-i.i ≡ c.args.n = omega arith in rw e at c.loop-i.invariant.owning
