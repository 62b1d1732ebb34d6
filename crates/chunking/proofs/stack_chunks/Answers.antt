use native.Mathlib.Omega.{arith}
use mathlib.Core.Path.{◌≡◌, refl, ap, ◌∙◌}
use mathlib.Core.List.{◌∷◌}
use Rattle.chunking.specs.Chunks.{alone, swallow}
use Rattle.chunking.specs.Setup.{stk}
use Rattle.chunking.proofs.Laws.{outer_start, outer_push, stack_done, inner_start, join_len, inner_turn, stopped_empty, stopped_top}
use Rattle.chunking.proofs.stack_chunks.Given.{Over}
use Rattle.chunking.proofs.stack_chunks.Goals as goal
use Rattle.chunking.proofs.stack_chunks.Goals.{Left-loop-count, else-loop-count-test, then-loop-count-test+then-not-higher_rate}

pub loop-i-init : goal.loop-i-init
loop-i-init g c = outer_start _ _

pub loop-count-init : goal.loop-count-init
loop-count-init g c =
    inner_start c.loop-i.invariant (c.alone-cur.ensures ∙ ap alone (c.requires.1.0.each _ _ c.loop-i-test.true c.rate.ensures))

pub join-cur-requires : goal.join-cur-requires
join-cur-requires g c = omega (arith, join_len c.loop-count.invariant c.loop-count-test.true refl, c.loop-i-test.true, c.requires.1.0.few)

pub rate-requires : goal.rate-requires
rate-requires g c = c.requires.1.0.may _ c.loop-i-test.true

pub loop-count-preserved : goal.loop-count-preserved
loop-count-preserved g c = inner_turn
    c.loop-count.invariant
    c.loop-count-test.true
    refl
    (rw c.higher_rate.ensures at c.if-not-higher_rate.false)
    c.join-cur.ensures

-- however the inner loop is left, nothing more is swallowed
stopped : (g : Over) (c : Left-loop-count g)
    → swallow c.loop-count.cur (stk c.loop-i.stack c.loop-count.count) ≡ c.loop-count.cur ∷ stk c.loop-i.stack c.loop-count.count
stopped g c =
    elim c.loop-count-test.branch [
      | else-loop-count-test w ↦ stopped_empty _ _ _ w.loop-count-test.false
      | then-loop-count-test+then-not-higher_rate w ↦
          stopped_top c.loop-count.invariant w.loop-count-test.true refl (rw w.higher_rate.ensures at w.if-not-higher_rate.true)
    ]

pub loop-i-preserved : goal.loop-i-preserved
loop-i-preserved g c =
    outer_push
    c.loop-i.invariant
    c.loop-count.invariant
    (stopped g (goal.at.loop-i-preserved g c).Left-loop-count)
    (omega (arith, c.requires.1.0.many, c.loop-i-test.true))
    (omega (arith, c.requires.1.1, c.loop-i-test.true))

pub returns : goal.returns
returns g c =
    let all = c.requires.1.0.many in
    stack_done c.loop-i.invariant (omega (arith, all, c.loop-i-test.false, c.loop-i.auto.i-end)) (omega (arith, all, c.requires.1.1))
