use mathlib.Core.Path.{sym, ap}
use Prim.Native.Nat.{◌≤◌}
use lib.ListN.{length}
use lib.Seq.{length-take-le}
use Rattle.pool_run.specs.declared.Desk.{Desk}
use Rattle.pool_run.proofs.Steps.{kept_within, answer_due, line_answered}
use Rattle.pool_run.proofs.Desk.answer.Goals as goal
use Rattle.pool_run.proofs.Desk.answer.Goals.{After-respond-n}

-- the answer stands in its room
within : (c : After-respond-n) → c.respond-n.result ≤ length c.respond-n.new.out
within c = (c.respond-n.ensures.responded c.requires.input c.requires.stands).holds.within

pub respond-n-requires : goal.respond-n-requires
respond-n-requires c = kept_within c.requires.stands

pub slice_bounds-out-end : goal.slice_bounds-out-end
slice_bounds-out-end c = within (goal.at.slice_bounds-out-end c).After-respond-n

pub slice_bounds-write_answer-end : goal.slice_bounds-write_answer-end
slice_bounds-write_answer-end c = sym (length-take-le _ _ (within (goal.at.slice_bounds-write_answer-end c).After-respond-n))

pub write_answer-self-requires : goal.write_answer-self-requires
write_answer-self-requires c = let e = c.respond-n.ensures.memory_alone in
    rw (ap (λ (d : Desk). d.printed) e, ap (λ (d : Desk). d.len) e, ap (λ (d : Desk). d.line) e)
    (answer_due c.requires.stands (c.respond-n.ensures.responded c.requires.input c.requires.stands))

pub returns : goal.returns
returns c = let e = c.respond-n.ensures.memory_alone in
    λ input st still.
    rw (ap (λ (d : Desk). d.line) e)
    (line_answered st (c.respond-n.ensures.responded input st) (rw (ap (λ (d : Desk). d.printed) e) at c.write_answer-self.ensures) still)
