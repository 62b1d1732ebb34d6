use Rattle.std.proofs.Common.{◌≡◌, sym, ap, ◌∙◌, rules, get_or, length}
use lib.IntN.{pos}
use mir.Syntax.{w64}
use mir.ValLaws.{to_z-of_z}
use Rattle.lists.proofs.Found.{found_below, none_past}
use Rattle.refusals.specs.Refusals.{in_range}
use Rattle.refusals.proofs.Laws.{passed_none, passed_more, passed_stop, passed_all}
use Rattle.refusals.proofs.first_outside.Goals as goal
use Rattle.refusals.proofs.first_outside.Goals.{After-fee_in_range}

-- the fee that was tested is the i-th
tested : (c : After-fee_in_range)
    → c.fee_in_range.result ≡ in_range (get_or c.args.fees.now c.loop-i.i (pos 0))
tested c = c.fee_in_range.ensures ∙ ap in_range (to_z-of_z w64 _ (search rules))

pub returns-then-not-fee_in_range : goal.returns-then-not-fee_in_range
returns-then-not-fee_in_range c =
    let is = passed_stop c.loop-i.invariant c.loop-i-test.true (sym (tested c.before) ∙ c.if-not-fee_in_range.true) in
    sym (rw (← is) (found_below (length c.args.fees.now) c.loop-i.i c.loop-i-test.true))

pub loop-i-preserved : goal.loop-i-preserved
loop-i-preserved c = passed_more c.loop-i.invariant c.loop-i-test.true (sym (tested c.before) ∙ c.if-not-fee_in_range.false)

pub loop-i-init : goal.loop-i-init
loop-i-init c = passed_none _

pub returns : goal.returns
returns c =
    let is = passed_all c.loop-i.invariant c.loop-i-test.false in
    sym (rw (← is) (none_past (length c.args.fees.now) c.loop-i.i c.loop-i-test.false))
