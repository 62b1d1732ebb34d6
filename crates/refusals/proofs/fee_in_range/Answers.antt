use Rattle.refusals.proofs.Laws.{range_low, range_rest}
use Rattle.refusals.proofs.fee_in_range.Goals as goal

pub returns-then-fee-ltminus4200000000000000 : goal.returns-then-fee-ltminus4200000000000000
returns-then-fee-ltminus4200000000000000 c = range_low c.args.fee c.ranges.fee c.if-fee-ltminus4200000000000000.true

pub returns : goal.returns
returns c = range_rest c.args.fee c.ranges.fee c.if-fee-ltminus4200000000000000.false
