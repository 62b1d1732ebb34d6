use mathlib.Core.Path.{ap}
use Rattle.pool_order.proofs.Filling.{copied_start, copied_done}
use Rattle.feefrac.specs.declared.FeeFrac.{FeeFrac}
use Rattle.pool_chunks.proofs.Writing.{copied_put}
use Rattle.pool_chunks.proofs.cut.gather_rates.Goals as goal

pub loop-i-init : goal.loop-i-init
loop-i-init c = (copied_start _ c.requires.members_in_bounds, copied_start _ c.requires.members_in_bounds_2)

pub slot_rate-requires : goal.slot_rate-requires
slot_rate-requires c = c.requires.all_payable _ c.loop-i-test.true

pub loop-i-preserved : goal.loop-i-preserved
loop-i-preserved c = let fee = ap (λ (r : FeeFrac). r.fee) c.slot_rate.ensures in
    let size = ap (λ (r : FeeFrac). r.size) c.slot_rate.ensures in (
      copied_put c.loop-i.invariant.0 0 c.loop-i-test.true fee c.put.ensures.fees_after,
      copied_put c.loop-i.invariant.1 0 c.loop-i-test.true size c.put.ensures.sizes_after,
    )

pub returns : goal.returns
returns c = record {
  fees_after = copied_done c.loop-i.invariant.0 c.loop-i-test.false;
  sizes_after = copied_done c.loop-i.invariant.1 c.loop-i-test.false;
}
