use Rattle.std.proofs.Common.{◌<◌, mod-lt, pos_of_ne-zero, arith, rules}
use native.Mathlib.Nat.{div-zero}
use Rattle.wide.proofs.Quotient.{none_passed, rest_below, twice_below, bits_small, bit_0, bit_1, all_passed}
use Rattle.wide.proofs.scaled_over.Goals as goal
use Rattle.wide.proofs.scaled_over.Goals.{After-sum_below-rest, After-from-bits, then-bits-eq1, else-bits-eq1}

-- the size is above zero
some : (e : After-from-bits) → 0 < e.args.size
some e = pos_of_ne-zero e.if-size-eq0.false

-- both rests of a sum are below the size
doubled_below : (c : After-sum_below-rest) → c.sum_below-rest.result < c.args.size
doubled_below c =
    let loop = c.before.before.before in
    rw c.sum_below-rest.ensures (twice_below loop.loop.invariant (some loop.before) c.loop-test.true)

pub plus-quotient-requires : goal.plus-quotient-requires
plus-quotient-requires c = let l = rest_below (some c.before.before) c.loop.invariant.parts in record {
  rest_lt_size = l;
  part_lt_size = l;
}

pub sum_below-rest-requires : goal.sum_below-rest-requires
sum_below-rest-requires c = plus-quotient-requires c.before

pub plus-quotient-requires-then-bits-eq1 : goal.plus-quotient-requires-then-bits-eq1
plus-quotient-requires-then-bits-eq1 c = record {
  rest_lt_size = doubled_below c.before;
  part_lt_size = mod-lt _ (some c.before.before.before.before.before);
}

pub sum_below-rest-requires-then-bits-eq1 : goal.sum_below-rest-requires-then-bits-eq1
sum_below-rest-requires-then-bits-eq1 c = plus-quotient-requires-then-bits-eq1 c.before

pub overflow_mul-bits : goal.overflow_mul-bits
overflow_mul-bits c = let loop = c.before.before.before.before in
    omega (arith, bits_small loop.loop.invariant c.loop-test.true)

pub loop-preserved : goal.loop-preserved
loop-preserved c = let loop = c.before.before.before.before in
    let less = c.loop-test.true in
    let q = c.plus-quotient.ensures in
    let r = c.sum_below-rest.ensures in
    elim c.if-bits-eq1.branch [
      | then-bits-eq1 w ↦ rw (w.quotient-is, w.rest-is) (bit_1 loop.loop.invariant (some loop.before) less w.if-bits-eq1.true q r w.plus-quotient-then-bits-eq1.ensures w.sum_below-rest-then-bits-eq1.ensures)
      | else-bits-eq1 w ↦ rw (w.quotient-is, w.rest-is) (bit_0 loop.loop.invariant (some loop.before) less w.if-bits-eq1.false q r)
    ]

pub returns-then-size-eq0 : goal.returns-then-size-eq0
returns-then-size-eq0 c = rw (c.if-size-eq0.true, div-zero)

pub returns : goal.returns
returns c = all_passed c.loop.invariant c.loop-test.false

pub loop-init : goal.loop-init
loop-init c = rw c.from-bits.ensures (none_passed _ _ _ _ (search rules))
