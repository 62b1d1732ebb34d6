-- The products of the digits leave room in the high word for a carry, and what the sum of the middle ones lost by wrapping comes back by it.
use Rattle.std.proofs.Common.{◌≡◌, ℕ, ◌+◌, ◌*◌, ◌/◌, ◌%◌, ◌≤◌, arith}
use Rattle.wide.proofs.Product.{digit_product, by_digits, carry_small, carried}
use Rattle.wide.proofs.mul_wide.Goals as goal
use Rattle.wide.proofs.mul_wide.Goals.{After-carry, Start}

record Small (x y : ℕ) : Type 0 where
  p00 : x % 4294967296 * (y % 4294967296) ≤ 18446744065119617025
  p01 : x % 4294967296 * (y / 4294967296) ≤ 18446744065119617025
  p10 : x / 4294967296 * (y % 4294967296) ≤ 18446744065119617025
  p11 : x / 4294967296 * (y / 4294967296) ≤ 18446744065119617025

small : (c : Start) → Small c.args.x c.args.y
small c = record {
  p00 = digit_product (omega arith) (omega arith);
  p01 = digit_product (omega arith) (omega arith);
  p10 = digit_product (omega arith) (omega arith);
  p11 = digit_product (omega arith) (omega arith);
}

module _ (c : After-carry) where
  abbrev start : Start
  start = c.before.before.before

  abbrev middle : ℕ
  middle = c.wrapping_add_u64-middle.result

  -- the middle products, with what their sum lost
  middles : 18446744073709551616 * c.carry.result + middle
      ≡ start.args.x / 4294967296 * (start.args.y % 4294967296) + start.args.x % 4294967296 * (start.args.y / 4294967296)
  middles =
      carried _ _ _ c.carry.ensures _
      (omega (arith, small start))
      (omega (arith, small start))
      c.wrapping_add_u64-middle.ensures.value

pub returns : goal.returns
returns c = omega (arith, middles c, c.wrapping_add_u64-lo.ensures.value, by_digits (start c).args.x (start c).args.y)

pub overflow_mul-p00 : goal.overflow_mul-p00
overflow_mul-p00 c = omega (arith, small c)

pub overflow_mul-p01 : goal.overflow_mul-p01
overflow_mul-p01 c = omega (arith, small c)

pub overflow_mul-p10 : goal.overflow_mul-p10
overflow_mul-p10 c = omega (arith, small c)

pub overflow_mul-p11 : goal.overflow_mul-p11
overflow_mul-p11 c = omega (arith, small c)

pub overflow_add-upper : goal.overflow_add-upper
overflow_add-upper c = omega (arith, small c.before)

pub overflow_add-hi : goal.overflow_add-hi
overflow_add-hi c = omega (arith, small c.before.before)

pub overflow_add-hi-2 : goal.overflow_add-hi-2
overflow_add-hi-2 c = omega (arith, small c.before.before)

pub overflow_mul-hi : goal.overflow_mul-hi
overflow_mul-hi c = omega (arith, carry_small _ _ _ c.carry.ensures)

pub overflow_add-hi-3 : goal.overflow_add-hi-3
overflow_add-hi-3 c = omega (arith, middles c, small (start c), carry_small _ _ _ c.carry.ensures)
