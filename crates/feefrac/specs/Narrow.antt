-- What the compare's own private functions speak of: no contract outside this crate cites it. Assumes nothing.
use Rattle.std.specs.Prelude.{◌<◌, ◌≤◌, nat_abs}
use Rattle.feefrac.specs.declared.FeeFrac.{FeeFrac}

-- a product of one such fee and one such size fits an i64
pub record Narrow (a : FeeFrac) : Type 0 where
  pub fee : nat_abs a.fee ≤ 34359738368
  pub size : a.size < 268435456
