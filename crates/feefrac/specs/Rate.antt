-- Document 01, module 1 (FeeFrac): what a fee over a size is, how two are summed, and how two compare.
-- Everything above this crate speaks of feerates by these names alone. Assumes nothing.
use Rattle.std.specs.Prelude.{ℕ, ◌+◌, ◌-◌, min, Bool, cond, List, ltb, get_or, ℤ, pos, negsuc, neg_ℤ, ◌+ℤ◌, ◌-ℤ◌, ◌*ℤ◌}
use Rattle.std.specs.Int.Signed.{lt_z}
use Rattle.feefrac.specs.declared.FeeFrac.{FeeFrac}
use Rattle.std.specs.declared.cmp.Ordering.{Ordering}
use Rattle.std.specs.declared.cmp.Ordering.TheVariants.{Less, Equal, Greater}
use Rattle.std.specs.Ordering.{ordering_then, is_gt}

-- "fee sums at the ends of i64": -2^63 is `negsuc (2^63 - 1)`
abbrev pub held_fee : ℤ → ℤ
held_fee (pos n) = pos (min n 9223372036854775807)
held_fee (negsuc n) = negsuc (min n 9223372036854775807)

-- "Size sums stop at 2^64 - 1"
abbrev pub held_size : ℕ → ℕ
held_size n = min n 18446744073709551615

-- the empty sum
abbrev pub zero_rate : FeeFrac
zero_rate = record { fee = pos 0; size = 0 }

-- the i-th fee over the i-th size; 0 for what is past an end
unfoldable pub rate_at : List ℤ → List ℕ → ℕ → FeeFrac
rate_at fs ss i = record { fee = get_or fs i (pos 0); size = get_or ss i 0 }

-- "A feerate sum takes a member in"
unfoldable pub sum : FeeFrac → FeeFrac → FeeFrac
sum a b = record { fee = held_fee (a.fee +ℤ b.fee); size = held_size (a.size + b.size) }

-- "or gives one back": "size differences [stop] at 0", which is what `-` on naturals does
unfoldable pub difference : FeeFrac → FeeFrac → FeeFrac
difference a b = record { fee = held_fee (a.fee -ℤ b.fee); size = a.size - b.size }

-- "with fees negated" (module 5's first pass)
unfoldable pub negated : FeeFrac → FeeFrac
negated a = record { fee = held_fee (neg_ℤ a.fee); size = a.size }

-- "a is higher than b when a.fee × b.size > b.fee × a.size, exactly."
unfoldable pub higher : FeeFrac → FeeFrac → Bool
higher a b = lt_z (b.fee *ℤ pos a.size) (a.fee *ℤ pos b.size)

-- the three ways in which two feerates can stand: one is higher, the other is, or neither
unfoldable pub rate_order : FeeFrac → FeeFrac → Ordering
rate_order a b = cond (higher a b) Greater (cond (higher b a) Less Equal)

-- how a number stands to another
unfoldable pub size_order : ℕ → ℕ → Ordering
size_order m n = cond (ltb n m) Greater (cond (ltb m n) Less Equal)

-- a second order decides where the first says nothing
abbrev pub then_by : Ordering → Ordering → Ordering
then_by = ordering_then

-- "Rank: by feerate, then the smaller size ranks above."
unfoldable pub rank_order : FeeFrac → FeeFrac → Ordering
rank_order a b = then_by (rate_order a b) (size_order b.size a.size)

-- "the held one yielding only to one strictly above"
abbrev pub is_greater : Ordering → Bool
is_greater = is_gt
