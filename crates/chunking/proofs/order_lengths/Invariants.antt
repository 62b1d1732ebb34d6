use mathlib.Core.List.{map}
use Rattle.feefrac.specs.Rate.{rate_at}
use Rattle.chunking.proofs.order_lengths.Given as goal

-- the closure holds the fees, the sizes and the order
abbrev pub ghost-write_chunks : goal.ghost-write_chunks
ghost-write_chunks a = map (rate_at a.rate.0.now a.rate.1.now) a.rate.2.now
