use Prim.Native.Nat.{◌≤◌}
use native.Mathlib.Omega.{arith}
use mathlib.Core.Path.{sym, ap, ◌∙◌}
use lib.ListN.{length, length-append}
use lib.Seq.{length-take-le}
use Rattle.cluster_run.proofs.Stops.{stop_within}
use Rattle.cluster_run.proofs.run.Goals as goal
use Rattle.cluster_run.proofs.run.Goals.{In-Some, After-respond-n}

-- what was read lies within its room, and what is printed within its own
text_within : (c : In-Some) → c.in-Some.len ≤ length c.read_input.new.text
text_within c = stop_within c.read_input.new.text c.read_input.result c.read_input.ensures (sym c.text_read.ensures ∙ c.in-Some.is)

out_within : (c : After-respond-n) → c.respond-n.result ≤ length c.respond-n.new.out
out_within c = omega (arith, c.respond-n.ensures.value, simp length-append at (ap length c.respond-n.ensures.out_after))

pub slice_bounds-text-end : goal.slice_bounds-text-end
slice_bounds-text-end c = text_within (goal.at.slice_bounds-text-end c).In-Some

pub slice_bounds-out-end : goal.slice_bounds-out-end
slice_bounds-out-end c = out_within (goal.at.slice_bounds-out-end c).After-respond-n

pub slice_bounds-respond-end : goal.slice_bounds-respond-end
slice_bounds-respond-end c = sym (length-take-le _ _ (text_within (goal.at.slice_bounds-respond-end c).In-Some))

pub slice_bounds-write_all-end : goal.slice_bounds-write_all-end
slice_bounds-write_all-end c = sym (length-take-le _ _ (out_within (goal.at.slice_bounds-write_all-end c).After-respond-n))
