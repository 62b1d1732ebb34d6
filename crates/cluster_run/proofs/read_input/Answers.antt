use Prim.Native.Nat.{◌+◌, ◌≤◌, ◌<◌}
use native.Mathlib.Omega.{arith}
use mathlib.Core.Path.{◌≡◌, refl, sym, ◌∙◌}
use mathlib.Core.List.{[]}
use mathlib.Core.Bool.{false}
use lib.ListN.{length}
use lib.Seq.{length-take-le}
use borrow.Author.Rules.{rules}
use Rattle.texts.specs.Places.{before}
use Rattle.cluster_reader.specs.Calls.{is_decided}
use Rattle.cluster_run.proofs.Stops.{gave_bytes, gave_end, gave_failure}
use Rattle.cluster_run.proofs.read_input.Goals as goal
use Rattle.cluster_run.proofs.read_input.Goals.{In-Bytes}

-- where nothing is read yet, nothing is certain
nothing_decided : is_decided [] ≡ false
unfolding is_decided before
nothing_decided = refl

-- the bytes that a read gave: at least one, and within the room
behind : (c : In-Bytes)
    → (0 < c.in-Bytes.n)
    × (c.loop-len.len + c.in-Bytes.n
    ≤ length c.read_more-got.new.text)
behind c = gave_bytes _ _ c.read_more-got.ensures c.in-Bytes.is

pub loop-len-init : goal.loop-len-init
loop-len-init c = (omega arith, (refl, nothing_decided))

pub returns-in-Ended : goal.returns-in-Ended
returns-in-Ended c = omega (arith, gave_end _ _ c.read_more-got.ensures c.in-Ended.is)

pub returns-in-Failed : goal.returns-in-Failed
returns-in-Failed c = omega (arith, gave_failure _ _ c.read_more-got.ensures c.in-Failed.is)

pub overflow_add-len : goal.overflow_add-len
overflow_add-len c = let h = behind (goal.at.overflow_add-len c).In-Bytes in search rules

pub slice_bounds-is_decided-end : goal.slice_bounds-is_decided-end
slice_bounds-is_decided-end c = (behind (goal.at.slice_bounds-is_decided-end c).In-Bytes).1

pub slice_bounds-is_decided-end-in-Bytes : goal.slice_bounds-is_decided-end-in-Bytes
slice_bounds-is_decided-end-in-Bytes c = sym (length-take-le _ _ (behind (goal.at.slice_bounds-is_decided-end-in-Bytes c).In-Bytes).1)

pub returns-then-is_decided : goal.returns-then-is_decided
returns-then-is_decided c = ((behind (goal.at.returns-then-is_decided c).In-Bytes).1, sym c.is_decided.ensures.value ∙ c.if-is_decided.true)

pub loop-len-smaller : goal.loop-len-smaller
loop-len-smaller c = let h = behind (goal.at.loop-len-smaller c).In-Bytes in search rules

pub loop-len-preserved : goal.loop-len-preserved
loop-len-preserved c = let h = behind (goal.at.loop-len-preserved c).In-Bytes in (h.1, (search rules, sym c.is_decided.ensures.value ∙ c.if-is_decided.false))
