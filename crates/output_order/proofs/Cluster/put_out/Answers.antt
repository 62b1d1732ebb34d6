use native.Mathlib.Omega.{arith}
use mathlib.Core.Path.{◌≡◌, sym, ap, ◌∙◌}
use mathlib.Core.List.{[], ◌∷◌}
use Rattle.output_order.specs.Rounds.{chosen, member_of}
use Rattle.output_order.proofs.Putting.{putting_start, putting_stop, putting_done, putting_less, putting_room, putting_turn, putting_within, within_start}
use Rattle.output_order.proofs.Cluster.put_out.Goals as goal
use Rattle.output_order.proofs.Cluster.put_out.Goals.{In-Some}

pub loop-left-init : goal.loop-left-init
loop-left-init c = (
  putting_start _ _ _ _ _ _ _ _ _ c.requires.by_index c.subtract-left.ensures c.requires.standing,
  within_start c.subtract-left.ensures c.requires.within,
)

pub returns-in_default : goal.returns-in_default
returns-in_default c =
    putting_stop c.loop-left.invariant.0 c.requires.all _ c.subtract-left.ensures
    (sym c.next_member.ensures ∙ ap chosen c.in_default.is)

-- the member that is chosen
is : (d : In-Some)
    → member_of d.args.self.now.fees.now d.args.self.now.sizes.now d.args.self.now.ancestors.now d.args.self.now.all d.loop-left.left d.loop-left.done ≡ d.in-Some.t ∷ []
is d = sym d.next_member.ensures ∙ ap chosen d.in-Some.is

-- there is a place for it
pub bounds-room-len : goal.bounds-room-len
bounds-room-len c =
    putting_room c.loop-left.invariant.0 c.requires.all _ _ _ (is (goal.at.bounds-room-len c).In-Some) c.remove-left.ensures c.insert-done.ensures

pub offset_bounds-room-len : goal.offset_bounds-room-len
offset_bounds-room-len c = record { fits = omega (arith, bounds-room-len c, c.loop-left.invariant.0.long, c.well_formed) }

pub overflow_add-len : goal.overflow_add-len
overflow_add-len c = record { fits = omega (arith, bounds-room-len c, c.loop-left.invariant.0.long, c.well_formed) }

pub loop-left-smaller : goal.loop-left-smaller
loop-left-smaller c =
    putting_less c.loop-left.invariant.0 c.requires.all _ _ _ (is (goal.at.loop-left-smaller c).In-Some) c.remove-left.ensures c.insert-done.ensures

pub loop-left-preserved : goal.loop-left-preserved
loop-left-preserved c = let all = c.requires.all in
    let one = is (goal.at.loop-left-preserved c).In-Some in (
      putting_turn c.loop-left.invariant.0 all _ _ _ one c.remove-left.ensures c.insert-done.ensures,
      putting_within c.loop-left.invariant.0 all _ _ _ one c.remove-left.ensures c.insert-done.ensures c.loop-left.invariant.1,
    )

pub returns : goal.returns
returns c = putting_done c.loop-left.invariant.0 c.requires.all _ c.subtract-left.ensures (sym c.is_empty.ensures ∙ c.loop-left-test.false)

pub next_member-requires : goal.next_member-requires
next_member-requires c = (sym c.is_empty.ensures ∙ c.loop-left-test.true, c.loop-left.invariant.1)

pub shape_of-room-in_default : goal.shape_of-room-in_default
shape_of-room-in_default c = c.loop-left.invariant.0.long

pub shape_of-room : goal.shape_of-room
shape_of-room c = c.loop-left.invariant.0.long
