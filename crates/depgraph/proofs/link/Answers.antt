use mathlib.Core.Path.{◌≡◌, ◌∙◌}
use Prim.Native.Nat.{ℕ}
use native.Mathlib.Omega.{arith}
use lib.ListN.{take}
use lib.Seq.{length-take-le}
use Rattle.txset.specs.Sets.{mem}
use Rattle.depgraph.specs.Graph.{is_parent}
use Rattle.depgraph.specs.Steps.{Within}
use Rattle.depgraph.proofs.Closure.{link_start, link_turn, link_done, parents_within, own_parents}
use Rattle.depgraph.proofs.link.Goals as goal
use Rattle.depgraph.proofs.link.Goals.{After-remove-own}

pub loop-i-init : goal.loop-i-init
loop-i-init c = link_start _ c.requires.holds

-- what is entered for a member: its parents
module _ (own : After-remove-own) where
  entered : (a : ℕ) → mem own.remove-own.result a ≡ is_parent (take own.args.n own.args.parents.now) own.loop-i.i a
  entered =
      own_parents
      own.args.parents.now
      own.args.n
      own.loop-i.i
      own.full-all.result
      own.intersection.result
      own.remove-own.result
      own.requires.n_in_bounds
      own.loop-i-test.true
      own.at.ensures
      own.full-all.ensures
      own.intersection.ensures
      own.remove-own.ensures

  -- each of them has a set
  within : Within own.remove-own.result own.loop-i.descendants
  within =
      parents_within _ _ _ own.remove-own.result own.requires.n_in_bounds
      (omega (arith, own.loop-i.invariant.downs, own.requires.room.downs))
      entered

pub join-requires : goal.join-requires
join-requires c = within (goal.at.join-requires c).After-remove-own

pub loop-i-preserved : goal.loop-i-preserved
loop-i-preserved c =
    let own = (goal.at.loop-i-preserved c).After-remove-own in
    link_turn
    (is_parent (take c.args.n c.args.parents.now))
    c.loop-i.i
    c.remove-own.result
    c.singleton.result
    c.loop-i-test.true
    c.requires.room
    (within own)
    (entered own)
    c.singleton.ensures
    c.put.ensures
    c.join.ensures
    c.loop-i.invariant

pub returns : goal.returns
returns c =
    let parents = c.args.parents.now in
    let n = c.args.n in
    link_done (take n parents) (length-take-le n parents c.requires.n_in_bounds ∙ omega arith) c.loop-i.invariant

pub shape_of-ancestors : goal.shape_of-ancestors
shape_of-ancestors c = c.loop-i.invariant.ups

pub shape_of-descendants : goal.shape_of-descendants
shape_of-descendants c = c.loop-i.invariant.downs
