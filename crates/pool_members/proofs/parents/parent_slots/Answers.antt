-- `parent_slots`: the first j words are those of the parents. Assumes nothing.
use mathlib.Core.Path.{sym, ap, ◌∙◌}
use Prim.Native.Nat.{ℕ}
use native.Mathlib.Omega.{arith}
use Rattle.txset.specs.Sets.{has}
use Rattle.txset.proofs.Words.{has_in_zeros}
use Rattle.slotsets.proofs.SlotSets.{set_past}
use Rattle.slotsets.proofs.Words.{upto_start, upto_turn, upto_done, word_in}
use Rattle.pool_table.specs.Pool.{slot_at}
use Rattle.pool_table.specs.Words.{pool_of}
use Rattle.pool_table.proofs.Rows.{whole_slot}
use Rattle.pool_members.proofs.parents.parent_slots.Goals as goal

pub loop-j-init : goal.loop-j-init
loop-j-init c = upto_start _ _

pub loop-j-preserved : goal.loop-j-preserved
loop-j-preserved c = let args = c.args in
    let j = c.loop-j.j in
    upto_turn c.loop-j.invariant c.link_word.result c.loop-j-test.true
    (λ d l. ap (λ (w : ℕ). has w d) c.link_word.ensures ∙ word_in (slot_at (pool_of args.table.now) args.s).parents j d l)

pub returns : goal.returns
returns c = let args = c.args in
    let parents = (slot_at (pool_of args.table.now) args.s).parents in
    upto_done c.loop-j.invariant
    (λ i l. set_past parents (whole_slot args.table.now args.s).parents i (omega (arith, c.loop-j-test.false)) ∙ sym (has_in_zeros 16 i))
