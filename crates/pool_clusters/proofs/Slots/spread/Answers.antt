use mathlib.Core.Path.{◌≡◌, ap₂, ◌∙◌}
use mathlib.Core.Bool.{false}
use Prim.Native.Nat.{ℕ, ◌+◌, ◌*◌, ◌^◌, ◌≤◌, ◌<◌}
use native.Mathlib.Omega.{arith}
use lib.Bits.{bit_and, bit_or, and_le_l}
use lib.ListN.{length, get_or}
use borrow.Author.Rules.{rules}
use Rattle.txset.specs.Sets.{has}
use Rattle.slotsets.specs.SlotSets.{capacity, set_words}
use Rattle.slotsets.proofs.Words.{upto_done}
use Rattle.pool_table.specs.Words.{pool_of}
use Rattle.pool_table.specs.Links.{is_linked}
use Rattle.pool_clusters.proofs.Words.{near_word, near_past, grown_turn, queued_turn, grown_past, queued_past}
use Rattle.pool_clusters.proofs.Slots.spread.Goals as goal

pub loop-j-preserved : goal.loop-j-preserved
loop-j-preserved c = let args = c.args in
    let p = pool_of args.self.now.table.now in
    let j = c.loop-j.j in
    let wide : length args.found.now ≡ set_words = search rules in
    let long : length args.todo.now ≡ set_words = search rules in
    let w = bit_and (get_or args.self.now.all j 0) (bit_or c.link_word-parents.result c.link_word-children.result) in
    let word : (d : ℕ) → d < 64 → has w d ≡ is_linked p args.a (64 * j + d) =
    λ d l.
    ap₂ (λ (x y : ℕ). has (bit_and (get_or args.self.now.all j 0) (bit_or x y)) d) c.link_word-parents.ensures c.link_word-children.ensures
    ∙ near_word p args.a args.self.now.all args.self.now.all_slots j d l in
    let each : get_or args.self.now.all j 0 < 2 ^ 64 = search rules in
    let fits : w < 2 ^ 64 = omega (
      arith,
      and_le_l (get_or args.self.now.all j 0) (bit_or c.link_word-parents.result c.link_word-children.result),
      each,
    ) in
    let l = c.loop-j-test.true in
    let inv = c.loop-j.invariant in (
      grown_turn (is_linked p args.a) w word l inv.0 wide,
      queued_turn (is_linked p args.a) w word l inv.0 wide inv.1 long fits (search rules),
    )

pub returns : goal.returns
returns c = let inv = c.loop-j.invariant in
    let args = c.args in
    let p = pool_of args.self.now.table.now in
    let past : (i : ℕ) → capacity ≤ i → is_linked p args.a i ≡ false =
    near_past p args.a args.self.now.all args.self.now.all_slots in record {
      by_index = upto_done inv.0 (λ i l. grown_past (is_linked p args.a) i (past i (omega (arith, c.loop-j-test.false))) args.found.now);
      by_index_2 = upto_done inv.1
          (λ i l. queued_past (is_linked p args.a) i (past i (omega (arith, c.loop-j-test.false))) args.found.now args.todo.now);
    }
