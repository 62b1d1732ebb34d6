use mathlib.Core.List.{[], ◌∷◌}
use Rattle.texts.specs.Writing.{item}
use Rattle.texts.proofs.Append.{two, writes}
use Rattle.texts.proofs.Numbers.{later_item}
use Rattle.pool_writer.specs.Texts.{slot_text}
use Rattle.pool_writer.proofs.next_txid.Goals as goal

pub returns-then-k-eq0 : goal.returns-then-k-eq0
unfolding item
returns-then-k-eq0 c = rw c.if-k-eq0.true (rw c.txid-txid.ensures at c.write_txid.ensures)

pub returns : goal.returns
returns c =
    let comma = c.write_bytes-at.ensures in
    rw (later_item (slot_text c.args.table.now) c.args.k c.args.slot c.if-k-eq0.false)
    (two (44 ∷ []) (slot_text c.args.table.now c.args.slot) (writes (comma.value, comma.out_after))
    (rw c.txid-txid.ensures at c.write_txid-2.ensures))
