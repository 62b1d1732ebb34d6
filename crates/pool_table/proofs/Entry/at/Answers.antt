use mathlib.Core.Path.{ap, sym}
use mathlib.Core.List.{List}
use Prim.Native.Nat.{ℕ}
use lib.ListN.{get_or}
use Rattle.pool_table.specs.Pool.{Slot}
use Rattle.pool_table.specs.Words.{slot_words, entry_words, pool_of}
use Rattle.pool_table.proofs.Rows.{slot_past, entry_is}
use Rattle.pool_table.proofs.Entry.at.Goals as goal

pub returns-in_default : goal.returns-in_default
returns-in_default c =
    let e = slot_past (pool_of c.args.table.now) c.args.s c.in_default.ensures in
    entry_is
    c.txid-txid.ensures
    (ap (λ (x : Slot). x.entry.fee) (sym e))
    (ap (λ (x : Slot). x.entry.weight.0) (sym e))
    (ap (λ (x : Slot). x.entry.cost) (sym e))

pub returns : goal.returns
unfolding slot_words entry_words
returns c =
    let w = c.in-Some.ensures.words in
    entry_is
    c.txid-txid.ensures
    (ap (λ (ws : List ℕ). get_or ws 4 0) w)
    (ap (λ (ws : List ℕ). get_or ws 5 0) w)
    (ap (λ (ws : List ℕ). get_or ws 6 0) w)
