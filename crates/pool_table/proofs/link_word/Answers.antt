use mathlib.Core.List.{List}
use Prim.Native.Nat.{ℕ, ◌+◌}
use mathlib.Core.Path.{ap, sym, ◌∙◌}
use lib.ListN.{get_or}
use Rattle.pool_table.specs.Pool.{Slot, slot_at}
use Rattle.pool_table.specs.Words.{pool_of, slot_words}
use Rattle.pool_table.specs.Links.{side_of}
use Rattle.pool_table.proofs.Rows.{slot_past, whole_slot, side_at_lem, side_past, side_free}
use Rattle.pool_table.proofs.link_word.Goals as goal

pub returns-then-j-ge-SET_WORDS : goal.returns-then-j-ge-SET_WORDS
returns-then-j-ge-SET_WORDS c = sym (side_past c.args.side c.args.table.now c.args.s c.args.j c.if-j-ge-SET_WORDS.true)

pub returns-in_default : goal.returns-in_default
returns-in_default c =
    let a = c.args in
    sym (ap (λ (x : Slot). get_or (side_of a.side x) a.j 0) (slot_past (pool_of a.table.now) a.s c.in_default.ensures) ∙ side_free a.side a.j)

pub returns : goal.returns
returns c =
    let a = c.args in
    let x = slot_at (pool_of a.table.now) a.s in
    ap (λ (ws : List ℕ). get_or ws (c.offset.result + a.j) 0) c.in-Some.ensures.words
    ∙ ap (λ (n : ℕ). get_or (slot_words x) (n + a.j) 0) c.offset.ensures
    ∙ side_at_lem a.side x a.j (whole_slot a.table.now a.s) c.if-j-ge-SET_WORDS.false
