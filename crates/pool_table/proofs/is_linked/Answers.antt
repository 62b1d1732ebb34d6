use mathlib.Core.Path.{◌≡◌, sym, ap, ◌∙◌}
use mathlib.Core.Bool.{not}
use Prim.Native.Nat.{◌-◌}
use lib.Dec.{eqb}
use lib.ListN.{length, take, drop, length-drop}
use lib.Seq.{take-length}
use Rattle.lists.specs.Lists.{all_of}
use Rattle.pool_table.specs.Words.{slot_words, entry_words}
use Rattle.pool_table.specs.Links.{has_links}
use Rattle.pool_table.proofs.Rows.{slot_past, free_unlinked}
use Rattle.pool_table.proofs.is_linked.Goals as goal

pub returns-in_default : goal.returns-in_default
returns-in_default c = sym (ap has_links (slot_past _ _ c.in_default.ensures) ∙ free_unlinked)

-- past the entry's words there are those of both sets
pub returns : goal.returns
unfolding has_links slot_words entry_words
returns c =
    let r = c.in-Some.row.now in
    let all : take (length r - 7) (drop 7 r) ≡ drop 7 r = rw (← length-drop 7 r) (take-length (drop 7 r)) in
    ap not (c.are_zero.ensures ∙ ap (all_of (eqb 0)) (all ∙ ap (drop 7) c.in-Some.ensures.words))
