-- Whom a slot names: nobody, where it has no links; and a slot's links as words. Assumes nothing.
use mathlib.Core.Path.{◌≡◌, refl, sym, ap, ◌∙◌}
use mathlib.Core.Logic.{⊎_elim}
use mathlib.Core.Bool.{Bool, true, false, cond}
use mathlib.Core.List.{List, [], ◌∷◌, ◌++◌}
use Prim.Native.Nat.{ℕ, zero, suc, ◌/◌, ◌%◌, ◌≤◌, ◌<◌}
use lib.Dec.{eqb}
use lib.ListN.{get_or}
use borrow.Author.Tests.{eqb-true, lt-ltb, le-ltb, not-false}
use Rattle.lists.specs.Lists.{all_of}
use Rattle.lists.proofs.Bools.{and_left, and_right, and_both}
use Rattle.lists.proofs.Lists.{all_append}
use Rattle.lists.proofs.Numbers.{lt_or_ge}
use Rattle.txset.specs.Sets.{has, has_in}
use Rattle.txset.proofs.Bits.{has_nil}
use Rattle.txset.proofs.Words.{has_in_nil}
use Rattle.slotsets.proofs.SlotSets.{none_has}
use Rattle.pool_table.specs.declared.Side.{Side}
use Rattle.pool_table.specs.declared.Side.TheVariants.{Parents, Children}
use Rattle.pool_table.specs.Pool.{Slot, Pool, free, slot_at, slot_count}
use Rattle.pool_table.specs.Links.{side_of, links_at, has_links}
use Rattle.pool_table.proofs.Rows.{slot_past}

-- of words that are 0 each is 0, and they name nobody
pub zeros_at : (ws : List ℕ) (j : ℕ) → all_of (eqb 0) ws ≡ true → get_or ws j 0 ≡ 0
unfolding all_of
zeros_at [] j h = refl
zeros_at (w ∷ ws) zero h = sym (eqb-true 0 w (and_left (eqb 0 w) (all_of (eqb 0) ws) h))
zeros_at (w ∷ ws) (suc j) h = zeros_at ws j (and_right (eqb 0 w) (all_of (eqb 0) ws) h)

zeros_name : (ws : List ℕ) (b : ℕ) → all_of (eqb 0) ws ≡ true → has_in ws b ≡ false
unfolding has_in
zeros_name ws b h = ap (λ (w : ℕ). has w (b % 64)) (zeros_at ws (b / 64) h) ∙ has_nil (b % 64)

-- a slot without links names nobody on either side
pub unlinked_side : (x : Slot) → has_links x ≡ false → (side : Side) (b : ℕ) → has_in (side_of side x) b ≡ false
unfolding has_links
unlinked_side x h side b = go side
  where
    zeros : (all_of (eqb 0) x.parents ≡ true) × (all_of (eqb 0) x.children ≡ true)
    zeros = and_both _ _ (sym (all_append (eqb 0) x.parents x.children) ∙ not-false (all_of (eqb 0) (x.parents ++ x.children)) h)

    go : (side : Side) → has_in (side_of side x) b ≡ false
    go Parents = zeros_name x.parents b zeros.0
    go Children = zeros_name x.children b zeros.1

-- nor does a free slot
pub free_side : (side : Side) (b : ℕ) → has_in (side_of side free) b ≡ false
free_side Parents b = none_has b
free_side Children b = none_has b

-- the links of a slot as words name whom its set names
pub links_name : (p : Pool) (side : Side) (s b : ℕ) → has_in (links_at p side s) b ≡ has_in (side_of side (slot_at p s)) b
unfolding links_at
links_name p side s b =
    ⊎_elim
    (λ (l : s < slot_count p). ap (λ (c : Bool). has_in (cond c (side_of side (slot_at p s)) []) b) (lt-ltb s (slot_count p) l))
    (λ (l : slot_count p ≤ s).
    ap (λ (c : Bool). has_in (cond c (side_of side (slot_at p s)) []) b) (le-ltb s (slot_count p) l)
    ∙ has_in_nil b ∙ sym (free_side side b) ∙ ap (λ (x : Slot). has_in (side_of side x) b) (sym (slot_past p s l)))
    (lt_or_ge s (slot_count p))
