-- A walk over the members of a set, upwards: t is s without its lowest member, as `without_lowest` gives it. Assumes nothing.
use mathlib.Core.Path.{◌≡◌, refl, sym, ap, ◌∙◌}
use mathlib.Core.Bool.{Bool, true, false, not, ◌&&◌}
use mathlib.Core.Logic.{⊎_elim}
use mathlib.Core.List.{[], ◌∷◌}
use Prim.Native.Nat.{ℕ, ◌<◌}
use native.Mathlib.Omega.{arith}
use lib.Dec.{eqb}
use lib.ListN.{length, drop}
use borrow.Author.Tests.{not-true, not-false}
use Rattle.txset.specs.declared.TxSet.{TxSet}
use Rattle.lists.specs.Below.{any_from, list_from}
use Rattle.lists.specs.Lists.{elem}
use Rattle.txset.specs.Sets.{positions, mem, members, size, is_empty, lowest_of}
use Rattle.lists.proofs.Below.{some, head_or, first_has, first_below, list_nil, list_next, any_list, elem_in}
use Rattle.lists.proofs.Numbers.{lt_or_ge}
use Rattle.txset.proofs.Sets.{size_members, mem_past}

-- the lowest is a member, a position, and the first
pub lowest_mem : (s : TxSet) → is_empty s ≡ false → mem s (lowest_of s) ≡ true
unfolding is_empty lowest_of
lowest_mem s h = first_has (mem s) positions 0 (not-false (any_from (mem s) positions 0) h)

pub lowest_position : (s : TxSet) → is_empty s ≡ false → lowest_of s < positions
unfolding is_empty lowest_of
lowest_position s h = first_below (mem s) positions 0 (not-false (any_from (mem s) positions 0) h)

-- no member is left
pub walk_done : (s : TxSet) → is_empty s ≡ true → members s ≡ []
unfolding is_empty members
walk_done s h = list_nil (mem s) positions 0 (not-true (any_from (mem s) positions 0) h)

pub size_empty : (s : TxSet) → is_empty s ≡ true → size s ≡ 0
size_empty s e = size_members s ∙ ap length (walk_done s e)

module _ (s t : TxSet) (next : (i : ℕ) → mem t i ≡ (mem s i && not (eqb i (lowest_of s)))) (left : is_empty s ≡ false) where
  -- the members are the lowest and those of t
  pub walk_step : members s ≡ lowest_of s ∷ members t
  unfolding is_empty lowest_of members
  walk_step = list_next (mem s) (mem t) positions 0 (not-false (any_from (mem s) positions 0) left) (λ i a b. next i)

  -- a step leaves fewer
  pub walk_less : size t < size s
  walk_less = let e : length (members s) ≡ length (lowest_of s ∷ members t) = ap length walk_step in omega (arith, size_members s, size_members t)

-- a turn of a walk, as its iterator gives it: i is the first of the members of s, and t is what is left
pub record Turn (s t : TxSet) (i : ℕ) : Type 0 where
  pub left : is_empty s ≡ false
  pub first : i ≡ lowest_of s
  pub next : (j : ℕ) → mem t j ≡ (mem s j && not (eqb j (lowest_of s)))

pub walk_turn : (s t : TxSet) (i : ℕ) → members s ≡ i ∷ members t → Turn s t i
unfolding members lowest_of is_empty
walk_turn s t i e = record { left = left; first = sym (ap (head_or 0) step); next = next }
  where
    g : ℕ → Bool
    g j = mem s j && not (eqb j (lowest_of s))

    some_left : any_from (mem s) positions 0 ≡ true
    some_left = any_list (mem s) positions 0 ∙ ap some e

    left : is_empty s ≡ false
    left = ap not some_left

    step : lowest_of s ∷ list_from g positions 0 ≡ i ∷ members t
    step = sym (list_next (mem s) g positions 0 some_left (λ j a b. refl)) ∙ e

    rest : list_from g positions 0 ≡ members t
    rest = ap (drop 1) step

    next : (j : ℕ) → mem t j ≡ g j
    next j =
        ⊎_elim
        (λ l. sym (elem_in (mem t) positions 0 j (omega arith) (omega (arith, l))) ∙ ap (elem j) (sym rest) ∙ elem_in g positions 0 j (omega arith) (omega (arith, l)))
        (λ l. mem_past t j l ∙ sym (ap (λ (b : Bool). b && not (eqb j (lowest_of s))) (mem_past s j l)))
        (lt_or_ge j positions)

pub walk_end : (s : TxSet) → members s ≡ [] → is_empty s ≡ true
unfolding members is_empty
walk_end s e = ap not (any_list (mem s) positions 0 ∙ ap some e)
