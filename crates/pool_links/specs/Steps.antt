-- What the steps of `links_stand` hand to each other: no contract outside this crate cites this. Assumes nothing.
use Rattle.std.specs.Prelude.{ℕ, ◌≤◌, ◌<◌, ◌≡◌, Bool, true, false, not, ◌&&◌, ◌||◌, List, eqb, ltb, length, get_or, take}
use Rattle.lists.specs.Below.{count_from}
use Rattle.lists.specs.Lists.{elem, distinct}
use Rattle.txset.specs.Sets.{has_in}
use Rattle.ways.specs.Ways.{Way}
use Rattle.slotsets.specs.SlotSets.{capacity}
use Rattle.pool_table.specs.declared.Side.{Side}
use Rattle.pool_table.specs.declared.Side.TheVariants.{Parents, Children}
use Rattle.pool_table.specs.Pool.{Pool, slot_at, slot_count, occupied}
use Rattle.pool_table.specs.Links.{side_of, has_links, is_parent}

-- the side on which a link is named back
abbrev pub opposite : Side → Side
opposite Parents = Children
opposite Children = Parents

-- slot b is occupied, and names slot a back
unfoldable pub answers : Pool → Side → ℕ → ℕ → Bool
answers p side a b = occupied p b && has_in (side_of (opposite side) (slot_at p b)) a

-- slot b answers if slot a names it on this side
unfoldable pub holds_at : Pool → Side → ℕ → ℕ → Bool
holds_at p side a b = not (has_in (side_of side (slot_at p a)) b) || answers p side a b

-- slots a and c are occupied, and c names a as its parent
unfoldable pub is_tied : Pool → ℕ → ℕ → Bool
is_tied p a c = (occupied p a && occupied p c) && has_in (slot_at p c).parents a

-- ---- links are walked from parents to children: `met b c` where the one from b to c was

-- how many parents slot c names from which none was walked to it
unfoldable pub unmet : Pool → (ℕ → ℕ → Bool) → ℕ → ℕ
unmet p met c = count_from (λ b. has_in (slot_at p c).parents b && not (met b c)) capacity 0

-- no link was walked
abbrev pub no_link : ℕ → ℕ → Bool
no_link b c = false

-- the links to the children of all slots that are done
abbrev pub of_done : Pool → List ℕ → ℕ → ℕ → Bool
of_done p done b c = elem b done && has_in (slot_at p b).children c

-- these, and from slot a those to the slots in g
abbrev pub of_some : Pool → List ℕ → ℕ → (ℕ → Bool) → ℕ → ℕ → Bool
of_some p done a g b c = of_done p done b c || (eqb b a && g c)

-- the children of a slot below i
abbrev pub children_to : Pool → ℕ → ℕ → ℕ → Bool
children_to p a i c = has_in (slot_at p a).children c && ltb c i

-- The queue's first `end` places hold those slots with links to which all links were walked that they name from a parent; for each slot it is
-- known how many are to come. Each link that was walked is named at both ends, by occupied slots. So no chain of parents from the queue leaves
-- it, or closes.
pub record Walk (p : Pool) (met : ℕ → ℕ → Bool) (needs queue : List ℕ) (end : ℕ) : Type 0 where
  pub few : slot_count p ≤ capacity
  pub wide : length needs ≡ capacity
  pub long : length queue ≡ capacity
  pub short : end ≤ capacity
  pub needed : (c : ℕ) → c < slot_count p → get_or needs c 0 ≡ unmet p met c
  pub queued : (c : ℕ) → elem c (take end queue) ≡ (ltb c (slot_count p) && (has_links (slot_at p c) && eqb (get_or needs c 0) 0))
  pub below : (c : ℕ) → elem c (take end queue) ≡ true → c < slot_count p
  pub once : distinct (take end queue) ≡ true
  pub walked : (b c : ℕ) → met b c ≡ true → (elem b (take end queue) ≡ true) × (has_in (slot_at p b).children c ≡ true) × (is_tied p b c ≡ true)
  pub closed : (i a : ℕ) → elem i (take end queue) ≡ true → is_parent p i a ≡ true → elem a (take end queue) ≡ true
  pub sound : (i : ℕ) → elem i (take end queue) ≡ true → Way (is_parent p) i i → ⊥

-- the same while links are walked from the slot at one place of the queue: of its children those in g were met
pub record Walking (p : Pool) (at a : ℕ) (g : ℕ → Bool) (needs queue : List ℕ) (end : ℕ) : Type 0 where
  pub walk : Walk p (of_some p (take at queue) a g) needs queue end
  pub head : get_or queue at 0 ≡ a
  pub here : at < end
