-- Document 01, module 2 (TxSet): a set of positions 0..63, by its members alone.
-- Membership is defined over any number of words. How many a TxSet has is said in `words`, `positions` and `set_words`; bounds and arrays
-- of the crates above are named by these.
-- Assumes nothing.
use Rattle.std.specs.Prelude.{ℕ, ◌/◌, ◌%◌, ◌^◌, ◌<◌, ◌≡◌, Bool, ◌&&◌, ◌||◌, not, List, [], ◌∷◌, eqb, ltb, length, get_or, set}
use Rattle.txset.specs.declared.TxSet.{TxSet}
use Rattle.lists.specs.Below.{any_from, all_from, count_from, first_from, list_from}

-- whether the i-th binary digit of a is 1
unfoldable pub has : ℕ → ℕ → Bool
has a i = eqb (a / 2 ^ i % 2) 1

-- whether position i is in the set of these words, 64 positions to a word, the lowest first
unfoldable pub has_in : List ℕ → ℕ → Bool
has_in ws i = has (get_or ws (i / 64) 0) (i % 64)

-- the words of a set
abbrev pub words : TxSet → List ℕ
words s = s.word ∷ []

-- "Positions 0..63."
abbrev pub positions : ℕ
positions = 64

-- how many words a list has that holds a set for each position
abbrev pub set_words : ℕ
set_words = positions

-- whether position i is in s
unfoldable pub mem : TxSet → ℕ → Bool
mem s i = has_in (words s) i

-- a position that a set can hold
abbrev pub is_position : ℕ → Bool
is_position i = ltb i positions

-- the members, upwards
unfoldable pub members : TxSet → List ℕ
members s = list_from (mem s) positions 0

-- how many members there are
unfoldable pub size : TxSet → ℕ
size s = count_from (mem s) positions 0

-- whether there is no member
unfoldable pub is_empty : TxSet → Bool
is_empty s = not (any_from (mem s) positions 0)

-- whether every member of s is one of t
unfoldable pub is_subset : TxSet → TxSet → Bool
is_subset s t = all_from (λ i. not (mem s i) || mem t i) positions 0

-- whether some position is in both
unfoldable pub overlap : TxSet → TxSet → Bool
overlap s t = any_from (λ i. mem s i && mem t i) positions 0

-- the lowest member, or 64 where there is none
unfoldable pub lowest_of : TxSet → ℕ
lowest_of s = first_from (mem s) positions 0

-- the i-th set of a list of sets that lie one after the other as words; past the end, the empty set
unfoldable pub set_at : List ℕ → ℕ → TxSet
set_at ws i = record { word = get_or ws i 0 }

-- whether a is in the i-th set
abbrev pub mem_at : List ℕ → ℕ → ℕ → Bool
mem_at ws i = mem (set_at ws i)

-- the list with its i-th set put anew; past the end, the same list
unfoldable pub put_at : List ℕ → ℕ → TxSet → List ℕ
put_at ws i s = set ws i s.word

-- the sets `new` are those of the list `old`, with the members of `extra` added to the i-th for each i in `walk`
pub record Joined (walk extra : TxSet) (old new : List ℕ) : Type 0 where
  pub same : length new ≡ length old
  pub has : (i a : ℕ) → i < length old → mem (set_at new i) a ≡ (mem (set_at old i) a || (mem walk i && mem extra a))
