-- Sets of a pool's slots: words of 64 slots each, the lowest first. Membership is `has_in` of txset, over any number of words; that a set of
-- slots has 16 is said here once. Assumes nothing.
use Rattle.std.specs.Prelude.{ℕ, zero, suc, ◌+◌, ◌*◌, Bool, false, not, ◌&&◌, ◌||◌, List, [], ◌∷◌, eqb, length, get_or}
use Rattle.lists.specs.Below.{bit, first_from}
use Rattle.txset.specs.Sets.{has_in}

-- "1 to 1,024 slots"
abbrev pub capacity : ℕ
capacity = 1024

-- the words of a set of so many slots
abbrev pub set_words : ℕ
set_words = 16

-- how many positions a list of words has
abbrev pub span : List ℕ → ℕ
span ws = 64 * length ws

-- the lowest member of the slots that a pool can have, or 1,024 where there is none
unfoldable pub lowest_in : List ℕ → ℕ
lowest_in ws = first_from (has_in ws) capacity 0

-- ---- the set of the slots that have a property

-- the word of the k positions from i on, the lowest as its lowest digit
unfoldable pub word_of : (ℕ → Bool) → ℕ → ℕ → ℕ
word_of f zero i = 0
word_of f (suc k) i = bit (f i) + 2 * word_of f k (suc i)

unfoldable pub words_of : (ℕ → Bool) → ℕ → ℕ → List ℕ
words_of f zero i = []
words_of f (suc k) i = word_of f 64 i ∷ words_of f k (i + 64)

unfoldable pub set_of : (ℕ → Bool) → List ℕ
set_of f = words_of f set_words 0

-- no slot
abbrev pub none : List ℕ
none = set_of (λ i. false)

-- a set with a slot more, and with one less
abbrev pub plus : List ℕ → ℕ → List ℕ
plus ws s = set_of (λ i. has_in ws i || eqb i s)

abbrev pub minus : List ℕ → ℕ → List ℕ
minus ws s = set_of (λ i. has_in ws i && not (eqb i s))

-- ---- a set that stands within a longer list, as a slot's parents do in the table

-- k words from a place on; past the list's end they are 0
unfoldable pub words_from : List ℕ → ℕ → ℕ → List ℕ
words_from ws zero at = []
words_from ws (suc k) at = get_or ws at 0 ∷ words_from ws k (suc at)

unfoldable pub set_from : List ℕ → ℕ → List ℕ
set_from ws at = words_from ws set_words at
