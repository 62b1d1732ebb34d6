-- Lists tested element by element, lists of numbers with no number twice, and a room whose start is written anew. Assumes nothing.
use Rattle.std.specs.Prelude.{ℕ, max, Bool, true, false, not, ◌&&◌, ◌||◌, List, [], ◌∷◌, ◌++◌, eqb, length, drop}
use Rattle.lists.specs.Below.{keep_if}

-- whether some element has the property
unfoldable pub any_of : {A : Type 0} → (A → Bool) → List A → Bool
any_of f [] = false
any_of f (x ∷ xs) = f x || any_of f xs

-- whether each element has it
unfoldable pub all_of : {A : Type 0} → (A → Bool) → List A → Bool
all_of f [] = true
all_of f (x ∷ xs) = f x && all_of f xs

-- the elements that have it
unfoldable pub only : (ℕ → Bool) → List ℕ → List ℕ
only f [] = []
only f (x ∷ xs) = keep_if (f x) x (only f xs)

-- whether i is in the list
unfoldable pub elem : ℕ → List ℕ → Bool
elem i xs = any_of (eqb i) xs

-- whether no element comes twice
unfoldable pub distinct : List ℕ → Bool
distinct [] = true
distinct (x ∷ xs) = not (elem x xs) && distinct xs

-- the highest element, 0 of none
unfoldable pub highest_of : List ℕ → ℕ
highest_of [] = 0
highest_of (x ∷ xs) = max x (highest_of xs)

-- whether two lists are the same
unfoldable pub same : List ℕ → List ℕ → Bool
same [] [] = true
same [] (y ∷ ys) = false
same (x ∷ xs) [] = false
same (x ∷ xs) (y ∷ ys) = eqb x y && same xs ys

-- a room once `new` was written at its start: the rest is as it was
abbrev pub overwrite : {A : Type 0} → List A → List A → List A
overwrite new room = new ++ drop (length new) room
