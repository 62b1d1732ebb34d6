-- The places of a byte in a text, and the parts between them. Assumes nothing.
use Rattle.std.specs.Prelude.{ℕ, suc, ◌+◌, cond, List, [], ◌∷◌, ◌++◌, eqb, length, drop}

-- what stands before the first byte b, and behind it
unfoldable pub before : ℕ → List ℕ → List ℕ
before b [] = []
before b (x ∷ xs) = cond (eqb x b) [] (x ∷ before b xs)

unfoldable pub behind : ℕ → List ℕ → List ℕ
behind b xs = drop (suc (length (before b xs))) xs

-- the place of the first byte b from there on, or the end
abbrev pub place_of : ℕ → List ℕ → ℕ → ℕ
place_of b text from = from + length (before b (drop from text))

-- a list cut at each byte b: one part more than there are such bytes. (`part` is what the first part has so far)
unfoldable pub split_from : ℕ → List ℕ → List ℕ → List (List ℕ)
split_from b part [] = part ∷ []
split_from b part (x ∷ xs) = cond (eqb x b) (part ∷ split_from b [] xs) (split_from b (part ++ (x ∷ [])) xs)

abbrev pub split : ℕ → List ℕ → List (List ℕ)
split b xs = split_from b [] xs
