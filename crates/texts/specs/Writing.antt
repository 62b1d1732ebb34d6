-- Numbers as programs print them, several things with commas between them, and a line. Assumes nothing.
use Rattle.std.specs.Prelude.{ℕ, zero, suc, ◌+◌, ◌/◌, ◌%◌, cond, List, [], ◌∷◌, ◌++◌, eqb, ltb, ℤ, pos, negsuc}

-- a number in decimal: its last digit behind the digits of its tenth. (`fuel` is the most digits that there can be: 20 for a u64)
unfoldable pub decimal_from : ℕ → ℕ → List ℕ
decimal_from zero n = []
decimal_from (suc fuel) n = cond (ltb n 10) [] (decimal_from fuel (n / 10)) ++ ((48 + n % 10) ∷ [])

unfoldable pub decimal : ℕ → List ℕ
decimal n = decimal_from 20 n

-- a minus sign in front of a number below zero
unfoldable pub signed : ℤ → List ℕ
signed (pos n) = decimal n
signed (negsuc n) = 45 ∷ decimal (suc n)

-- what f prints of each, with commas between them; numbers so
unfoldable pub joined : (ℕ → List ℕ) → List ℕ → List ℕ
joined f [] = []
joined f (x ∷ []) = f x
joined f (x ∷ y ∷ xs) = f x ++ (44 ∷ joined f (y ∷ xs))

abbrev pub commas : List ℕ → List ℕ
commas xs = joined decimal xs

-- the k-th of them, with the comma in front of it
unfoldable pub item : (ℕ → List ℕ) → ℕ → ℕ → List ℕ
item f k n = cond (eqb k 0) (f n) (44 ∷ f n)

-- a line: its key, its value, a newline
abbrev pub text_line : List ℕ → List ℕ → List ℕ
text_line key value = key ++ (value ++ (10 ∷ []))
