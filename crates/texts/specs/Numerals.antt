-- Document 01, "The cluster program": the decimals of a program's input, as lists of bytes. Assumes nothing.
use Rattle.std.specs.Prelude.{ℕ, ◌+◌, ◌-◌, ◌*◌, Bool, true, false, cond, not, ◌&&◌, ◌||◌, List, [], ◌∷◌, eqb, ltb, leb, ℤ, pos, negsuc, Option, Some, None}
use Rattle.lists.specs.Lists.{all_of}

abbrev pub is_nil : {A : Type 0} → List A → Bool
is_nil [] = true
is_nil (x ∷ xs) = false

-- "0" to "9"
abbrev pub is_digit : ℕ → Bool
is_digit b = leb 48 b && leb b 57

-- the number that digits spell, after those that spell `acc`
unfoldable pub value_from : ℕ → List ℕ → ℕ
value_from acc [] = acc
value_from acc (d ∷ ds) = value_from (10 * acc + (d - 48)) ds

-- "Plain decimals without extra zeros": digits, at least one, and no zero before another digit
unfoldable pub is_plain : List ℕ → Bool
is_plain [] = false
is_plain (d ∷ ds) = all_of is_digit (d ∷ ds) && (not (eqb d 48) || is_nil ds)

-- "others u64"
unfoldable pub number_of : List ℕ → Option ℕ
number_of ds = cond (is_plain ds && leb (value_from 0 ds) 18446744073709551615) (Some (value_from 0 ds)) None

-- "`-` only on a non-zero fee; fee i64"
abbrev pub negative : Option ℕ → Option ℤ
negative None = None
negative (Some v) = cond (ltb 0 v && leb v 9223372036854775808) (Some (negsuc (v - 1))) None

abbrev pub positive : Option ℕ → Option ℤ
positive None = None
positive (Some v) = cond (leb v 9223372036854775807) (Some (pos v)) None

unfoldable pub signed_of : List ℕ → Option ℤ
signed_of [] = None
signed_of (b ∷ bs) = cond (eqb b 45) (negative (number_of bs)) (positive (number_of (b ∷ bs)))

-- whether a number is of its form, and its value
abbrev pub is_number : Option ℕ → Bool
is_number (Some v) = true
is_number None = false

abbrev pub number_in : Option ℕ → ℕ
number_in (Some v) = v
number_in None = 0

-- whether some texts are all numbers
unfoldable pub are_numbers : List (List ℕ) → Bool
are_numbers ls = all_of (λ l. is_number (number_of l)) ls

abbrev pub is_signed : Option ℤ → Bool
is_signed (Some z) = true
is_signed None = false

abbrev pub signed_in : Option ℤ → ℤ
signed_in (Some z) = z
signed_in None = pos 0
