-- A property of the numbers of a range: how many have it, whether any or all have it, which is the first, which they are.
-- Each definition looks at the numbers i, i + 1, .., i + k - 1 in this order. Assumes nothing.
use Rattle.std.specs.Prelude.{ℕ, zero, suc, ◌+◌, Bool, true, false, cond, ◌&&◌, ◌||◌, List, [], ◌∷◌, ltb, Option, Some, None}

-- the list with one more at its head where the test holds
abbrev pub keep_if : {A : Type 0} → Bool → A → List A → List A
keep_if true x xs = x ∷ xs
keep_if false x xs = xs

-- 1 for what holds, 0 for what does not
abbrev pub bit : Bool → ℕ
bit true = 1
bit false = 0

-- whether any has it
unfoldable pub any_from : (ℕ → Bool) → ℕ → ℕ → Bool
any_from f zero i = false
any_from f (suc k) i = f i || any_from f k (suc i)

-- whether all have it
unfoldable pub all_from : (ℕ → Bool) → ℕ → ℕ → Bool
all_from f zero i = true
all_from f (suc k) i = f i && all_from f k (suc i)

-- how many have it
unfoldable pub count_from : (ℕ → Bool) → ℕ → ℕ → ℕ
count_from f zero i = 0
count_from f (suc k) i = bit (f i) + count_from f k (suc i)

-- the first that has it, or i + k where none has
unfoldable pub first_from : (ℕ → Bool) → ℕ → ℕ → ℕ
first_from f zero i = i
first_from f (suc k) i = cond (f i) i (first_from f k (suc i))

-- those that have it, upwards
unfoldable pub list_from : (ℕ → Bool) → ℕ → ℕ → List ℕ
list_from f zero i = []
list_from f (suc k) i = keep_if (f i) i (list_from f k (suc i))

-- a number below n as one that was found; what is not below n says that none was
abbrev pub some_below : ℕ → ℕ → Option ℕ
some_below n i = cond (ltb i n) (Some i) None
