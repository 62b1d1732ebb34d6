-- Document 01, "Numbers and refusals": what a call answers, the first true condition of a list, and the conditions that the
-- cluster calls share. Assumes nothing.
use Rattle.std.specs.Prelude.{ℕ, suc, Bool, cond, not, ◌&&◌, ◌||◌, List, [], ◌∷◌, length, eqb, ltb, ℤ, pos, negsuc, Result, Ok, Err}
use Rattle.std.specs.Int.Signed.{le_z}
use Rattle.lists.specs.Lists.{all_of, distinct}
use Rattle.txset.specs.Sets.{positions}
use Rattle.refusals.specs.declared.Reply.{Reply}
use Rattle.refusals.specs.declared.Refusal.{Refusal}
use Rattle.refusals.specs.declared.Refusal.TheVariants.{LengthsDiffer, TooManyMembers, OutOfRange, Cycle, NotAnOrder, TxidPresent, NoSlotFree, ClusterTooMany, ClusterTooLarge, TxidAbsent, RoomTooShort, TableIllFormed, InputIllFormed}

-- a line of the table: its number, and whether its condition holds
pub record Line : Type 0 where
  pub number : ℕ
  pub holds : Bool

abbrev pub line : ℕ → Bool → Line
line k b = record { number = k; holds = b }

-- the number of the first line whose condition holds, in the order of the list; "0 is success"
unfoldable pub answer_of : List Line → ℕ
answer_of [] = 0
answer_of (l ∷ ls) = cond l.holds l.number (answer_of ls)

-- a call's reply, of whatever it consists: `refused` of the first number that is given, else `done`
unfoldable pub reply_of : {R : Type 0} → (ℕ → R) → List Line → R → R
reply_of refused ls done = cond (eqb (answer_of ls) 0) done (refused (answer_of ls))

-- what lent memory holds after a call: `new` on success; after a refusal "all lent memory stays"
unfoldable pub kept_unless : {A : Type 0} → List Line → A → A → A
kept_unless ls old new = cond (eqb (answer_of ls) 0) new old

-- of the cluster calls: "A refusal returns its number and zero for all else"
abbrev pub refusal : ℕ → Reply
refusal k = record { answer = k; written = 0 }

-- "Success reports how many places it wrote from the room's start"
abbrev pub success : ℕ → Reply
success n = record { answer = 0; written = n }

-- "a definition gives this paper's number and values for each of the enum's cases": the number of each refusal
abbrev pub number_of : Refusal → ℕ
number_of LengthsDiffer = 1
number_of TooManyMembers = 2
number_of OutOfRange = 3
number_of Cycle = 4
number_of NotAnOrder = 5
number_of TxidPresent = 6
number_of NoSlotFree = 7
number_of ClusterTooMany = 8
number_of ClusterTooLarge = 9
number_of TxidAbsent = 10
number_of RoomTooShort = 11
number_of TableIllFormed = 12
number_of InputIllFormed = 13

-- the reply of a call that writes places
abbrev pub reply_from : Result ℕ Refusal → Reply
reply_from (Ok n) = success n
reply_from (Err r) = refusal (number_of r)

-- the answer of a call that writes none: "0 is success"
abbrev pub answer_from : {A : Type 0} → Result A Refusal → ℕ
answer_from (Ok a) = 0
answer_from (Err r) = number_of r

-- 1: "fees, sizes and parents differ in length": of two lengths, and of three
abbrev pub differ : ℕ → ℕ → Bool
differ m n = not (eqb m n)

abbrev pub differ₃ : ℕ → ℕ → ℕ → Bool
differ₃ m n k = differ m n || differ m k

-- 2: "more than 64 members"
abbrev pub too_many : ℕ → Bool
too_many n = ltb positions n

-- 11: "room shorter than the members"
abbrev pub short : ℕ → ℕ → Bool
short room n = ltb room n

-- "Cluster fee: -4,200,000,000,000,000 to 4,200,000,000,000,000."
unfoldable pub in_range : ℤ → Bool
in_range f = le_z (negsuc 4199999999999999) f && le_z f (pos 4200000000000000)

-- the lowest position whose fee is outside its range, or the number of fees
unfoldable pub first_outside : List ℤ → ℕ
first_outside [] = 0
first_outside (f ∷ fs) = cond (in_range f) (suc (first_outside fs)) 0

-- 3: "a number above is outside its range"
unfoldable pub any_outside : List ℤ → Bool
any_outside fs = ltb (first_outside fs) (length fs)

-- 5: "a given order is not each position once": an order has as many entries as there are members, each a position, none twice
unfoldable pub is_order : ℕ → List ℕ → Bool
is_order n order = eqb (length order) n && (all_of (λ p. ltb p n) order && distinct order)
