-- Document 01, "The cluster program": what it reads. "`n=`, then for each position `fee=`, `size=`, `parents=` (commas, may be empty,
-- repeats count once)". Assumes nothing.
use Rattle.std.specs.Prelude.{ℕ, zero, suc, ◌^◌, Bool, cond, ◌&&◌, List, [], ◌∷◌, ◌++◌, ltb, ℤ, length, Result, Ok, Err}
use Rattle.std.specs.Int.Bits.{bit_or}
use Rattle.txset.specs.Sets.{positions}
use Rattle.texts.specs.Numerals.{is_nil, number_of, is_number, number_in, are_numbers, signed_of, is_signed, signed_in}
use Rattle.texts.specs.Places.{behind, split}
use Rattle.refusals.specs.declared.Refusal.{Refusal}
use Rattle.refusals.specs.declared.Refusal.TheVariants.{TooManyMembers, InputIllFormed}
use Rattle.refusals.specs.Refusals.{number_of as refusal_number}
use Rattle.cluster_reader.specs.Lines.{is_field, value_of}

-- the keys, as bytes: "n=", "fee=", "size=", "parents="
abbrev pub n_key : List ℕ
n_key = 110 ∷ 61 ∷ []

abbrev pub fee_key : List ℕ
fee_key = 102 ∷ 101 ∷ 101 ∷ 61 ∷ []

abbrev pub size_key : List ℕ
size_key = 115 ∷ 105 ∷ 122 ∷ 101 ∷ 61 ∷ []

abbrev pub parents_key : List ℕ
parents_key = 112 ∷ 97 ∷ 114 ∷ 101 ∷ 110 ∷ 116 ∷ 115 ∷ 61 ∷ []

-- "commas, may be empty": the parts of a list that is not empty, cut at its commas (byte 44)
unfoldable pub parts : List ℕ → List (List ℕ)
parts [] = []
parts (b ∷ bs) = split 44 (b ∷ bs)

-- "repeats count once": the set of the positions named, as a word; a position that no set can hold is left out
unfoldable pub word_of : ℕ → List (List ℕ) → ℕ
word_of w [] = w
word_of w (l ∷ ls) = word_of (cond (ltb (number_in (number_of l)) positions) (bit_or w (2 ^ number_in (number_of l))) w) ls

-- whether a text starts with the three lines of a member
unfoldable pub is_member : List ℕ → Bool
is_member xs =
    (is_field fee_key xs && is_signed (signed_of (value_of fee_key xs)))
    && ((is_field size_key (behind 10 xs) && is_number (number_of (value_of size_key (behind 10 xs))))
    && (is_field parents_key (behind 10 (behind 10 xs)) && are_numbers (parts (value_of parents_key (behind 10 (behind 10 xs))))))

-- what the three lines say
abbrev pub member_fee : List ℕ → ℤ
member_fee xs = signed_in (signed_of (value_of fee_key xs))

abbrev pub member_size : List ℕ → ℕ
member_size xs = number_in (number_of (value_of size_key (behind 10 xs)))

abbrev pub member_parents : List ℕ → ℕ
member_parents xs = word_of 0 (parts (value_of parents_key (behind 10 (behind 10 xs))))

abbrev pub next_member : List ℕ → List ℕ
next_member xs = behind 10 (behind 10 (behind 10 xs))

-- what was read: a refusal's number, or the members
pub data Read : Type 0 where
  refused : ℕ → Read
  cluster : List ℤ → List ℕ → List ℕ → Read

-- k members more, "anything after the last line is 13"
unfoldable pub members : ℕ → List ℕ → List ℤ → List ℕ → List ℕ → Read
members zero xs fs ss ps = cond (is_nil xs) (cluster fs ss ps) (refused 13)
members (suc k) xs fs ss ps =
    cond (is_member xs)
    (members k (next_member xs) (fs ++ (member_fee xs ∷ [])) (ss ++ (member_size xs ∷ [])) (ps ++ (member_parents xs ∷ [])))
    (refused 13)

-- "An n above 64 gives 2 without reading on."
unfoldable pub read : List ℕ → Read
read xs =
    cond (is_field n_key xs && is_number (number_of (value_of n_key xs)))
    (cond (ltb positions (number_in (number_of (value_of n_key xs)))) (refused 2) (members (number_in (number_of (value_of n_key xs))) (behind 10 xs) [] [] []))
    (refused 13)

-- ---- the same as an answer: "Whenever an answer is an enum, a definition gives this paper's number and values for each of the enum's
-- cases."

-- the number of the answer, and how many members there are; "A refusal returns its number and zero for all else"
pub record Told : Type 0 where
  pub number : ℕ
  pub count : ℕ

-- what each case of the answer stands for
abbrev pub told : Result ℕ Refusal → Told
told (Ok n) = record { number = 0; count = n }
told (Err r) = record { number = refusal_number r; count = 0 }

-- what a text that was read so is answered with
abbrev pub read_told : Read → Told
read_told (refused k) = record { number = k; count = 0 }
read_told (cluster fs ss ps) = record { number = 0; count = length fs }

-- what the first line alone says
unfoldable pub first_told : List ℕ → Told
first_told xs =
    cond (is_field n_key xs && is_number (number_of (value_of n_key xs)))
    (cond (ltb positions (number_in (number_of (value_of n_key xs)))) (told (Err TooManyMembers)) (told (Ok (number_in (number_of (value_of n_key xs))))))
    (told (Err InputIllFormed))
