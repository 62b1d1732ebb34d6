-- What a reply tells: two outcomes with one reply, or one answer, are one outcome. Assumes nothing.
use Rattle.std.proofs.Common.{◌≡◌, ℕ, cond, Result, Ok, Err, refl, sym, ap, ◌∙◌}
use lib.Dec.{eqb}
use Rattle.refusals.specs.declared.Refusal.{Refusal}
use Rattle.refusals.specs.declared.Refusal.TheVariants.{LengthsDiffer, TooManyMembers, OutOfRange, Cycle, NotAnOrder, TxidPresent, NoSlotFree, ClusterTooMany, ClusterTooLarge, TxidAbsent, RoomTooShort, TableIllFormed, InputIllFormed}
use Rattle.refusals.specs.declared.Reply.{Reply}
use Rattle.refusals.specs.Refusals.{number_of, reply_from}

-- the refusal of a number
abbrev numbered : ℕ → Refusal
numbered n =
    cond (eqb n 1) LengthsDiffer (cond (eqb n 2) TooManyMembers (cond (eqb n 3) OutOfRange (cond (eqb n 4) Cycle
    (cond (eqb n 5) NotAnOrder (cond (eqb n 6) TxidPresent (cond (eqb n 7) NoSlotFree (cond (eqb n 8) ClusterTooMany
    (cond (eqb n 9) ClusterTooLarge (cond (eqb n 10) TxidAbsent (cond (eqb n 11) RoomTooShort (cond (eqb n 12) TableIllFormed InputIllFormed)))))))))))

numbered_back : (r : Refusal) → numbered (number_of r) ≡ r
numbered_back LengthsDiffer = refl
numbered_back TooManyMembers = refl
numbered_back OutOfRange = refl
numbered_back Cycle = refl
numbered_back NotAnOrder = refl
numbered_back TxidPresent = refl
numbered_back NoSlotFree = refl
numbered_back ClusterTooMany = refl
numbered_back ClusterTooLarge = refl
numbered_back TxidAbsent = refl
numbered_back RoomTooShort = refl
numbered_back TableIllFormed = refl
numbered_back InputIllFormed = refl

-- no two refusals have one number
pub number_one : (r s : Refusal) → number_of r ≡ number_of s → r ≡ s
number_one r s e = sym (numbered_back r) ∙ ap numbered e ∙ numbered_back s

-- what a reply says is read back
abbrev outcome : Reply → Result ℕ Refusal
outcome r = cond (eqb r.answer 0) (Ok r.written) (Err (numbered r.answer))

outcome_back : (r : Result ℕ Refusal) → outcome (reply_from r) ≡ r
outcome_back (Ok n) = refl
outcome_back (Err r) = elim r as (λ (s : Refusal). outcome (reply_from (Err s)) ≡ Err s) [
  | LengthsDiffer ↦ refl
  | TooManyMembers ↦ refl
  | OutOfRange ↦ refl
  | Cycle ↦ refl
  | NotAnOrder ↦ refl
  | TxidPresent ↦ refl
  | NoSlotFree ↦ refl
  | ClusterTooMany ↦ refl
  | ClusterTooLarge ↦ refl
  | TxidAbsent ↦ refl
  | RoomTooShort ↦ refl
  | TableIllFormed ↦ refl
  | InputIllFormed ↦ refl
]

-- two outcomes with one reply are one
pub reply_one : (r s : Result ℕ Refusal) → reply_from r ≡ reply_from s → r ≡ s
reply_one r s e = sym (outcome_back r) ∙ ap outcome e ∙ outcome_back s

-- no refusal has the number of success
pub no_success : (r : Refusal) → number_of r ≡ 0 → ⊥
no_success r e =
    let same : ◌≡◌ {A = Result ℕ Refusal} (Err r) (Ok 0) = reply_one (Err r) (Ok 0) (ap (λ (k : ℕ). record { answer = k; written = 0 }) e) in cc
