-- For readers: what a text that is too long, or decided, is read as shows at its start; and the contract of `read_cluster` allows one
-- answer. No proof of a function cites these. (That a number has one spelling is a theorem of texts.) Assumes nothing.
use mathlib.Core.Path.{◌≡◌, refl, sym, ap, subst, ◌∙◌}
use mathlib.Core.Bool.{Bool, true, false, cond, ◌&&◌, or-true}
use mathlib.Core.List.{List, ◌++◌}
use Prim.Native.Nat.{ℕ, ◌<◌}
use native.Mathlib.Omega.{arith}
use lib.Dec.{ltb}
use lib.ListN.{length, length-append}
use borrow.Author.Tests.{lt-ltb}
use Rattle.std.proofs.Common.{Result, Ok, Err}
use Rattle.refusals.proofs.Outcomes.{number_one}
use Rattle.lists.proofs.Bools.{clash}
use Rattle.txset.specs.Sets.{positions}
use Rattle.texts.specs.Numerals.{number_of, is_number, number_in}
use Rattle.texts.specs.Places.{before}
use Rattle.refusals.specs.declared.Refusal.{Refusal}
use Rattle.refusals.specs.declared.Refusal.TheVariants.{TooManyMembers, InputIllFormed}
use Rattle.cluster_reader.specs.Lines.{longest_text, is_field, value_of}
use Rattle.cluster_reader.specs.Reading.{n_key, read, Told, told, read_told, first_told}
use Rattle.cluster_reader.specs.Steps.{has_end}
use Rattle.cluster_reader.specs.Calls.{Decided, is_decided}
use Rattle.cluster_reader.proofs.Reading.{number_some, read_count, first_goes_on, count_open, refused_certain, refused_decided}
use Rattle.cluster_reader.proofs.Full.{count_full}

-- the first line gives a number or a refusal
record Said (t : Told) : Type 0 where
  which : Result ℕ Refusal
  is : t ≡ told which

said : (text : List ℕ) → Said (first_told text)
unfolding first_told
said text =
    let n = number_in (number_of (value_of n_key text)) in
    go (is_field n_key text && is_number (number_of (value_of n_key text))) (ltb positions n) n
  where
    go : (a b : Bool) (n : ℕ) → Said (cond a (cond b (told (Err TooManyMembers)) (told (Ok n))) (told (Err InputIllFormed)))
    go true true n = record { which = Err TooManyMembers; is = refl }
    go true false n = record { which = Ok n; is = refl }
    go false b n = record { which = Err InputIllFormed; is = refl }

-- "each line ended by a newline and at most 1,024 bytes before it": a start that is longer than all lines of the largest cluster decides,
-- so what stands behind it need not be read
pub full_decides : (start rest : List ℕ) → longest_text < length start → read (start ++ rest) ≡ read start
full_decides start rest l = let s = said start in go s.which s.is
  where
    certain : has_end start ≡ true
    certain = rw (lt-ltb 1024 (length start) (omega arith)) (or-true (ltb (length (before 10 start)) (length start)))

    go : (i : Result ℕ Refusal) → first_told start ≡ told i → read (start ++ rest) ≡ read start
    go (Ok n) h =
        let goes = first_goes_on start rest (read_count start n h).ends ∙ h in
        count_full (start ++ rest) n goes (omega (arith, length-append start rest)) ∙ sym (count_full start n h l)
    go (Err r) h = subst (Decided start) certain (refused_decided start r h) rest

-- and so does a start that is decided
pub decided_decides : (start rest : List ℕ) → is_decided start ≡ true → read (start ++ rest) ≡ read start
decided_decides start rest e = let s = said start in go s.which s.is
  where
    go : (i : Result ℕ Refusal) → first_told start ≡ told i → read (start ++ rest) ≡ read start
    go (Ok n) h = clash e (sym (count_open start n h))
    go (Err r) h = subst (Decided start) (refused_certain start r h ∙ e) (refused_decided start r h) rest

-- two answers that stand for the same are the same
pub told_unique : (i j : Result ℕ Refusal) → told i ≡ told j → i ≡ j
told_unique (Ok m) (Ok n) e = ap Ok (ap (λ (t : Told). t.count) e)
told_unique (Ok m) (Err r) e = absurd (omega (arith, ap (λ (t : Told). t.number) e, number_some r))
told_unique (Err r) (Ok n) e = absurd (omega (arith, ap (λ (t : Told). t.number) e, number_some r))
told_unique (Err r) (Err s) e = ap Err (number_one r s (ap (λ (t : Told). t.number) e))

-- so two answers that the contract of `read_cluster` allows are one
pub read_cluster_one : (text : List ℕ) {i j : Result ℕ Refusal} → told i ≡ read_told (read text) → told j ≡ read_told (read text) → i ≡ j
read_cluster_one text {i} {j} p q = told_unique i j (p ∙ sym q)
