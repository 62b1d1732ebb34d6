-- Whether words are all 0, from their digits together. Assumes nothing.
use mathlib.Core.Path.{◌≡◌, refl, sym, ap, ap₂, ◌∙◌}
use mathlib.Core.Bool.{Bool, true, false, ◌&&◌, and_assoc, and-true}
use mathlib.Core.List.{List}
use Prim.Native.Nat.{ℕ, suc, ◌+◌, ◌≤◌, ◌<◌}
use native.Mathlib.Numerals.{add-one}
use native.Mathlib.Omega.{arith}
use lib.Bits.{bit_or, or_zero_l, or_add_and, and_le_r}
use lib.Dec.{eqb}
use lib.ListN.{length, get_or, drop, drop_of_length-le}
use lib.Seq.{drop-cons}
use borrow.Author.Tests.{ne_eqb, eqb-true, eqb-false}
use Rattle.lists.specs.Lists.{all_of}
use Rattle.lists.proofs.Numbers.{flip}

-- two numbers have no digit together exactly where both are 0
or_zero : (a b : ℕ) → eqb (bit_or a b) 0 ≡ (eqb a 0 && eqb 0 b)
or_zero a b = go (eqb a 0) refl
  where
    go : (t : Bool) → eqb a 0 ≡ t → eqb (bit_or a b) 0 ≡ (t && eqb 0 b)
    go true e = ap (λ (n : ℕ). eqb n 0) (ap (λ (n : ℕ). bit_or n b) (eqb-true a 0 e) ∙ or_zero_l b) ∙ flip b 0
    go false e = ne_eqb (bit_or a b) 0 (λ z. eqb-false a 0 e (omega (arith, or_add_and a b, and_le_r a b)))

-- the words before k have the digits d, and those from k on are yet to be looked at: so for one word more
pub zeroed_more : (ws : List ℕ) (k d w : ℕ) → k < length ws → w ≡ get_or ws k 0
    → all_of (eqb 0) ws ≡ (eqb d 0 && all_of (eqb 0) (drop k ws)) → all_of (eqb 0) ws ≡ (eqb (bit_or d w) 0 && all_of (eqb 0) (drop (k + 1) ws))
unfolding all_of
zeroed_more ws k d w l e h =
    h
    ∙ ap (λ (vs : List ℕ). eqb d 0 && all_of (eqb 0) vs) (drop-cons ws k 0 l)
    ∙ sym (and_assoc (eqb d 0) (eqb 0 (get_or ws k 0)) (all_of (eqb 0) (drop (suc k) ws)))
    ∙ ap₂ (λ (b : Bool) (n : ℕ). b && all_of (eqb 0) (drop n ws)) (ap (λ (n : ℕ). eqb d 0 && eqb 0 n) (sym e) ∙ sym (or_zero d w)) (sym (add-one k))

-- all were looked at
pub zeroed_all : (ws : List ℕ) (k d : ℕ) → length ws ≤ k → all_of (eqb 0) ws ≡ (eqb d 0 && all_of (eqb 0) (drop k ws)) → eqb d 0 ≡ all_of (eqb 0) ws
unfolding all_of
zeroed_all ws k d l h =
    sym (h ∙ ap (λ (vs : List ℕ). eqb d 0 && all_of (eqb 0) vs) (drop_of_length-le ws l) ∙ and-true (eqb d 0))
