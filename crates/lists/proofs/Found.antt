-- Laws of `some_below`: what is below is found, what is not is not, and the other way round. Assumes nothing.
use Rattle.std.proofs.Common.{◌≡◌, ℕ, ◌<◌, ◌≤◌, Bool, cond, Option, Some, None, sym, ap, ◌∙◌}
use mathlib.Core.Logic.{⊎_elim}
use borrow.Author.Tests.{lt-ltb, le-ltb}
use Rattle.lists.specs.Below.{some_below}
use Rattle.lists.proofs.Numbers.{lt_or_ge}

pub found_below : (n i : ℕ) → i < n → some_below n i ≡ Some i
found_below n i h = ap (λ (b : Bool). cond b (Some i) None) (lt-ltb i n h)

pub none_past : (n i : ℕ) → n ≤ i → some_below n i ≡ None
none_past n i h = ap (λ (b : Bool). cond b (Some i) None) (le-ltb i n h)

-- what was found is the number, and below n
pub below_some : (n i j : ℕ) → some_below n i ≡ Some j → (i ≡ j) × (j < n)
below_some n i j e =
    ⊎_elim
    (λ l. let same : Some i ≡ Some j = sym (found_below n i l) ∙ e in let is : i ≡ j = cc in (is, rw (← is) l))
    (λ g. let clash : ◌≡◌ {A = Option ℕ} None (Some j) = sym (none_past n i g) ∙ e in absurd (cc))
    (lt_or_ge i n)

-- where none was found, the number is not below n
pub below_none : (n i : ℕ) → some_below n i ≡ None → n ≤ i
below_none n i e =
    ⊎_elim
    (λ l. let clash : Some i ≡ None = sym (found_below n i l) ∙ e in absurd (cc))
    (λ g. g)
    (lt_or_ge i n)
