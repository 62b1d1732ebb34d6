-- The digits that the kit writes are those of the document, and there are at most twenty. Assumes nothing.
use mathlib.Core.Path.{◌≡◌}
use mathlib.Core.Bool.{true}
use mathlib.Core.List.{[], ◌∷◌, ◌++◌, List}
use Prim.Native.Nat.{ℕ, zero, suc, ◌+◌, ◌-◌, ◌*◌, ◌/◌, ◌%◌, ◌^◌, ◌≤◌, ◌<◌}
use native.Mathlib.Nat.{pow-suc, one-le-pow, pow-le-pow_right}
use native.Mathlib.Omega.{arith}
use lib.Dec.{ltb}
use lib.ListN.{length, length-append}
use borrow.Author.Tests.{lt-ltb, le-ltb}
use mathlib.Core.Logic.{⊎_elim}
use Rattle.lists.proofs.Bools.{cond_where}
use Rattle.lists.proofs.Numbers.{lt_or_ge}
use Rattle.io.specs.Digits.{last_digits, IsDigitCount}
use Rattle.texts.specs.Writing.{decimal_from, decimal}

last_digit : (n : ℕ) → ltb (n % 10) 10 ≡ true
last_digit n = lt-ltb (n % 10) 10 (omega arith)

-- a number of two digits or more, and its tenth
module _ (n k : ℕ) (f : IsDigitCount 10 1 n (suc (suc k))) where
  high : 10 ^ k * 10 ≤ n
  high =
      let e : suc (suc k) - 1 ≡ suc k = omega arith in
      rw (e, pow-suc) at (f.2 (omega arith))

  ten : 10 ≤ n
  ten = omega (arith, high, one-le-pow k 10 (omega arith))

  tenth : IsDigitCount 10 1 (n / 10) (suc k)
  tenth =
      let e : suc k - 1 ≡ k = omega arith in
      (omega arith, omega (arith, f.1, pow-suc 10 (suc k)), λ h. rw e (omega (arith, high)))

from_digits : (fuel n k : ℕ) → k ≤ fuel → IsDigitCount 10 1 n k → decimal_from fuel n ≡ last_digits 10 k n
unfolding decimal_from
from_digits zero n k h f = absurd (omega (arith, f.0))
from_digits (suc fuel) n zero h f = absurd (omega (arith, f.0))
from_digits (suc fuel) n (suc zero) h f = rw (lt-ltb n 10 f.1, last_digit n)
from_digits (suc fuel) n (suc (suc k)) h f =
    rw (le-ltb n 10 (ten n k f), last_digit n, from_digits fuel (n / 10) (suc k) (omega arith) (tenth n k f))

-- a u64 has at most twenty
few_digits : (n k : ℕ) → n < 2 ^ 64 → IsDigitCount 10 1 n k → k ≤ 20
few_digits n k h f =
    ⊎_elim
    (λ l. absurd (omega (arith, f.2 (omega arith), pow-le-pow_right {n = 10} (omega arith) {i = 20} {j = k - 1} (omega arith))))
    (λ l. l)
    (lt_or_ge 20 k)

-- the fewest digits of a u64 are its decimal
pub decimal_digits : (n k : ℕ) → n < 2 ^ 64 → IsDigitCount 10 1 n k → decimal n ≡ last_digits 10 k n
unfolding decimal
decimal_digits n k h f = from_digits 20 n k (few_digits n k h f) f

length_from : (fuel n : ℕ) → length (decimal_from fuel n) ≤ fuel
unfolding decimal_from
length_from zero n = omega arith
length_from (suc fuel) n =
    let ds = decimal_from fuel (n / 10) in
    cond_where (λ (l : List ℕ). length (l ++ ((48 + n % 10) ∷ [])) ≤ suc fuel) (ltb n 10) (λ _. omega arith)
    (λ _. omega (arith, length_from fuel (n / 10), length-append ds ((48 + n % 10) ∷ [])))

-- a decimal has at most twenty bytes
pub decimal_length : (n : ℕ) → length (decimal n) ≤ 20
unfolding decimal
decimal_length n = length_from 20 n
