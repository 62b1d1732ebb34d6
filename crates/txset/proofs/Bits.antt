-- The binary digits of one number, over any width k. Assumes nothing.
use mathlib.Core.Path.{◌≡◌, refl, sym, ap, ap₂, ◌∙◌, subst}
use mathlib.Core.Bool.{Bool, true, false, cond, not, ◌&&◌, ◌||◌, and-true, and_self}
use mathlib.Core.Logic.{⊎_elim}
use Prim.Native.Nat.{ℕ, zero, suc, ◌+◌, ◌-◌, ◌*◌, ◌/◌, ◌%◌, ◌^◌, ◌≤◌, ◌<◌}
use native.Mathlib.Nat.{div-div-eq-div-mul, pow-succ', div-one, div-eq_of_lt, lt_of_lt_of_le, one-mul, mod-eq_of_lt, sub-zero}
use native.Mathlib.Numerals.{one-add}
use native.Mathlib.Omega.{arith}
use lib.Pow.{pow_mono, pow_pos, pow-lt}
use lib.Dec.{eqb, ltb, eqb-suc-suc, eqb-suc-zero}
use lib.Bits.{bit_and, bit_or, and_shr, or_shr, and_mod, or_mod, and_mask}
use lib.Count.{ones, ones_step, count_trailing_zeros, under}
use borrow.Author.Tests.{ne_eqb, eq-eqb, lt-ltb, le-ltb, not-false}
use Rattle.lists.specs.Below.{bit, any_from, count_from, first_from}
use Rattle.txset.specs.Sets.{has}
use Rattle.lists.proofs.Bools.{clash, cases}
use Rattle.lists.proofs.Below.{count_shift, count_ext, first_shift, first_ext, none_at, First, first_is, first_has, first_below}
use Rattle.lists.proofs.Numbers.{lt_or_ge}

-- a digit of one place: what the operations give there
or_digit : (x y : ℕ) → x < 2 → y < 2 → eqb (bit_or x y) 1 ≡ (eqb x 1 || eqb y 1)
or_digit zero zero h k = refl
or_digit zero (suc zero) h k = refl
or_digit (suc zero) zero h k = refl
or_digit (suc zero) (suc zero) h k = refl
or_digit (suc (suc x)) y h k = absurd (omega arith)
or_digit zero (suc (suc y)) h k = absurd (omega arith)
or_digit (suc zero) (suc (suc y)) h k = absurd (omega arith)

and_digit : (x y : ℕ) → x < 2 → y < 2 → eqb (bit_and x y) 1 ≡ (eqb x 1 && eqb y 1)
and_digit zero zero h k = refl
and_digit zero (suc zero) h k = refl
and_digit (suc zero) zero h k = refl
and_digit (suc zero) (suc zero) h k = refl
and_digit (suc (suc x)) y h k = absurd (omega arith)
and_digit zero (suc (suc y)) h k = absurd (omega arith)
and_digit (suc zero) (suc (suc y)) h k = absurd (omega arith)

-- the digit itself, its complement and the zeros under it, from whether it is 1
pub record Digit (x : ℕ) : Type 0 where
  pub value : x ≡ bit (eqb x 1)
  pub other : eqb (1 - x) 1 ≡ not (eqb x 1)
  pub zeros : (t : ℕ) → under x t ≡ cond (eqb x 1) 0 (suc t)

digit : (x : ℕ) → x < 2 → Digit x
digit zero h = record { value = refl; other = refl; zeros = λ t. refl }
digit (suc zero) h = record { value = refl; other = refl; zeros = λ t. refl }
digit (suc (suc x)) h = absurd (omega arith)

-- ---- or, and

pub has_or : (a b i : ℕ) → has (bit_or a b) i ≡ (has a i || has b i)
unfolding has
has_or a b i =
    ap (λ (n : ℕ). eqb (n % 2) 1) (or_shr a b i) ∙ ap (λ (n : ℕ). eqb n 1) (or_mod (a / 2 ^ i) (b / 2 ^ i) 1)
    ∙ or_digit (a / 2 ^ i % 2) (b / 2 ^ i % 2) (omega arith) (omega arith)

pub has_and : (a b i : ℕ) → has (bit_and a b) i ≡ (has a i && has b i)
unfolding has
has_and a b i =
    ap (λ (n : ℕ). eqb (n % 2) 1) (and_shr a b i) ∙ ap (λ (n : ℕ). eqb n 1) (and_mod (a / 2 ^ i) (b / 2 ^ i) 1)
    ∙ and_digit (a / 2 ^ i % 2) (b / 2 ^ i % 2) (omega arith) (omega arith)

-- ---- the lowest digit, and the digits above it

pub has_low : (a : ℕ) → has a 0 ≡ eqb (a % 2) 1
unfolding has
has_low a = ap (λ (n : ℕ). eqb (n % 2) 1) (div-one a)

low_digit : (a : ℕ) → a % 2 ≡ bit (has a 0)
low_digit a = (digit (a % 2) (omega arith)).value ∙ ap bit (sym (has_low a))

pub has_suc : (a i : ℕ) → has a (suc i) ≡ has (a / 2) i
unfolding has
has_suc a i = ap (λ (n : ℕ). eqb (a / n % 2) 1) (pow-succ' 2 i) ∙ ap (λ (n : ℕ). eqb (n % 2) 1) (sym (div-div-eq-div-mul a 2 (2 ^ i)))

has_over : (a i : ℕ) → has a (1 + i) ≡ has (a / 2) i
has_over a i = ap (has a) (one-add i) ∙ has_suc a i

-- what a shift and a mask read
pub has_shift : (a i : ℕ) → eqb (bit_and (a / 2 ^ i) 1) 1 ≡ has a i
unfolding has
has_shift a i = ap (λ (n : ℕ). eqb n 1) (and_mask (a / 2 ^ i) 1)

-- ---- no digit past the width, none of 0, the complement within the width

pub has_past : (k i a : ℕ) → a < 2 ^ k → k ≤ i → has a i ≡ false
unfolding has
has_past k i a h l = ap (λ (n : ℕ). eqb (n % 2) 1) (div-eq_of_lt (lt_of_lt_of_le h (pow_mono l)))

pub has_nil : (i : ℕ) → has 0 i ≡ false
has_nil i = has_past 0 i 0 (omega arith) (omega arith)

pub has_not : (k i b : ℕ) → b < 2 ^ k → i < k → has ((2 ^ k - 1) - b) i ≡ not (has b i)
has_not zero i b h l = absurd (omega arith)
has_not (suc k) zero b h l =
    let g : b < 2 * 2 ^ k = rw (pow-succ' 2 k) at h in
    let e : ((2 * 2 ^ k - 1) - b) % 2 ≡ 1 - b % 2 = omega arith in
    rw (has_low ((2 ^ suc k - 1) - b), has_low b, pow-succ' 2 k) (ap (λ (n : ℕ). eqb n 1) e ∙ (digit (b % 2) (omega arith)).other)
has_not (suc k) (suc i) b h l =
    let g : b < 2 * 2 ^ k = rw (pow-succ' 2 k) at h in
    let e : ((2 * 2 ^ k - 1) - b) / 2 ≡ (2 ^ k - 1) - b / 2 = omega arith in
    rw (has_suc ((2 ^ suc k - 1) - b) i, has_suc b i, pow-succ' 2 k, e) (has_not k i (b / 2) (omega arith) (omega arith))

-- the digits of a that b, of width k, lacks
pub has_less : (k i a b : ℕ) → a < 2 ^ k → b < 2 ^ k → has (bit_and a ((2 ^ k - 1) - b)) i ≡ (has a i && not (has b i))
has_less k i a b ha hb =
    has_and a ((2 ^ k - 1) - b) i
    ∙ ⊎_elim (λ l. ap (λ (t : Bool). has a i && t) (has_not k i b hb l)) (λ l. rw (has_past k i a ha l)) (lt_or_ge i k)

-- ---- the powers of 2: one digit; one less: the digits below

pub has_pow : (k i : ℕ) → has (2 ^ k) i ≡ eqb i k
has_pow zero zero = has_low 1
has_pow zero (suc i) = has_suc 1 i ∙ has_nil i ∙ sym (ne_eqb (suc i) 0 (λ e. omega arith))
has_pow (suc k) zero =
    let e : 2 * 2 ^ k % 2 ≡ 0 = omega arith in
    has_low (2 ^ suc k) ∙ rw (pow-succ' 2 k, e) (sym (ne_eqb 0 (suc k) (λ z. omega arith)))
has_pow (suc k) (suc i) =
    let e : 2 * 2 ^ k / 2 ≡ 2 ^ k = omega arith in
    has_suc (2 ^ suc k) i ∙ rw (pow-succ' 2 k, e) (has_pow k i ∙ sym (eqb-suc-suc i k))

pub has_below : (n i : ℕ) → has (2 ^ n - 1) i ≡ ltb i n
has_below n i =
    let p : 0 < 2 ^ n = pow_pos n in
    ⊎_elim
    (λ l. ap (λ (m : ℕ). has m i) (sym (sub-zero (2 ^ n - 1))) ∙ has_not n i 0 p l ∙ ap not (has_nil i) ∙ sym (lt-ltb i n l))
    (λ l. has_past n i (2 ^ n - 1) (omega arith) l ∙ sym (le-ltb i n l))
    (lt_or_ge i n)

-- a 1 shifted within the width is a power of 2
pub one_shifted : (k n : ℕ) → n < k → 1 * 2 ^ n % 2 ^ k ≡ 2 ^ n
one_shifted k n l = mod-eq_of_lt (subst (λ (m : ℕ). m < 2 ^ k) (sym (one-mul (2 ^ n))) (pow-lt l)) ∙ one-mul (2 ^ n)

-- ---- a number is its digits

-- two numbers of width k with the same digits are equal
pub has_ext : (k a b : ℕ) → a < 2 ^ k → b < 2 ^ k → ((i : ℕ) → i < k → has a i ≡ has b i) → a ≡ b
has_ext zero a b ha hb h = omega arith
has_ext (suc k) a b ha hb h =
    let ga : a < 2 * 2 ^ k = rw (pow-succ' 2 k) at ha in
    let gb : b < 2 * 2 ^ k = rw (pow-succ' 2 k) at hb in
    let low : a % 2 ≡ b % 2 = low_digit a ∙ ap bit (h 0 (omega arith)) ∙ sym (low_digit b) in
    let high : a / 2 ≡ b / 2 =
    has_ext k (a / 2) (b / 2) (omega arith) (omega arith)
    (λ i l. sym (has_suc a i) ∙ h (suc i) (omega arith) ∙ has_suc b i) in
    omega arith

-- it is 0 exactly if it has no digit
pub zero_any : (k a : ℕ) → a < 2 ^ k → eqb a 0 ≡ not (any_from (has a) k 0)
zero_any k a h =
    let p = first_from (has a) k 0 in
    cases (any_from (has a) k 0)
    (λ e. rw e (ne_eqb a 0 (λ z. clash (first_has (has a) k 0 e) (ap (λ (n : ℕ). has n p) z ∙ has_nil p))))
    (λ e. rw e (eq-eqb a 0 (has_ext k a 0 h (pow_pos k) (λ i l. none_at (has a) k 0 e i (omega arith) (omega arith) ∙ sym (has_nil i)))))

-- ---- counts of digits

-- the set digits are as many as there are
pub ones_count : (k a : ℕ) → a < 2 ^ k → ones a ≡ count_from (has a) k 0
unfolding ones count_from
ones_count zero a h = let e : a ≡ 0 = omega arith in ap ones e
ones_count (suc k) a h =
    let g : a < 2 * 2 ^ k = rw (pow-succ' 2 k) at h in
    ones_step a
    ∙ ap₂ ◌+◌ (low_digit a)
    (ones_count k (a / 2) (omega arith)
    ∙ sym (count_shift (has a) 1 k 0 ∙ count_ext (λ j. has a (1 + j)) (has (a / 2)) k 0 (λ j p q. has_over a j)))

-- the zeros at the low end are as many as the first digit's place
pub trailing_first : (k a : ℕ) → count_trailing_zeros k a ≡ first_from (has a) k 0
unfolding count_trailing_zeros first_from
trailing_first zero a = refl
trailing_first (suc k) a =
    (digit (a % 2) (omega arith)).zeros (count_trailing_zeros k (a / 2))
    ∙ ap₂ (λ (b : Bool) (n : ℕ). cond b 0 n) (sym (has_low a))
    (ap suc (trailing_first k (a / 2))
    ∙ sym
    (first_shift (has a) 1 k 0
    ∙ ap (λ (n : ℕ). 1 + n) (first_ext (λ j. has a (1 + j)) (has (a / 2)) k 0 (λ j p q. has_over a j))
    ∙ one-add (first_from (has (a / 2)) k 0)))

-- so they are the first digit's place, and below the width where there is a digit
pub trailing_is : (k a : ℕ) → First (has a) k 0 (count_trailing_zeros k a)
trailing_is k a = subst (First (has a) k 0) (sym (trailing_first k a)) (first_is (has a) k 0)

pub trailing_lt : (k a : ℕ) → a < 2 ^ k → eqb a 0 ≡ false → count_trailing_zeros k a < k
trailing_lt k a h e =
    let l : first_from (has a) k 0 < 0 + k = first_below (has a) k 0 (not-false (any_from (has a) k 0) (sym (zero_any k a h) ∙ e)) in
    omega (arith, trailing_first k a)

-- ---- the lowest digit taken away

-- a and a - 1 have the same digits above the lowest, p, of a, and not both have p
pub has_clear : (p a i : ℕ) → has a p ≡ true → ((j : ℕ) → j < p → has a j ≡ false) → has (bit_and a (a - 1)) i ≡ (has a i && not (eqb i p))
has_clear zero a zero h n =
    let o : a % 2 ≡ 1 = low_digit a ∙ ap bit h in
    let e : (a - 1) % 2 ≡ 0 = omega arith in
    has_and a (a - 1) 0 ∙ ap (λ (b : Bool). has a 0 && b) (has_low (a - 1) ∙ ap (λ (m : ℕ). eqb m 1) e)
has_clear zero a (suc i) h n =
    let o : a % 2 ≡ 1 = low_digit a ∙ ap bit h in
    let e : (a - 1) / 2 ≡ a / 2 = omega arith in
    has_and a (a - 1) (suc i)
    ∙ ap (λ (b : Bool). has a (suc i) && b) (has_suc (a - 1) i ∙ ap (λ (m : ℕ). has m i) e ∙ sym (has_suc a i))
    ∙ and_self (has a (suc i)) ∙ sym (and-true (has a (suc i)))
    ∙ ap (λ (b : Bool). has a (suc i) && not b) (sym (eqb-suc-zero i))
has_clear (suc p) a zero h n =
    let z : has a 0 ≡ false = n 0 (omega arith) in
    has_and a (a - 1) 0 ∙ ap (λ (b : Bool). b && has (a - 1) 0) z ∙ ap (λ (b : Bool). b && not (eqb 0 (suc p))) (sym z)
has_clear (suc p) a (suc i) h n =
    let o : a % 2 ≡ 0 = low_digit a ∙ ap bit (n 0 (omega arith)) in
    let e : (a - 1) / 2 ≡ a / 2 - 1 = omega arith in
    has_and a (a - 1) (suc i)
    ∙ ap₂ ◌&&◌ (has_suc a i) (has_suc (a - 1) i ∙ ap (λ (m : ℕ). has m i) e)
    ∙ sym (has_and (a / 2) (a / 2 - 1) i)
    ∙ has_clear p (a / 2) i (sym (has_suc a p) ∙ h) (λ j l. sym (has_suc a j) ∙ n (suc j) (omega arith))
    ∙ ap₂ (λ (b c : Bool). b && not c) (sym (has_suc a i)) (sym (eqb-suc-suc i p))
