-- Laws of specs/SlotSets.antt: the words of the positions that have a property, and words that stand within a longer list. Assumes nothing.
use mathlib.Core.Path.{◌≡◌, refl, sym, ap, ap₂, ◌∙◌}
use mathlib.Core.Bool.{Bool, true, false, ◌&&◌}
use mathlib.Core.Logic.{⊎_elim}
use mathlib.Core.List.{List, ◌∷◌}
use Prim.Native.Nat.{ℕ, zero, suc, ◌+◌, ◌*◌, ◌/◌, ◌%◌, ◌^◌, ◌≤◌, ◌<◌}
use native.Mathlib.Nat.{pow-succ', add-zero}
use native.Mathlib.Omega.{arith}
use lib.Dec.{lit<, eqb, ltb}
use lib.ListN.{length, get_or, replicate}
use lib.Seq.{ext_get_or}
use borrow.Author.Tests.{lt-ltb, le-ltb}
use Rattle.lists.specs.Below.{bit}
use Rattle.lists.proofs.Numbers.{lt_or_ge}
use Rattle.txset.specs.Sets.{has, has_in}
use Rattle.txset.proofs.Bits.{has_ext, has_low, has_suc}
use Rattle.txset.proofs.Words.{Fits, has_in_past}
use Rattle.slotsets.specs.SlotSets.{capacity, set_words, word_of, words_of, set_of, none, words_from, set_from}
use Rattle.slotsets.proofs.Words.{word_in}

-- ---- one word of a property

bit_low : (b : Bool) (w : ℕ) → eqb ((bit b + 2 * w) % 2) 1 ≡ b
bit_low true w = let e : (1 + 2 * w) % 2 ≡ 1 = omega arith in ap (λ (n : ℕ). eqb n 1) e
bit_low false w = let e : (0 + 2 * w) % 2 ≡ 0 = omega arith in ap (λ (n : ℕ). eqb n 1) e

bit_high : (b : Bool) (w : ℕ) → (bit b + 2 * w) / 2 ≡ w
bit_high true w = omega arith
bit_high false w = omega arith

bit_fits : (b : Bool) (w m : ℕ) → w < m → bit b + 2 * w < 2 * m
bit_fits true w m h = omega arith
bit_fits false w m h = omega arith

-- its digits are the property
pub has_word : (f : ℕ → Bool) (k i d : ℕ) → d < k → has (word_of f k i) d ≡ f (i + d)
unfolding word_of
has_word f zero i d l = absurd (omega arith)
has_word f (suc k) i zero l = has_low (word_of f (suc k) i) ∙ bit_low (f i) (word_of f k (suc i)) ∙ ap f (sym (add-zero i))
has_word f (suc k) i (suc d) l =
    let e : suc i + d ≡ i + suc d = omega arith in
    has_suc (word_of f (suc k) i) d ∙ ap (λ (w : ℕ). has w d) (bit_high (f i) (word_of f k (suc i))) ∙ has_word f k (suc i) d (omega arith) ∙ ap f e

pub word_fits : (f : ℕ → Bool) (k i : ℕ) → word_of f k i < 2 ^ k
unfolding word_of
word_fits f zero i = lit< tt
word_fits f (suc k) i = rw (pow-succ' 2 k) (bit_fits (f i) (word_of f k (suc i)) (2 ^ k) (word_fits f k (suc i)))

-- ---- its words

pub length_of : (f : ℕ → Bool) (k i : ℕ) → length (words_of f k i) ≡ k
unfolding words_of
length_of f zero i = refl
length_of f (suc k) i = ap suc (length_of f k (i + 64))

pub get_d_of : (f : ℕ → Bool) (k i j : ℕ) → j < k → get_or (words_of f k i) j 0 ≡ word_of f 64 (i + 64 * j)
unfolding words_of
get_d_of f zero i j l = absurd (omega arith)
get_d_of f (suc k) i zero l = ap (word_of f 64) (sym (add-zero i))
get_d_of f (suc k) i (suc j) l =
    let e : i + 64 + 64 * j ≡ i + 64 * suc j = omega arith in
    get_d_of f k (i + 64) j (omega arith) ∙ ap (word_of f 64) e

pub fits_of : (f : ℕ → Bool) (k i : ℕ) → Fits (words_of f k i)
unfolding words_of
fits_of f zero i j = lit< tt
fits_of f (suc k) i zero = word_fits f 64 i
fits_of f (suc k) i (suc j) = fits_of f k (i + 64) j

-- its members are those below the end that have it
pub has_in_of : (f : ℕ → Bool) (k i : ℕ) → has_in (words_of f k 0) i ≡ (ltb i (64 * k) && f i)
unfolding has_in
has_in_of f k i =
    ⊎_elim
    (λ (l : i < 64 * k).
    let e : 0 + 64 * (i / 64) + i % 64 ≡ i = omega arith in
    ap (λ (w : ℕ). has w (i % 64)) (get_d_of f k 0 (i / 64) (omega arith)) ∙ has_word f 64 (0 + 64 * (i / 64)) (i % 64) (omega arith)
    ∙ ap f e ∙ ap (λ (b : Bool). b && f i) (sym (lt-ltb i (64 * k) l)))
    (λ (l : 64 * k ≤ i).
    has_in_past (words_of f k 0) i (omega (arith, length_of f k 0)) ∙ ap (λ (b : Bool). b && f i) (sym (le-ltb i (64 * k) l)))
    (lt_or_ge i (64 * k))

-- words with the same members are the same
pub words_ext : (us vs : List ℕ) → length us ≡ length vs → Fits us → Fits vs → ((i : ℕ) → has_in us i ≡ has_in vs i) → us ≡ vs
words_ext us vs e hu hv h =
    ext_get_or 0 us vs e
    (λ j _. has_ext 64 (get_or us j 0) (get_or vs j 0) (hu j) (hv j) (λ d l. word_in us j d l ∙ h (64 * j + d) ∙ sym (word_in vs j d l)))

-- no position: zeros
pub none_of : (k i : ℕ) → words_of (λ i. false) k i ≡ replicate k 0
unfolding words_of word_of
none_of zero i = refl
none_of (suc k) i = ap₂ ◌∷◌ refl (none_of k (i + 64))

-- ---- sets of slots

module _ (f : ℕ → Bool) where
  pub set_long : length (set_of f) ≡ set_words
  unfolding set_of
  set_long = length_of f set_words 0

  pub set_fits : Fits (set_of f)
  unfolding set_of
  set_fits = fits_of f set_words 0

  pub has_in_set : (i : ℕ) → has_in (set_of f) i ≡ (ltb i capacity && f i)
  unfolding set_of
  has_in_set i = has_in_of f set_words i

  pub set_at : (i : ℕ) → i < capacity → has_in (set_of f) i ≡ f i
  set_at i l = has_in_set i ∙ ap (λ (b : Bool). b && f i) (lt-ltb i capacity l)

-- no set of slots has a member past them
pub set_past : (ws : List ℕ) → length ws ≡ set_words → (i : ℕ) → capacity ≤ i → has_in ws i ≡ false
set_past ws e i l = has_in_past ws i (omega arith)

-- a set is the one of the slots that have f where these are its members
pub set_is : (f : ℕ → Bool) (ws : List ℕ) → length ws ≡ set_words → Fits ws → ((i : ℕ) → i < capacity → has_in ws i ≡ f i) → set_of f ≡ ws
set_is f ws e fits h =
    words_ext (set_of f) ws (set_long f ∙ sym e) (set_fits f) fits
    (λ i.
    ⊎_elim
    (λ (l : i < capacity). set_at f i l ∙ sym (h i l))
    (λ (l : capacity ≤ i). set_past (set_of f) (set_long f) i l ∙ sym (set_past ws e i l))
    (lt_or_ge i capacity))

pub set_own : (ws : List ℕ) → length ws ≡ set_words → Fits ws → set_of (has_in ws) ≡ ws
set_own ws e fits = set_is (has_in ws) ws e fits (λ i l. refl)

pub set_ext : (f g : ℕ → Bool) → ((i : ℕ) → i < capacity → f i ≡ g i) → set_of f ≡ set_of g
set_ext f g h = set_is f (set_of g) (set_long g) (set_fits g) (λ i l. set_at g i l ∙ sym (h i l))

pub none_zeros : none ≡ replicate set_words 0
unfolding set_of
none_zeros = none_of set_words 0

pub none_has : (i : ℕ) → has_in none i ≡ false
none_has i = ⊎_elim (λ (l : i < capacity). set_at (λ i. false) i l) (λ (l : capacity ≤ i). set_past none (set_long (λ i. false)) i l) (lt_or_ge i capacity)

-- ---- words within a longer list

pub length_from : (ws : List ℕ) (k at : ℕ) → length (words_from ws k at) ≡ k
unfolding words_from
length_from ws zero at = refl
length_from ws (suc k) at = ap suc (length_from ws k (suc at))

pub get_d_from : (ws : List ℕ) (k at j : ℕ) → j < k → get_or (words_from ws k at) j 0 ≡ get_or ws (at + j) 0
unfolding words_from
get_d_from ws zero at j l = absurd (omega arith)
get_d_from ws (suc k) at zero l = ap (λ (n : ℕ). get_or ws n 0) (sym (add-zero at))
get_d_from ws (suc k) at (suc j) l =
    let e : suc at + j ≡ at + suc j = omega arith in
    get_d_from ws k (suc at) j (omega arith) ∙ ap (λ (n : ℕ). get_or ws n 0) e

pub fits_from : (ws : List ℕ) (k at : ℕ) → Fits ws → Fits (words_from ws k at)
unfolding words_from
fits_from ws zero at h j = lit< tt
fits_from ws (suc k) at h zero = h at
fits_from ws (suc k) at h (suc j) = fits_from ws k (suc at) h j

module _ (ws : List ℕ) (at : ℕ) where
  pub from_long : length (set_from ws at) ≡ set_words
  unfolding set_from
  from_long = length_from ws set_words at

  pub from_at : (j : ℕ) → j < set_words → get_or (set_from ws at) j 0 ≡ get_or ws (at + j) 0
  unfolding set_from
  from_at j l = get_d_from ws set_words at j l

  pub from_fits : Fits ws → Fits (set_from ws at)
  unfolding set_from
  from_fits h = fits_from ws set_words at h
