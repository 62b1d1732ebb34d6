-- Truth values: the parts of a conjunction that holds, of a disjunction that holds or does not, an implication, and a choice by a test,
-- which is the library's `cond`. Assumes nothing.
use mathlib.Core.Path.{◌≡◌, refl, sym, ap, ◌∙◌, subst}
use mathlib.Core.Bool.{Bool, true, false, cond, not, ◌&&◌, ◌||◌, and-false, and_assoc}
use mathlib.Core.Logic.{◌⊎◌, inl, inr}
use lib.Dec.{T}

-- a Bool is not both true and false
pub clash {ℓ} : {A : Type ℓ} {b : Bool} → b ≡ true → b ≡ false → A
clash p q = absurd (subst T (sym p ∙ q) tt)

-- one or the other, with what it is
pub cases {ℓ} : {A : Type ℓ} (b : Bool) → (b ≡ true → A) → (b ≡ false → A) → A
cases true t f = t refl
cases false t f = f refl

pub and_left : (b c : Bool) → (b && c) ≡ true → b ≡ true
and_left true c e = refl
and_left false c e = e

pub and_right : (b c : Bool) → (b && c) ≡ true → c ≡ true
and_right true c e = e
and_right false c e = clash e refl

pub or_left : (b c : Bool) → (b || c) ≡ false → b ≡ false
or_left true c e = e
or_left false c e = refl

pub or_right : (b c : Bool) → (b || c) ≡ false → c ≡ false
or_right true c e = clash refl e
or_right false c e = e

-- a true conjunction has both parts, a true disjunction one of them
pub and_both : (b c : Bool) → (b && c) ≡ true → (b ≡ true) × (c ≡ true)
and_both true c e = (refl, e)
and_both false c e = clash refl (sym e)

pub or_either : (b c : Bool) → (b || c) ≡ true → (b ≡ true) ⊎ (c ≡ true)
or_either true c e = inl refl
or_either false c e = inr e

-- where the one gives the other, the implication holds
pub implies : (b c : Bool) → (b ≡ true → c ≡ true) → (not b || c) ≡ true
implies true c h = h refl
implies false c h = refl

-- neither
pub not_or : (b c : Bool) → not (b || c) ≡ (not b && not c)
not_or true c = refl
not_or false c = refl

-- one without the other, as the failure of an implication
pub but_not : (b c : Bool) → (b && not c) ≡ not (not b || c)
but_not true c = refl
but_not false c = refl

-- without the one and without the other
pub without_or : (f b c : Bool) → ((f && not b) && not c) ≡ (f && not (b || c))
without_or f b c = and_assoc f (not b) (not c) ∙ ap (λ (d : Bool). f && d) (sym (not_or b c))

-- what is true unless it is false is true, and the other way
pub is_true : (b : Bool) → (b ≡ false → b ≡ true) → b ≡ true
is_true true h = refl
is_true false h = h refl

pub is_false : (b : Bool) → (b ≡ true → b ≡ false) → b ≡ false
is_false true h = h refl
is_false false h = refl

-- what implies a test may be asked after it
pub asked : (b c : Bool) → (c ≡ true → b ≡ true) → (b && c) ≡ c
asked b true h = ap (λ (d : Bool). d && true) (h refl)
asked b false h = and-false b

-- two Bools that are true together, or false together, are equal
pub true_together : (a b : Bool) → (a ≡ true → b ≡ true) → (b ≡ true → a ≡ true) → a ≡ b
true_together true b f g = sym (f refl)
true_together false b f g = sym (is_false b (λ e. e ∙ sym (g e)))

pub false_together : (a b : Bool) → (a ≡ false → b ≡ false) → (b ≡ false → a ≡ false) → a ≡ b
false_together true true f g = refl
false_together true false f g = g refl
false_together false b f g = sym (f refl)

-- ---- a choice by a test

-- what holds of each of two where it is picked holds of the one picked
pub cond_where : {A : Type 0} (P : A → Type 0) (b : Bool) {x y : A} → (b ≡ true → P x) → (b ≡ false → P y) → P (cond b x y)
cond_where P true p q = p refl
cond_where P false p q = q refl

-- a test and its opposite choose the other way round
pub cond_not : {A : Type 0} (b : Bool) (m n : A) → cond b m n ≡ cond (not b) n m
cond_not true m n = refl
cond_not false m n = refl

-- which way it went, by what it gave
module _ {A : Type 0} {x y z : A} where
  -- not the second, so the first
  pub cond_first : (b : Bool) → cond b x y ≡ z → (y ≡ z → ⊥) → (b ≡ true) × (x ≡ z)
  cond_first true e n = (refl, e)
  cond_first false e n = absurd (n e)

  -- not the first, so the second
  pub cond_second : (b : Bool) → cond b x y ≡ z → (x ≡ z → ⊥) → (b ≡ false) × (y ≡ z)
  cond_second true e n = absurd (n e)
  cond_second false e n = (refl, e)
