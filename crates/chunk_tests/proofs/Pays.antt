-- Which of two feerates pays more: the higher one, and of two that are equal the one with the larger fee. On feerates whose sizes are above
-- zero this is an order in which ties go on: two of which neither pays more have equal rates and equal fees. Assumes nothing.
use Prim.Native.Nat.{◌<◌}
use native.Mathlib.Nat.{le_of_lt}
use native.Mathlib.Omega.{arith}
use mathlib.Core.Path.{◌≡◌, refl, sym, ap, ◌∙◌}
use mathlib.Core.Bool.{Bool, true, false, cond, not, ◌&&◌, ◌||◌}
use lib.IntN.{ℤ, pos, negsuc}
use lib.Signed.{lt_z}
use borrow.Author.Tests.{le-ltb, ltb-true, ltb-false}
use Rattle.lists.proofs.Bools.{cases, clash}
use Rattle.feefrac.specs.declared.FeeFrac.{FeeFrac}
use Rattle.std.specs.declared.cmp.Ordering.{Ordering}
use Rattle.std.specs.declared.cmp.Ordering.TheVariants.{Less, Equal, Greater}
use Rattle.feefrac.specs.Rate.{higher, rate_order, then_by, is_greater}
use Rattle.feefrac.proofs.Signed.{Le, less_parts}
use Rattle.feefrac.proofs.Order.{rate_above, rate_below, rate_same}
use Rattle.feefrac.proofs.Higher.{higher_self, higher_one, above_least, least_above, least_least}
use Rattle.chunk_tests.specs.Tests.{fee_order, pays_order}

abbrev pub pays_more : FeeFrac → FeeFrac → Bool
pays_more a b = is_greater (pays_order a b)

-- ---- an order by two tests: whether the first is above, and else whether the second is

abbrev pub by_tests : Bool → Bool → Ordering
by_tests s t = cond s Greater (cond t Less Equal)

pub tests_greater : (s t : Bool) → is_greater (by_tests s t) ≡ s
tests_greater true t = refl
tests_greater false true = refl
tests_greater false false = refl

-- and then a second order
pub tests_then : (s t : Bool) (o : Ordering) → is_greater (then_by (by_tests s t) o) ≡ (s || (not t && is_greater o))
tests_then true t o = refl
tests_then false true o = refl
tests_then false false o = refl

pub pays_tests : (a b : FeeFrac) → pays_order a b ≡ by_tests (pays_more a b) (pays_more b a)
unfolding pays_order rate_order fee_order
pays_tests a b = go (higher a b) (higher b a) (lt_z b.fee a.fee) (lt_z a.fee b.fee)
  where
    go : (s t u v : Bool) → let o = then_by (by_tests s t) (by_tests u v) in o ≡ by_tests (is_greater o) (is_greater (then_by (by_tests t s) (by_tests v u)))
    go true t u v = refl
    go false true u v = refl
    go false false true v = refl
    go false false false true = refl
    go false false false false = refl

-- ---- as the code asks

fee_greater : (f g : ℤ) → is_greater (fee_order f g) ≡ lt_z g f
unfolding fee_order
fee_greater f g = tests_greater (lt_z g f) (lt_z f g)

module _ (a b : FeeFrac) where
  pub pays_asked : pays_more a b ≡ (higher a b || (not (higher b a) && lt_z b.fee a.fee))
  unfolding pays_order rate_order
  pays_asked =
      tests_then (higher a b) (higher b a) (fee_order a.fee b.fee)
      ∙ ap (λ (t : Bool). higher a b || (not (higher b a) && t)) (fee_greater a.fee b.fee)

  pub pays_above : higher a b ≡ true → pays_more a b ≡ true
  unfolding pays_order
  pays_above e = rw (rate_above a b e)

  pub pays_below : higher b a ≡ true → pays_more a b ≡ false
  unfolding pays_order
  pays_below e = rw (rate_below a b (higher_one b a e) e)

  pub pays_same : higher a b ≡ false → higher b a ≡ false → pays_more a b ≡ lt_z b.fee a.fee
  unfolding pays_order
  pays_same e f = rw (rate_same a b e f) (fee_greater a.fee b.fee)

-- ---- an order

fee_most : (x y : ℤ) → lt_z x y ≡ false → Le y x
fee_most x y e = ltb-false _ _ (sym (less_parts x y) ∙ e)

fee_not_less : (x y : ℤ) → Le y x → lt_z x y ≡ false
fee_not_less x y h = less_parts x y ∙ le-ltb _ _ h

fee_same : (x y : ℤ) → Le x y → Le y x → x ≡ y
fee_same (pos m) (pos n) h k = let e : m ≡ n = omega arith in rw e
fee_same (pos m) (negsuc n) h k = absurd (omega arith)
fee_same (negsuc m) (pos n) h k = absurd (omega arith)
fee_same (negsuc m) (negsuc n) h k = let e : m ≡ n = omega arith in rw e

-- what it means that b does not pay more than a: a is higher, or the rates are equal and b's fee is not larger
module _ (a b : FeeFrac) (n : pays_more b a ≡ false) where
  pub least_rate : higher b a ≡ false
  least_rate = cases (higher b a) (λ e. clash (pays_above b a e) n) (λ e. e)

  pub least_fee : higher a b ≡ false → Le b.fee a.fee
  least_fee e = fee_most a.fee b.fee (sym (pays_same b a least_rate e) ∙ n)

-- no feerate pays more than itself
pub pays_self : (a : FeeFrac) → pays_more a a ≡ false
pays_self a = pays_same a a (higher_self a) (higher_self a) ∙ fee_not_less a.fee a.fee (omega arith)

-- of two one at most pays more
pub pays_one : (a b : FeeFrac) → pays_more a b ≡ true → pays_more b a ≡ false
pays_one a b e =
    cases (higher a b)
    (λ p. pays_below b a p)
    (λ p. cases (higher b a)
    (λ q. clash e (pays_below a b q))
    (λ q. pays_same b a q p ∙ fee_not_less a.fee b.fee (less_is b.fee a.fee (sym (pays_same a b p q) ∙ e))))
  where
    less_is : (x y : ℤ) → lt_z x y ≡ true → Le x y
    less_is x y e = le_of_lt (ltb-true _ _ (sym (less_parts x y) ∙ e))

-- neither pays more: the rates are equal, and so are the fees
pub record Tie (a b : FeeFrac) : Type 0 where
  pub not_above : higher a b ≡ false
  pub not_below : higher b a ≡ false
  pub fee : a.fee ≡ b.fee

pub pays_tie : (a b : FeeFrac) → pays_more a b ≡ false → pays_more b a ≡ false → Tie a b
pays_tie a b p q =
    let h = least_rate b a p in
    let k = least_rate a b q in
    record { not_above = h; not_below = k; fee = fee_same a.fee b.fee (least_fee b a p k) (least_fee a b q h) }

pub tie_pays : (a b : FeeFrac) → Tie a b → (pays_more a b ≡ false) × (pays_more b a ≡ false)
tie_pays a b t = (
  pays_same a b t.not_above t.not_below ∙ fee_not_less b.fee a.fee (rw t.fee (omega arith)),
  pays_same b a t.not_below t.not_above ∙ fee_not_less a.fee b.fee (rw t.fee (omega arith)),
)

module _ (a b c : FeeFrac) (ha : 0 < a.size) (hb : 0 < b.size) (hc : 0 < c.size) where
  -- "does not pay more" goes on
  pub pays_onward : pays_more b a ≡ false → pays_more c b ≡ false → pays_more c a ≡ false
  pays_onward p q =
      let ba = least_rate a b p in
      let cb = least_rate b c q in
      let ca = least_least a b c ba cb hb in
      cases (higher a c)
      (λ e. pays_below c a e)
      (λ e.
      let ab : higher a b ≡ false = cases (higher a b) (λ f. clash (above_least a b c f cb hc) e) (λ f. f) in
      let bc : higher b c ≡ false = cases (higher b c) (λ f. clash (least_above a b c ba f ha) e) (λ f. f) in
      pays_same c a ca e ∙ fee_not_less a.fee c.fee (omega (arith, least_fee a b p ab, least_fee b c q bc)))

module _ (a b c : FeeFrac) (ha : 0 < a.size) (hb : 0 < b.size) (hc : 0 < c.size) where
  pub pays_transitive : pays_more a b ≡ true → pays_more b c ≡ true → pays_more a c ≡ true
  pays_transitive p q = cases (pays_more a c) (λ e. e) (λ e. clash p (pays_onward b c a hb hc ha (pays_one b c q) e))

  pub tie_transitive : Tie a b → Tie b c → Tie a c
  tie_transitive s t =
      pays_tie a c
      (pays_onward c b a hc hb ha (tie_pays b c t).0 (tie_pays a b s).0)
      (pays_onward a b c ha hb hc (tie_pays a b s).1 (tie_pays b c t).1)
