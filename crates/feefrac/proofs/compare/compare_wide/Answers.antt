use mathlib.Core.Path.{◌≡◌, sym, ap, ◌∙◌}
use Prim.Native.Nat.{ℕ, ◌+◌, ◌*◌, ◌<◌}
use native.Mathlib.Nat.{pos_of_ne-zero}
use native.Mathlib.Omega.{arith}
use lib.IntN.{ℤ, nat_abs}
use mir.Syntax.{w64}
use mir.Val.{SFits, to_z, of_z}
use mir.Facts.{to_z-of_z}
use borrow.Author.Rules.{rules}
use borrow.Author.Tests.{eqb-true, eqb-false}
use Rattle.feefrac.specs.Rate.{rate_order, size_order}
use Rattle.std.specs.declared.cmp.Ordering.{Ordering}
use Rattle.std.specs.Ordering.{ordering_then, nat_cmp}
use Rattle.wide.specs.declared.Wide.{Wide}
use Rattle.wide.specs.Words.{value}
use Rattle.wide.proofs.Product.{words_order}
use Rattle.feefrac.proofs.Signed.{less, not_less, zero_fits}
use Rattle.feefrac.proofs.Order.{size_above, size_below, size_same, size_cmp, both_up, both_down, up_down, down_up}
use Rattle.feefrac.proofs.compare.compare_wide.Goals as goal
use Rattle.feefrac.proofs.compare.compare_wide.Goals.{After-product-then-af-lt0-2, After-product-then-bf-lt0-2-2, Start}

-- the fees are numbers of their type
module _ (p : Start) where
  fits_a : SFits w64 p.args.a.fee
  fits_a = search rules

  fits_b : SFits w64 p.args.b.fee
  fits_b = search rules

-- a product of a fee that was read
read : {z : ℤ} {v : ℕ} (k : ℕ) → SFits w64 z → v ≡ nat_abs (to_z w64 (of_z w64 z)) * k → v ≡ nat_abs z * k
read k h e = e ∙ ap (λ (y : ℤ). nat_abs y * k) (to_z-of_z h)

-- std's `cmp` of two products, as the order of their numbers
by_words : (v w : Wide) {r : Ordering} → v.lo < 18446744073709551616 → w.lo < 18446744073709551616
    → r ≡ ordering_then (nat_cmp v.hi w.hi) (nat_cmp v.lo w.lo) → r ≡ size_order (value v) (value w)
by_words v w h k e = e ∙ words_order v w h k ∙ size_cmp (value v) (value w)

pub returns-then-bf-lt0 : goal.returns-then-bf-lt0
returns-then-bf-lt0 c = let t = c.before.before.before.before.before in
    let p = t.before.before in
    let s = p.args in
    by_words c.product.result c.product-then-bf-lt0.result (search rules) (search rules) c.cmp.ensures
    ∙ sym
    (both_down s.a s.b (value c.product-then-bf-lt0.result) (value c.product.result)
    (read s.b.size (fits_a p.before.before) c.product-then-bf-lt0.ensures) (read s.a.size (fits_b p.before.before) c.product.ensures)
    (less (fits_a p.before.before) zero_fits t.if-af-lt0.true) (less (fits_b p.before.before) zero_fits t.if-bf-lt0.true))

-- a negative fee against one that is not, and the other way round
is_lower : (c : After-product-then-af-lt0-2) → let s = c.before.before.before.before.args in
    rate_order s.a s.b ≡ size_order 0 (value c.product-then-af-lt0.result + value c.product-then-af-lt0-2.result)
is_lower c =
    let t = c.before.before in
    let p = t.before.before in
    let s = p.args in
    down_up s.a s.b _ _ (read s.b.size (fits_a p.before.before) c.product-then-af-lt0.ensures) (read s.a.size (fits_b p.before.before) c.product-then-af-lt0-2.ensures)
    (less (fits_a p.before.before) zero_fits t.if-af-lt0.true) (not_less (fits_b p.before.before) zero_fits t.if-bf-lt0.false)

is_upper : (c : After-product-then-bf-lt0-2-2) → let s = c.before.before.before.before.args in
    rate_order s.a s.b ≡ size_order (value c.product-then-bf-lt0-2.result + value c.product-then-bf-lt0-2-2.result) 0
is_upper c =
    let t = c.before.before in
    let p = t.before.before in
    let s = p.args in
    up_down s.a s.b _ _ (read s.b.size (fits_a p.before.before) c.product-then-bf-lt0-2.ensures) (read s.a.size (fits_b p.before.before) c.product-then-bf-lt0-2-2.ensures)
    (not_less (fits_a p.before.before) zero_fits t.if-af-lt0.false) (less (fits_b p.before.before) zero_fits t.if-bf-lt0-2.true)

pub returns-then-both_zero : goal.returns-then-both_zero
returns-then-both_zero c = let p = c.before.before in
    let e = eqb-true (value p.product-then-af-lt0.result + value p.product-then-af-lt0-2.result) 0 (sym c.both_zero.ensures ∙ c.if-both_zero.true) in
    sym (is_lower p ∙ size_same (omega (arith, e)) (omega (arith, e)))

pub returns-then-af-lt0 : goal.returns-then-af-lt0
returns-then-af-lt0 c = sym (is_lower c.before.before ∙ size_below (pos_of_ne-zero (eqb-false _ 0 (sym c.both_zero.ensures ∙ c.if-both_zero.false))))

pub returns-then-both_zero-2 : goal.returns-then-both_zero-2
returns-then-both_zero-2 c = let p = c.before.before in
    let e = eqb-true (value p.product-then-bf-lt0-2.result + value p.product-then-bf-lt0-2-2.result) 0 (sym c.both_zero-then-bf-lt0-2.ensures ∙ c.if-both_zero-2.true) in
    sym (is_upper p ∙ size_same (omega (arith, e)) (omega (arith, e)))

pub returns-then-bf-lt0-2 : goal.returns-then-bf-lt0-2
returns-then-bf-lt0-2 c = sym (is_upper c.before.before ∙ size_above (pos_of_ne-zero (eqb-false _ 0 (sym c.both_zero-then-bf-lt0-2.ensures ∙ c.if-both_zero-2.false))))

pub returns : goal.returns
returns c = let t = c.before.before.before.before.before in
    let p = t.before.before in
    let s = p.args in
    by_words c.product-2.result c.product-3.result (search rules) (search rules) c.cmp-2.ensures
    ∙ sym
    (both_up s.a s.b (value c.product-2.result) (value c.product-3.result)
    (read s.b.size (fits_a p.before.before) c.product-2.ensures) (read s.a.size (fits_b p.before.before) c.product-3.ensures)
    (not_less (fits_a p.before.before) zero_fits t.if-af-lt0.false) (not_less (fits_b p.before.before) zero_fits t.if-bf-lt0-2.false))
