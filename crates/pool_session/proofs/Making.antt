-- What make answers and leaves: of the words lent to it only their number matters. Assumes nothing.
use mathlib.Core.Path.{◌≡◌, sym, ap, ◌∙◌}
use mathlib.Core.Bool.{false, and-false}
use mathlib.Core.List.{List}
use Prim.Native.Nat.{ℕ, ◌-◌, ◌/◌, ◌<◌}
use native.Mathlib.Omega.{arith}
use lib.Dec.{eqb, leb}
use lib.ListN.{length, length-replicate}
use borrow.Author.Tests.{lt-leb, eq-eqb, ne_eqb}
use Rattle.refusals.specs.Refusals.{answer_of, kept_unless}
use Rattle.slotsets.specs.SlotSets.{capacity}
use Rattle.pool_table.specs.declared.Limits.{Limits}
use Rattle.pool_table.specs.Words.{header, row, row_at, slots_in, is_legal}
use Rattle.pool_rules.specs.Calls.{make_refusals, make_answer, after_make}
use Rattle.pool_session.specs.Session.{lent_table}

-- more slots than a pool can have
illegal : (len k : ℕ) → len ≡ row_at k → capacity < k → is_legal len ≡ false
unfolding is_legal slots_in
illegal len k e h =
    let s = (len - header) / row in
    rw (lt-leb s capacity (omega (arith, e)), and-false (leb 1 s), and-false (eqb (row_at s) len))

pub too_many : (k : ℕ) (l : Limits) → capacity < k → make_answer (lent_table k) l ≡ 3
unfolding make_answer make_refusals answer_of
too_many k l h = rw (illegal (length (lent_table k)) k (length-replicate (row_at k) 0) h)

module _ (t : List ℕ) (k : ℕ) (l : Limits) (long : length t ≡ row_at k) where
  many : length (lent_table k) ≡ row_at k
  many = length-replicate (row_at k) 0

  same_refusals : make_refusals t l ≡ make_refusals (lent_table k) l
  unfolding make_refusals
  same_refusals = rw (long, many)

  pub make_answer_lem : make_answer t l ≡ make_answer (lent_table k) l
  unfolding make_answer
  make_answer_lem = ap answer_of same_refusals

  pub make_leaves : make_answer t l ≡ 0 → after_make t l ≡ after_make (lent_table k) l
  unfolding make_answer after_make kept_unless
  make_leaves e =
      rw (
        eq-eqb (answer_of (make_refusals t l)) 0 e,
        eq-eqb (answer_of (make_refusals (lent_table k) l)) 0 (ap answer_of (sym same_refusals) ∙ e),
        long,
        many,
      )

  pub make_keeps : (make_answer t l ≡ 0 → ⊥) → after_make t l ≡ t
  unfolding make_answer after_make kept_unless
  make_keeps n = rw (ne_eqb (answer_of (make_refusals t l)) 0 n)
