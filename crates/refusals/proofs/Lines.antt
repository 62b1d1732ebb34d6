-- A call's refusals in their order, for any reply: a function's tests pass one line after the other, and the first that holds gives the
-- answer. Assumes nothing.
use Prim.Native.Nat.{ℕ, zero, suc}
use mathlib.Core.Path.{◌≡◌, refl, sym, ap, ◌∙◌}
use mathlib.Core.Bool.{Bool, true, false, cond, not, ◌&&◌}
use mathlib.Core.List.{List, [], ◌∷◌}
use lib.ListN.{drop, get_or}
use lib.Dec.{eqb}
use borrow.Author.Tests.{eqb-true, not-true}
use Rattle.lists.proofs.Bools.{clash, and_left, and_right, cond_where}
use Rattle.refusals.specs.Refusals.{Line, line, answer_of, reply_of, kept_unless}

-- the n-th line; past the last, one that does not hold
abbrev pub line_at : List Line → ℕ → Line
line_at ls n = get_or ls n (line 0 false)

-- 0 is no line's number
abbrev pub numbered : List Line → Bool
numbered [] = true
numbered (l ∷ ls) = not (eqb l.number 0) && numbered ls

-- the first n lines do not hold
pub record Past (ls : List Line) (n : ℕ) : Type 0 where
  pub numbers : numbered ls ≡ true
  pub same : answer_of ls ≡ answer_of (drop n ls)

-- k is given: the first line that holds has it
pub record Gives (ls : List Line) (k : ℕ) : Type 0 where
  pub answer : answer_of ls ≡ k
  pub number : eqb k 0 ≡ false

-- none holds
pub record Takes (ls : List Line) : Type 0 where
  pub answer : answer_of ls ≡ 0

next : (ls : List Line) (n : ℕ) → answer_of (drop n ls) ≡ cond (line_at ls n).holds (line_at ls n).number (answer_of (drop (suc n) ls))
unfolding answer_of
next [] zero = refl
next [] (suc n) = refl
next (l ∷ ls) zero = refl
next (l ∷ ls) (suc n) = next ls n

no_zero : (ls : List Line) (n : ℕ) → numbered ls ≡ true → (line_at ls n).holds ≡ true → eqb (line_at ls n).number 0 ≡ false
no_zero [] n e h = clash h refl
no_zero (l ∷ ls) zero e h = not-true (eqb l.number 0) (and_left (not (eqb l.number 0)) (numbered ls) e)
no_zero (l ∷ ls) (suc n) e h = no_zero ls n (and_right (not (eqb l.number 0)) (numbered ls) e) h

pub none_past : {ls : List Line} → numbered ls ≡ true → Past ls 0
none_past e = record { numbers = e; same = refl }

module _ {ls : List Line} {n : ℕ} (p : Past ls n) where
  -- one more does not hold
  pub past : (line_at ls n).holds ≡ false → Past ls (suc n)
  past h = record { numbers = p.numbers; same = p.same ∙ next ls n ∙ rw h }

  -- the next holds
  pub stop : (line_at ls n).holds ≡ true → Gives ls (line_at ls n).number
  stop h = record { answer = p.same ∙ next ls n ∙ rw h; number = no_zero ls n p.numbers h }

  -- none is left
  pub all_past : drop n ls ≡ [] → Takes ls
  unfolding answer_of
  all_past e = record { answer = p.same ∙ ap answer_of e }

-- ---- what a call answers, once that is known, and what its lent memory holds

module _ {R : Type 0} {ls : List Line} (refused : ℕ → R) (done : R) where
  pub refuses : {k : ℕ} {r : R} → Gives ls k → r ≡ refused k → r ≡ reply_of refused ls done
  unfolding reply_of
  refuses g e = e ∙ rw (g.answer, g.number)

  pub succeeds : {r : R} → Takes ls → r ≡ done → r ≡ reply_of refused ls done
  unfolding reply_of
  succeeds t e = e ∙ rw t.answer

module _ {A : Type 0} {ls : List Line} (old new : A) where
  pub keeps : {k : ℕ} → Gives ls k → old ≡ kept_unless ls old new
  unfolding kept_unless
  keeps g = rw (g.answer, g.number)

  pub writes : {out : A} → Takes ls → out ≡ new → out ≡ kept_unless ls old new
  unfolding kept_unless
  writes t e = e ∙ rw t.answer

-- both, for a call that lends one slice
module _ {R A : Type 0} {ls : List Line} (refused : ℕ → R) (done : R) (old new : A) where
  pub refuses_keeps : {k : ℕ} {r : R} → Gives ls k → r ≡ refused k → (r ≡ reply_of refused ls done) × (old ≡ kept_unless ls old new)
  refuses_keeps g e = (refuses refused done g e, keeps old new g)

  pub succeeds_writes : {r : R} {out : A} → Takes ls → r ≡ done → out ≡ new → (r ≡ reply_of refused ls done) × (out ≡ kept_unless ls old new)
  succeeds_writes t e o = (succeeds refused done t e, writes old new t o)

-- where a reply has the number that it was made with, and success has 0, it has that of the first line that holds
pub answered : {R : Type 0} (ls : List Line) (refused : ℕ → R) (done : R) (number : R → ℕ) → number done ≡ 0 → ((k : ℕ) → number (refused k) ≡ k)
    → number (reply_of refused ls done) ≡ answer_of ls
unfolding reply_of
answered {R} ls refused done number z f =
    cond_where (λ (r : R). number r ≡ answer_of ls) (eqb (answer_of ls) 0) (λ e. z ∙ sym (eqb-true (answer_of ls) 0 e)) (λ _. f (answer_of ls))
