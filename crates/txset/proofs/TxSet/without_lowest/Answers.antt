use mathlib.Core.Bool.{Bool, true, false, cond, not, ◌&&◌}
use mathlib.Core.List.{[], ◌∷◌}
use mathlib.Core.Path.{◌≡◌, sym, ap, ◌∙◌}
use Prim.Native.Nat.{ℕ, ◌-◌, ◌^◌, ◌<◌}
use lib.Bits.{bit_and}
use lib.Dec.{eqb}
use borrow.Author.Rules.{rules}
use borrow.Author.Tests.{eq-eqb, ne_eqb}
use Rattle.txset.specs.Sets.{words, has_in, mem, lowest_of}
use Rattle.txset.specs.declared.TxSet.{TxSet}
use Rattle.txset.proofs.Sets.{words_fit}
use Rattle.txset.proofs.Words.{has_in_clear}
use Rattle.txset.proofs.TxSet.without_lowest.Goals as goal

-- the code's test is the first word's of `clear_first`
without : (s : TxSet) → s.word < 2 ^ 64 → (b : Bool) → eqb s.word 0 ≡ b
    → (i : ℕ) → has_in (cond b (words s) (bit_and s.word (s.word - 1) ∷ [])) i ≡ (mem s i && not (eqb i (lowest_of s)))
unfolding mem lowest_of
without s h b e i =
    ap (λ (t : Bool). has_in (cond t (words s) (bit_and s.word (s.word - 1) ∷ [])) i) (sym e)
    ∙ has_in_clear (words s) (words_fit s h) i

pub returns-then-word-eq0 : goal.returns-then-word-eq0
unfolding mem
returns-then-word-eq0 c = let s = c.args.self in
    without s (search rules) true (eq-eqb s.word 0 c.if-word-eq0.true)

pub returns : goal.returns
unfolding mem
returns c = let s = c.args.self in
    without s (search rules) false (ne_eqb s.word 0 c.if-word-eq0.false)
