use mathlib.Core.Path.{◌≡◌, sym, ap, ◌∙◌}
use Prim.Native.Nat.{◌-◌}
use native.Mathlib.Omega.{arith}
use lib.ListN.{length, drop, length-drop}
use lib.Seq.{take_all}
use Rattle.texts.specs.Numerals.{negative, positive, number_of, signed_of}
use Rattle.texts.proofs.Decimals.{no_text, minus, no_minus, positive_of}
use Rattle.texts.proofs.numerals.read_signed.Goals as goal
use Rattle.texts.proofs.numerals.read_signed.Goals.{After-read_number, After-read_number-2}

-- the number behind the minus sign
behind : (c : After-read_number) → signed_of c.args.text.now ≡ negative c.read_number.result
behind c =
    let text = c.args.text.now in
    minus text c.if-text-eq0.false c.if-text-eq45.true
    ∙ ap negative (sym (c.read_number.ensures ∙ ap number_of (take_all (length text - 1) (drop 1 text) (simp length-drop (omega arith)))))

-- the number without one
whole : (c : After-read_number-2) → signed_of c.args.text.now ≡ positive c.read_number-2.result
whole c =
    no_minus c.args.text.now c.if-text-eq0.false c.if-text-eq45.false
    ∙ ap positive (sym c.read_number-2.ensures)

pub returns-then-text-eq0 : goal.returns-then-text-eq0
returns-then-text-eq0 c = sym (no_text c.args.text.now c.if-text-eq0.true)

pub returns-in_err-read_number : goal.returns-in_err-read_number
returns-in_err-read_number c =
    rw c.from_residual.ensures
    (sym (behind (goal.at.returns-in_err-read_number c).After-read_number ∙ ap negative c.in_err-read_number.was))

pub returns-then-text-eq45 : goal.returns-then-text-eq45
returns-then-text-eq45 c =
    c.below_zero.ensures ∙ sym (behind (goal.at.returns-then-text-eq45 c).After-read_number ∙ ap negative c.in_ok-read_number.was)

pub returns-in_err-read_number-2 : goal.returns-in_err-read_number-2
returns-in_err-read_number-2 c =
    rw c.from_residual-in_err-read_number-2.ensures
    (sym (whole (goal.at.returns-in_err-read_number-2 c).After-read_number-2 ∙ ap positive c.in_err-read_number-2.was))

pub returns : goal.returns
returns c =
    c.ok.ensures.value
    ∙ positive_of c.in_ok-read_number-2.field-0 c.try_from.result c.try_from.ensures
    ∙ sym (whole (goal.at.returns c).After-read_number-2 ∙ ap positive c.in_ok-read_number-2.was)
