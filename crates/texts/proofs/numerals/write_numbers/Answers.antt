use mathlib.Core.Path.{sym, ◌∙◌}
use mathlib.Core.List.{List}
use Prim.Native.Nat.{ℕ, ◌-◌}
use native.Mathlib.Omega.{arith}
use lib.ListN.{length}
use borrow.Author.Tests.{leb-true, leb-false}
use Rattle.texts.specs.Writing.{commas}
use Rattle.texts.specs.Rooms.{Room}
use Rattle.texts.proofs.Append.{put, put_none}
use Rattle.texts.proofs.numerals.write_numbers.Goals as goal
use Rattle.texts.proofs.numerals.write_numbers.Goals.{After-numbers_fit, Else-not-numbers_fit}

pub returns-then-out-at : goal.returns-then-out-at
returns-then-out-at c =
    let p = put_none (commas c.args.numbers.now) c.args.at c.args.out.now (omega arith) in
    record { value = p.0; out_after = p.1 }

-- what the numbers have, and what the room has behind the place
module _ (c : After-numbers_fit) where
  abbrev text : List ℕ
  text = commas c.args.numbers.now

  abbrev left : ℕ
  left = length c.args.out.now - c.args.at

pub returns-then-not-numbers_fit : goal.returns-then-not-numbers_fit
returns-then-not-numbers_fit c =
    let test = (goal.at.returns-then-not-numbers_fit c).After-numbers_fit in
    let more = leb-false (length (text test)) (left test) (sym c.numbers_fit.ensures ∙ c.if-not-numbers_fit.true) in
    let p = put_none (text test) c.args.at c.args.out.now (omega arith) in
    record { value = p.0; out_after = p.1 }

room : (c : Else-not-numbers_fit) → Room (commas c.args.numbers.now) c.args.at c.args.out.now
room c =
    let all =
    leb-true (length (commas c.args.numbers.now)) (length c.args.out.now - c.args.at) (sym c.numbers_fit.ensures ∙ c.if-not-numbers_fit.false) in
    record { fits = omega arith }

pub each_number-requires : goal.each_number-requires
each_number-requires c = room (goal.at.each_number-requires c).Else-not-numbers_fit

pub returns : goal.returns
returns c =
    let p = put (room (goal.at.returns c).Else-not-numbers_fit) c.each_number.ensures in
    record { value = p.0; out_after = p.1 }
