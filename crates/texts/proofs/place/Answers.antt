use mathlib.Core.Path.{sym, ap, ◌∙◌}
use Prim.Native.Nat.{ℕ, ◌+◌, ◌-◌}
use native.Mathlib.Omega.{arith}
use lib.ListN.{length, drop, length-drop}
use lib.Seq.{take_all}
use Rattle.texts.proofs.Places.{found_or, place_past}
use Rattle.texts.proofs.place.Goals as goal

pub returns-then-text-from : goal.returns-then-text-from
returns-then-text-from c = sym (place_past c.args.byte c.args.text.now c.args.from (omega arith))

-- the rest of the text is what is searched
pub returns : goal.returns
returns c =
    let rest = take_all (length c.args.text.now - c.args.from) (drop c.args.from c.args.text.now) (simp length-drop (omega arith)) in
    let found = found_or c.args.byte (drop c.args.from c.args.text.now) c.find.result (rw rest at c.find.ensures) in
    ap (λ (n : ℕ). c.args.from + n) (rw rest at c.unwrap_or.ensures ∙ found)
