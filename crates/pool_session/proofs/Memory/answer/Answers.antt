use mathlib.Core.Path.{◌≡◌, refl, sym, ap, ◌∙◌}
use mathlib.Core.List.{List}
use Prim.Native.Nat.{ℕ}
use Rattle.std.proofs.Common.{Some}
use Rattle.pool_reader.specs.declared.Parsed.{Parsed}
use Rattle.pool_reader.specs.Calls.{asked}
use Rattle.pool_reader.specs.Requests.{request_of}
use Rattle.pool_session.proofs.Steps.{asks}
use Rattle.pool_session.proofs.Memory.answer.Goals as goal

-- the line asks for what was read
asked_as : (line txid parents : List ℕ) {r p : Parsed} → asked (Some r) txid parents ≡ request_of line → r ≡ p → asked (Some p) txid parents ≡ request_of line
asked_as line txid parents h e = ap (λ (p : Parsed). asked (Some p) txid parents) (sym e) ∙ h

pub returns-in-Make : goal.returns-in-Make
returns-in-Make c = asks refl (asked_as _ _ _ c.in-Some.ensures c.in-Make.is) (c.make.ensures c.args.number)

pub returns-in-Add : goal.returns-in-Add
returns-in-Add c = asks refl (asked_as _ _ _ c.in-Some.ensures c.in-Add.is) (c.add.ensures c.args.number)

pub returns-in-Remove : goal.returns-in-Remove
returns-in-Remove c = asks refl (asked_as _ _ _ c.in-Some.ensures c.in-Remove.is) (c.remove.ensures c.args.number)

pub returns-in-SetCost : goal.returns-in-SetCost
returns-in-SetCost c = asks refl (asked_as _ _ _ c.in-Some.ensures c.in-SetCost.is) (c.set_cost.ensures c.args.number)

pub returns-in-Clear : goal.returns-in-Clear
returns-in-Clear c = asks refl (asked_as _ _ _ c.in-Some.ensures c.in-Clear.is) (c.clear.ensures c.args.number)

pub returns-in-Totals : goal.returns-in-Totals
returns-in-Totals c = asks refl (asked_as _ _ _ c.in-Some.ensures c.in-Totals.is) (c.totals.ensures c.args.number)

pub returns-in-Delta : goal.returns-in-Delta
returns-in-Delta c = asks refl (asked_as _ _ _ c.in-Some.ensures c.in-Delta.is) (c.put_delta.ensures c.args.number)

pub returns-in-Mark : goal.returns-in-Mark
returns-in-Mark c = asks refl (asked_as _ _ _ c.in-Some.ensures c.in-Mark.is) (c.put_mark.ensures c.args.number)

pub returns-in-Template : goal.returns-in-Template
returns-in-Template c = asks refl (asked_as _ _ _ c.in-Some.ensures c.in-Template.is) (c.template.ensures c.args.number)
