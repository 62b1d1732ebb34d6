use Rattle.std.proofs.Common.{◌≡◌, sym, ap, ◌∙◌, ℕ, ◌∷◌, length, arith}
use Rattle.txset.specs.Sets.{members}
use Rattle.txset.proofs.Walk.{walk_done, walk_step}
use Rattle.txset.proofs.MembersIterator.next.Goals as goal
use Rattle.txset.proofs.MembersIterator.next.Goals.{After-lowest}

-- the members are the lowest and those that are left
next : (c : After-lowest) → members c.args.self.now.rest ≡ c.lowest.result ∷ members c.without_lowest-self.result
next c =
    walk_step _ _ c.without_lowest-self.ensures (sym c.is_empty.ensures ∙ c.if-is_empty.false)
    ∙ ap (λ (i : ℕ). i ∷ members c.without_lowest-self.result) (sym c.lowest.ensures)

pub returns-then-is_empty-clause-steps : goal.returns-then-is_empty-clause-steps
returns-then-is_empty-clause-steps c = let e = walk_done _ (sym c.is_empty.ensures ∙ c.if-is_empty.true) in (e, e)

pub returns-clause-steps : goal.returns-clause-steps
returns-clause-steps c = next (goal.at.returns-clause-steps c).After-lowest

pub returns-clause-goes : goal.returns-clause-goes
returns-clause-goes c =
    let e = ap length (next (goal.at.returns-clause-goes c).After-lowest) in
    record { on = λ _. (tt, tt, omega (arith, e)); keeps = tt; rests = λ _. tt }
