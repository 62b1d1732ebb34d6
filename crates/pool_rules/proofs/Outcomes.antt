-- What C is told of a slot or of totals: two outcomes with one answer are one. Assumes nothing.
use Rattle.std.proofs.Common.{◌≡◌, ℕ, Result, Ok, Err, refl, sym, ap, ◌∙◌}
use Rattle.refusals.specs.declared.Refusal.{Refusal}
use Rattle.refusals.specs.declared.Reply.{Reply}
use Rattle.refusals.specs.Refusals.{reply_from}
use Rattle.refusals.proofs.Outcomes.{number_one, reply_one}
use Rattle.pool_rules.specs.declared.Placed.{Placed}
use Rattle.pool_rules.specs.declared.Sums.{Sums}
use Rattle.pool_rules.specs.declared.Totals.{Totals}
use Rattle.pool_rules.specs.Calls.{placed_from, totals_from}

-- a slot is told as places written are
abbrev as_reply : Placed → Reply
as_reply p = record { answer = p.answer; written = p.slot }

as_reply_from : (r : Result ℕ Refusal) → as_reply (placed_from r) ≡ reply_from r
as_reply_from (Ok n) = refl
as_reply_from (Err r) = refl

pub placed_one : (r s : Result ℕ Refusal) → placed_from r ≡ placed_from s → r ≡ s
placed_one r s e = reply_one r s (sym (as_reply_from r) ∙ ap as_reply e ∙ as_reply_from s)

-- no refusal has the number of success
apart : (a : Sums) (r : Refusal) → totals_from (Ok a) ≡ totals_from (Err r) → ⊥
apart a r e =
    let same : Ok a.entries ≡ Err r = reply_one _ _ (ap (λ (t : Totals). record { answer = t.answer; written = t.entries }) e) in cc

pub totals_one : (r s : Result Sums Refusal) → totals_from r ≡ totals_from s → r ≡ s
totals_one (Ok a) (Ok b) e = ap Ok (ap (λ (t : Totals). record { entries = t.entries; weight = t.weight }) e)
totals_one (Ok a) (Err r) e = absurd (apart a r e)
totals_one (Err r) (Ok a) e = absurd (apart a r (sym e))
totals_one (Err r) (Err s) e = ap Err (number_one r s (ap (λ (t : Totals). t.answer) e))
