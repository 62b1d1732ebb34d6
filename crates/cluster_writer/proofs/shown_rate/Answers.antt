use mathlib.Core.Path.{ap, ◌∙◌}
use lib.IntN.{nat_abs}
use mir.Syntax.{w64}
use mir.Val.{SFits}
use mir.Facts.{to_z-of_z}
use borrow.Author.Rules.{rules, sfits_of}
use Rattle.feefrac.proofs.Signed.{less, not_less, zero_fits}
use Rattle.cluster_writer.specs.Writing.{shown_rate}
use Rattle.cluster_writer.proofs.Rate.{held_up, held_down, rate_up, rate_down}
use Rattle.cluster_writer.proofs.shown_rate.Goals as goal

pub returns-then-rate-lt0 : goal.returns-then-rate-lt0
returns-then-rate-lt0 c =
    let f : SFits w64 c.args.rate.fee = search rules in
    let q = rw (c.unsigned_abs.ensures.value ∙ ap nat_abs (to_z-of_z {w = w64} f)) at c.scaled_over-q.ensures in
    let r = c.saturating_sub_unsigned in
    to_z-of_z {w = w64} (sfits_of r.type_inv) ∙ r.ensures ∙ held_down c.scaled_over-q.result
    ∙ rate_down c.args.rate c.if-rate-eq0.false q (less f zero_fits c.if-rate-lt0.true)

pub returns-then-rate-eq0 : goal.returns-then-rate-eq0
unfolding shown_rate
returns-then-rate-eq0 c = rw c.if-rate-eq0.true

pub returns : goal.returns
returns c =
    let f : SFits w64 c.args.rate.fee = search rules in
    let q = rw (c.unsigned_abs.ensures.value ∙ ap nat_abs (to_z-of_z {w = w64} f)) at c.scaled_over-q.ensures in
    let r = c.saturating_add_unsigned in
    to_z-of_z {w = w64} (sfits_of r.type_inv) ∙ r.ensures ∙ held_up c.scaled_over-q.result
    ∙ rate_up c.args.rate c.if-rate-eq0.false q (not_less f zero_fits c.if-rate-lt0.false)
