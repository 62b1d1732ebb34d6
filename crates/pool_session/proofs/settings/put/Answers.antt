use mathlib.Core.Path.{sym, ◌∙◌}
use lib.ListN.{length}
use borrow.Author.Tests.{le-ltb, lt-ltb}
use Rattle.refusals.specs.Refusals.{answer_of}
use Rattle.pool_session.specs.Session.{setting_answer}
use Rattle.pool_session.proofs.settings.put.Goals as goal

pub returns-then-is_empty-clause-value : goal.returns-then-is_empty-clause-value
unfolding setting_answer answer_of
returns-then-is_empty-clause-value g c = rw (sym c.is_empty.ensures ∙ c.if-is_empty.true)

pub returns-then-settings-slot-clause-value : goal.returns-then-settings-slot-clause-value
unfolding setting_answer answer_of
returns-then-settings-slot-clause-value g c =
    rw (sym c.is_empty.ensures ∙ c.if-is_empty.false, le-ltb c.args.slot (length c.args.settings.now) c.if-settings-slot.true)

pub returns-clause-value : goal.returns-clause-value
unfolding setting_answer answer_of
returns-clause-value g c =
    rw (sym c.is_empty.ensures ∙ c.if-is_empty.false, lt-ltb c.args.slot (length c.args.settings.now) c.if-settings-slot.false)
