use mathlib.Core.Path.{sym, ◌∙◌}
use Rattle.pool_run.specs.Stops.{ended, closed}
use Rattle.pool_run.proofs.Steps.{all_printed}
use Rattle.pool_run.proofs.Desk.finish.Goals as goal

pub returns-then-not-is_open : goal.returns-then-not-is_open
returns-then-not-is_open c = closed (sym c.is_open.ensures ∙ c.if-not-is_open.true)

pub returns : goal.returns
returns c =
    ended (all_printed c.requires (c.last_text-n.ensures c.requires.pending c.requires.kept) c.write_last-self.ensures
    (sym c.is_open.ensures ∙ c.if-not-is_open.false))
