use mathlib.Core.Path.{sym, ◌∙◌}
use Rattle.cluster_reader.proofs.Reading.{first_none, first_many, first_count}
use Rattle.cluster_reader.proofs.first_line.Goals as goal

pub returns-then-n : goal.returns-then-n
returns-then-n c = sym (first_many c.args.text.now c.in-Some.n (sym c.first_number.ensures ∙ c.in-Some.is) c.if-n.true)

pub returns-in_default : goal.returns-in_default
returns-in_default c = sym (first_none c.args.text.now (sym c.first_number.ensures ∙ c.in_default.is))

pub returns : goal.returns
returns c = sym (first_count c.args.text.now c.in-Some.n (sym c.first_number.ensures ∙ c.in-Some.is) c.if-n.false)
