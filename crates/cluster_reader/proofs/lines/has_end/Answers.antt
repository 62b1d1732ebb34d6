use mathlib.Core.Path.{sym}
use native.Mathlib.Omega.{arith}
use Rattle.cluster_reader.proofs.Places.{has_line, only_long}
use Rattle.cluster_reader.proofs.lines.has_end.Goals as goal

pub returns-then-place-text : goal.returns-then-place-text
returns-then-place-text c = sym (has_line c.args.text.now (omega (arith, c.place.ensures)))

pub returns : goal.returns
returns c = sym (only_long c.args.text.now (omega (arith, c.place.ensures)))
