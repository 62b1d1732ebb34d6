use mathlib.Core.Path.{sym, ap, ◌∙◌}
use native.Mathlib.Omega.{arith}
use Rattle.std.proofs.Common.{Some}
use Rattle.cluster_reader.proofs.Places.{line_open, line_long, line_whole}
use Rattle.cluster_reader.proofs.lines.line_end.Goals as goal

pub returns : goal.returns
returns c = let e = c.place-end.ensures in
    ap Some e ∙ sym (line_whole c.args.text.now c.args.from (omega (arith, e)) (omega (arith, e)))

pub returns-then-text-end : goal.returns-then-text-end
returns-then-text-end c = sym (line_open c.args.text.now c.args.from (omega (arith, c.place-end.ensures)))

pub returns-then-end-from-gt-LONGEST : goal.returns-then-end-from-gt-LONGEST
returns-then-end-from-gt-LONGEST c = sym (line_long c.args.text.now c.args.from (omega (arith, c.place-end.ensures)))
