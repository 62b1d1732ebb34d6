use mathlib.Core.List.{[]}
use mathlib.Core.Path.{sym, ◌∙◌}
use Rattle.txset.specs.Sets.{words, mem}
use Rattle.txset.proofs.Bits.{has_shift}
use Rattle.txset.proofs.Words.{has_in_low, has_in_past}
use Rattle.txset.proofs.TxSet.contains.Goals as goal

pub returns-then-k-ge-POSITIONS : goal.returns-then-k-ge-POSITIONS
unfolding mem
returns-then-k-ge-POSITIONS c = sym (has_in_past (words c.args.self) c.args.k c.if-k-ge-POSITIONS.true)

pub returns : goal.returns
unfolding mem
returns c = let w = c.args.self.word in
    let k = c.args.k in
    has_shift w k ∙ sym (has_in_low w [] k c.if-k-ge-POSITIONS.false)
