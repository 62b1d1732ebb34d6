use Rattle.texts.proofs.HexText.{Spelt}
use Rattle.texts.proofs.hex.read_hex.Given as goal

abbrev pub invariant-loop-i : goal.invariant-loop-i
invariant-loop-i l = Spelt l.text l.bytes l.i
