use Rattle.texts.proofs.HexText.{HexLeft}
use Rattle.texts.proofs.hex.write_hex.Given as goal

abbrev pub invariant-loop-b : goal.invariant-loop-b
invariant-loop-b l = HexLeft l.bytes l.b-index l.end l.at l.out l.initial.out
